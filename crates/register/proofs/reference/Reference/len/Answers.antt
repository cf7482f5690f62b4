-- The characters end at the first zero.
use Rattle.std.proofs.Common.{◌≡◌, rules, tests, arith}
use Rattle.std.proofs.lemmas.Iterator.{IsFirst-from_position, YieldsList-from_slice}
use Rattle.register.proofs.Padding.{text_ends, text_held}
use Rattle.register.proofs.reference.Reference.len.Goals as goal

pub returns : goal.returns
returns c =
    let bs = c.args.self.now.bytes in
    let first = IsFirst-from_position _ _ _ (λ b. b ≡ 0) (λ b. b ≡ 0 → ⊥) c.position.ensures.ran (YieldsList-from_slice bs cc) (λ x q k. search (rules, tests)) (λ x q k. search (rules, tests)) in
    let ends = text_ends bs c.position.result (omega arith) first in
    record { within = rw c.unwrap_or.ensures ends.0; text = text_held bs (omega arith) c.args.self.now.ok; ends = rw c.unwrap_or.ensures ends.1 }
