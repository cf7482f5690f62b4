-- Those behind move up by one.
use Rattle.std.proofs.Common.{arith, sym}
use Rattle.std.proofs.lemmas.List.{length-take}
use Rattle.std.proofs.lemmas.Bool.{leb-false}
use Rattle.register.proofs.Gaps.{opened}
use Rattle.register.proofs.slots.Slots.insert.Goals as goal

pub returns-clause-held : goal.returns-clause-held
returns-clause-held c =
    let s = c.args.self.now in
    let n = length-take s.used s.slots.now in
    let spare = leb-false _ _ (sym c.if-is_full.ensures) in
    simp c.copy_within.ensures.after (opened s.slots.now s.used c.args.at c.args.pair (omega arith) (omega arith))
