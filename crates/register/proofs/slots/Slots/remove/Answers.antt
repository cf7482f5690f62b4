-- Those behind move down by one.
use Rattle.std.proofs.Common.{arith}
use Rattle.std.proofs.lemmas.List.{length-take}
use Rattle.register.proofs.Gaps.{closed}
use Rattle.register.proofs.slots.Slots.remove.Goals as goal

pub returns-clause-held : goal.returns-clause-held
returns-clause-held c =
    let s = c.args.self.now in
    let n = length-take s.used s.slots.now in
    simp c.copy_within.ensures.after (closed s.slots.now s.used c.args.at (omega arith) (omega arith))
