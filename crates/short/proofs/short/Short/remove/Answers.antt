use Rattle.std.proofs.Common.{arith}
use Rattle.short.proofs.Gaps.{closed}
use Rattle.short.proofs.short.Short.remove.Goals as goal

pub returns-then-at-self : goal.returns-then-at-self
returns-then-at-self g c = rw (← c.self.view_is) (simp c.copy_within.ensures.after (closed c.self.inside.items c.self.inside.len c.args.at c.if-at-self.true (omega arith)))
