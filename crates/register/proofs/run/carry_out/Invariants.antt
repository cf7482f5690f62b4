use Rattle.std.proofs.Common.{◌≡◌, take, drop}
use Rattle.register.specs.Runs.{Answered, Ran}
use Rattle.register.proofs.run.carry_out.Given as goal

abbrev pub invariant-loop-i : goal.invariant-loop-i
invariant-loop-i g l = Ran (Answered g.R.Register.pairs g.R.Register.room g.R.Register.ordered g.R.Register.rule) l.initial.register (take l.i l.calls) (take l.i l.answers) l.register × (drop l.i l.answers ≡ drop l.i l.initial.answers)
