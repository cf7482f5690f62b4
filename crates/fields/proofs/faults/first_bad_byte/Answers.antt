use Rattle.std.proofs.Common.{rules}
use Rattle.std.proofs.iter.runs.Sources.{ranges}
use Rattle.fields.specs.Faults.{bad_at}
use Rattle.fields.proofs.faults.first_bad_byte.Goals as goal

pub returns-clause-first : goal.returns-clause-first
unfolding bad_at
returns-clause-first c = λ k. search (rules, ranges)

pub returns-clause-none : goal.returns-clause-none
unfolding bad_at
returns-clause-none c = search (rules, ranges)
