-- What a figure question answers. Assumes nothing.
use Rattle.std.specs.Prelude.{ℕ, cond, Ok, Err, Option, Result}
use Rattle.agenda.specs.Agendas.{Table, has_cell}
use Rattle.agenda.specs.declared.faults.AgendaFault.{AgendaFault}
use Rattle.agenda.specs.declared.faults.AgendaFault.TheVariants.{Cell}

-- the figure that the tally tells, where the question and the cell are on the agenda
abbrev pub figured : Table → ℕ → ℕ → Option ℕ → Result (Option ℕ) AgendaFault
figured table question cell figure = cond (has_cell table question cell) (Ok figure) (Err Cell)
