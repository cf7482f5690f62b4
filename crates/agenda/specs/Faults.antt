-- The number of each fault of a draft or a figure. Assumes nothing.
use Rattle.std.specs.Prelude.{ℕ}
use Rattle.agenda.specs.declared.faults.AgendaFault.{AgendaFault}
use Rattle.agenda.specs.declared.faults.AgendaFault.TheVariants.{Name, Question, Repeated, Cell}

abbrev pub number_of : AgendaFault → ℕ
number_of Name = 21
number_of Question = 22
number_of Repeated = 23
number_of Cell = 24
