-- An agenda: a place for each of 32 questions. Assumes nothing.
use Rattle.std.specs.Prelude.{ℕ, zero, suc, ◌-◌, Bool, false, cond, List, replicate, is_some, Some, None, Ok, Err, Option, Result, slice_set}
use Rattle.std.specs.List.{slice_get}
use Rattle.agenda.specs.declared.faults.AgendaFault.{AgendaFault}
use Rattle.agenda.specs.declared.faults.AgendaFault.TheVariants as F
use Rattle.agenda.specs.declared.question.Question.{Question}
use Rattle.agenda.specs.Questions.{is_fit, has_cell_in}

-- the questions by their places; that of number n stands at place n - 1
abbrev pub Table : Type 0
Table = List (Option Question)

-- no question
abbrev pub blank : Table
blank = replicate 32 None

abbrev pub there : Option (Option Question) → Option Question
there None = None
there (Some q) = q

-- the place of a number; 0 has none
abbrev pub place_of : ℕ → Option ℕ
place_of zero = None
place_of (suc k) = Some k

-- the question of a number, if it is on the agenda
abbrev pub asked : Table → ℕ → Option Question
asked table zero = None
asked table (suc k) = there (slice_get table k)

abbrev pub cell_there : Option Question → ℕ → Bool
cell_there None cell = false
cell_there (Some q) cell = has_cell_in q cell

-- is the cell on the agenda?
abbrev pub has_cell : Table → ℕ → ℕ → Bool
has_cell table question cell = cell_there (asked table question) cell

-- what filling in a question answers: is it one that an agenda can have, and is its number new?
abbrev pub verdict : Table → Question → Result (Unit {0}) AgendaFault
verdict table q = cond (is_fit q) (cond (is_some (asked table q.number)) (Err F.Repeated) (Ok tt)) (Err F.Question)

-- and the table that it leaves
abbrev pub filled : Table → Question → Result (Unit {0}) AgendaFault → Table
filled table q (Ok u) = slice_set table (q.number - 1) (Some q)
filled table q (Err e) = table
