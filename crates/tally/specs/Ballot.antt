-- The ballot: a sum for each of 32 questions and 16 cells, modulo 2^64. Assumes nothing.
use Rattle.std.specs.Prelude.{ℕ, ◌+◌, ◌-◌, ◌%◌, ◌^◌, Bool, cond, ◌&&◌, List, [], Some, None, Option, ◌==◌, nat_le, slice_index, slice_index_or, slice_set}
use Rattle.std.proofs.Common.{lit<}
use Rattle.tally.specs.declared.vote.Vote.{Vote}
use Rattle.tally.specs.Scale.{Scale}
use Rattle.tally.specs.Combined.{each}
use Rattle.tally.specs.Residue.{Residue, residue, modulo}

-- questions 1 to 32 and cells 1 to 16
abbrev pub on_table : ℕ → ℕ → Bool
on_table question cell = (nat_le 1 question && nat_le question 32) && (nat_le 1 cell && nat_le cell 16)

-- is the vote cast in this cell of this question?
abbrev pub cast_in : Vote → ℕ → ℕ → Bool
cast_in v question cell = v.question == question && v.cell == cell

-- a vote weighs its quantity in its own cell, and nothing in any other or off the table
abbrev pub ballot_weight : Vote → ℕ → ℕ → ℕ
ballot_weight v question cell = cond (on_table question cell && cast_in v question cell) v.quantity 0

-- a number modulo 2^64 for each question and cell
abbrev pub Figures : Type 0
Figures = ℕ → ℕ → Residue (2 ^ 64)

-- weights are added modulo 2^64, each cell for itself
abbrev pub ballot : Scale Figures
ballot = each (λ question. each (λ cell. modulo (2 ^ 64) (lit< tt) (λ v. ballot_weight v question cell)))

-- the number of a cell of a question, both counted from 1
abbrev pub number_at : List (List ℕ) → ℕ → ℕ → ℕ
number_at numbers question cell = slice_index (slice_index_or numbers (question - 1) []) (cell - 1)

-- the figures that 16 numbers for each of 32 questions hold; off the table they are 0
abbrev pub figures : List (List ℕ) → Figures
figures numbers question cell = residue (2 ^ 64) (lit< tt) (cond (on_table question cell) (number_at numbers question cell) 0)

-- the numbers with one of them raised; off the table they stay
abbrev pub shifted : List (List ℕ) → ℕ → ℕ → ℕ → List (List ℕ)
shifted numbers question cell by = cond (on_table question cell) (slice_set numbers (question - 1) (slice_set (slice_index_or numbers (question - 1) []) (cell - 1) ((number_at numbers question cell + by) % 2 ^ 64))) numbers

-- what is answered of a question and a cell: its figure, and none off the table
abbrev pub answered : Figures → ℕ → ℕ → Option ℕ
answered f question cell = cond (on_table question cell) (Some (f question cell).0) None
