-- What an iterator over the rows of a sheet has yet to give. Assumes nothing.
use Rattle.std.specs.Prelude.{ℕ, List, drop}
use Rattle.std.specs.List.{enumerate_from}
use Rattle.sheet.specs.declared.rows.Row.{Row as KeptRow}
use Rattle.sheet.specs.declared.walk.Rows.{Rows}
use Rattle.sheet.specs.Rows.{Row, row_of}

-- the rows from number k on, each behind its number
abbrev pub numbered : ℕ → List Row → List (ℕ × Row)
numbered k rows = enumerate_from k (drop k rows)

-- those that are left, where `rows` says which rows the sheet has
abbrev pub coming : {S : Type 0} → (S → List Row) → Rows S → List (ℕ × Row)
coming rows s = numbered s.at (rows s.sheet.now)

-- what an item says
abbrev pub number_and_row : ℕ × KeptRow → ℕ × Row
number_and_row p = (p.0, row_of p.1)
