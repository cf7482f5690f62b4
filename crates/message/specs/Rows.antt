-- The rows of the two sheets whose values say what a message says. Assumes nothing.
use Rattle.std.specs.Prelude.{ℕ, List, length, Some, Option}
use Prim.Native.String.{String}
use Rattle.std.specs.Option.{unwrap_or}
use Rattle.fields.specs.declared.headers.Qualifier.{Qualifier}
use Rattle.sheet.specs.Rows.{Row}
use Rattle.sheet.specs.Keys.{find_row}
use Rattle.sheet.specs.Keys.Key.{names}
use Rattle.sheets.specs.Tables.{rows565, rows567}
use Rattle.sheets.specs.Words.{tag, qualifier}
use Rattle.message.specs.declared.rows.Keyed.{Keyed}

-- the number of the row of a field with this tag and this qualifier, if any
abbrev pub row_of : List Row → String → Option Qualifier → ℕ
row_of rows t q = unwrap_or (find_row rows (names (tag t) q)) (length rows)

-- the same of a field that has a qualifier, with that
abbrev pub keyed : List Row → String → String → Keyed
keyed rows t q = record { row = row_of rows t (Some (qualifier q)); qualifier = qualifier q }

-- a row of an instruction, by tag and qualifier
abbrev pub in565 : String → String → Keyed
in565 t q = keyed rows565 t q

-- and one of a status
abbrev pub in567 : String → String → Keyed
in567 t q = keyed rows567 t q
