-- The rows of the two sheets as the program keeps them. Assumes nothing.
use Rattle.std.specs.Prelude.{ℕ, List, [], ◌∷◌, ◌++◌, ◌-◌, length, map, replicate}
use Rattle.fields.specs.declared.headers.Qualifier.{Qualifier}
use Rattle.sheet.specs.declared.rows.BlockName.{BlockName}
use Rattle.sheet.specs.declared.rows.Qualifiers.{Qualifiers}
use Rattle.sheet.specs.declared.rows.FieldRow.{FieldRow as KeptFieldRow}
use Rattle.sheet.specs.declared.rows.Row.{Row as KeptRow}
use Rattle.sheet.specs.declared.rows.Row.TheVariants.{Open as KeptOpen, Close as KeptClose, Field as KeptField}
use Rattle.sheet.specs.Rows.{Row, FieldRow}
use Rattle.sheet.specs.Rows.Row.{Open, Close, Field}
use Rattle.sheets.specs.declared.standard.StandardSheet.{StandardSheet}
use Rattle.sheets.specs.Standards.{rows_of}

-- the last of the qualifiers; no qualifier where there are none
abbrev pub last_of : List Qualifier → Qualifier
last_of [] = (0, 0, 0, 0)
last_of (q ∷ []) = q
last_of (q ∷ r ∷ qs) = last_of (r ∷ qs)

-- behind a name stand zeros, and behind the qualifiers the last of them
abbrev pub name_kept : List ℕ → BlockName
name_kept n = record { bytes = n ++ replicate (8 - length n) 0; len = length n }

abbrev pub list_kept : List Qualifier → Qualifiers
list_kept qs = record { items = qs ++ replicate (9 - length qs) (last_of qs); count = length qs }

abbrev pub field_kept : FieldRow → KeptFieldRow
field_kept f = record { mark = f.mark; tag = f.tag; qualifiers = list_kept f.qualifiers; format = f.format }

abbrev pub row_kept : Row → KeptRow
row_kept (Open m n) = KeptOpen m (name_kept n)
row_kept (Close n) = KeptClose (name_kept n)
row_kept (Field f) = KeptField (field_kept f)

abbrev pub kept_of : StandardSheet → List KeptRow
kept_of s = map row_kept (rows_of s)
