-- What the rows of a sheet are, and the parts of a row. Assumes nothing.
use Rattle.std.specs.Prelude.{ℕ, min, Bool, ◌&&◌, List, length, take, Some, None, Option, ◌==◌}
use Rattle.std.specs.List.{list_any}
use Rattle.fields.specs.declared.headers.Tag.{Tag}
use Rattle.fields.specs.declared.headers.Qualifier.{Qualifier}
use Rattle.sheet.specs.declared.marks.Mark.{Mark}
use Rattle.sheet.specs.declared.rows.Format.{Format}
use Rattle.sheet.specs.declared.rows.BlockName.{BlockName}
use Rattle.sheet.specs.declared.rows.Qualifiers.{Qualifiers}
use Rattle.sheet.specs.declared.rows.FieldRow.{FieldRow as KeptFieldRow}
use Rattle.sheet.specs.declared.rows.Row.{Row as KeptRow}
use Rattle.sheet.specs.declared.rows.Row.TheVariants.{Open as KeptOpen, Close as KeptClose, Field as KeptField}

-- the name of a block
abbrev pub name_of : BlockName → List ℕ
name_of n = take (min n.len 8) n.bytes

-- the qualifiers of a row
abbrev pub qualifiers_of : Qualifiers → List Qualifier
qualifiers_of q = take (min q.count 9) q.items

-- the row of a field
pub record FieldRow : Type 0 where
  pub mark : Mark
  pub tag : Tag
  pub qualifiers : List Qualifier
  pub format : Format

-- a row: where the block of a name begins, where it ends, or a field
pub data Row : Type 0 where
  Open : Mark → List ℕ → Row
  Close : List ℕ → Row
  Field : FieldRow → Row

-- the row that a program's row, which keeps its name or its qualifiers in a few places, says
abbrev pub field_row_of : KeptFieldRow → FieldRow
field_row_of f = record { mark = f.mark; tag = f.tag; qualifiers = qualifiers_of f.qualifiers; format = f.format }

abbrev pub row_of : KeptRow → Row
row_of (KeptOpen m n) = Open m (name_of n)
row_of (KeptClose n) = Close (name_of n)
row_of (KeptField f) = Field (field_row_of f)

-- is it the same tag, the same qualifier?
abbrev pub is_tag : Tag → Tag → Bool
is_tag a b = a.0 == b.0 && (a.1 == b.1 && a.2 == b.2)

abbrev pub is_qualifier : Qualifier → Qualifier → Bool
is_qualifier a b = a.0 == b.0 && (a.1 == b.1 && (a.2 == b.2 && a.3 == b.3))

abbrev pub among : Qualifier → List Qualifier → Bool
among q qs = list_any (λ x. is_qualifier x q) qs

-- may a field have this qualifier? It is one of those, and there is none where there are none.
abbrev pub admits : List Qualifier → Option Qualifier → Bool
admits qs None = length qs == 0
admits qs (Some q) = among q qs
