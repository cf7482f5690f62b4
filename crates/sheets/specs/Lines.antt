-- The row that a line of a table says. Assumes nothing.
use Rattle.sheet.specs.declared.rows.BlockName.{BlockName}
use Rattle.sheet.specs.declared.rows.Qualifiers.{Qualifiers}
use Rattle.sheet.specs.declared.rows.FieldRow.{FieldRow as KeptFieldRow}
use Rattle.sheet.specs.declared.rows.Row.{Row as KeptRow}
use Rattle.sheet.specs.declared.rows.Row.TheVariants.{Open as KeptOpen, Close as KeptClose, Field as KeptField}
use Rattle.sheets.specs.declared.tables.Name.{Name}
use Rattle.sheets.specs.declared.tables.List.{List as QualifierList}
use Rattle.sheets.specs.declared.tables.FieldLine.{FieldLine}
use Rattle.sheets.specs.declared.tables.Line.{Line}
use Rattle.sheets.specs.declared.tables.Line.TheVariants.{Open as OpenLine, Close as CloseLine, Field as FieldOn}

-- the name and the qualifiers that are lent are those of the row
abbrev pub name_in : Name → BlockName
name_in n = record { bytes = n.bytes.now; len = n.len }

abbrev pub list_in : QualifierList → Qualifiers
list_in q = record { items = q.items.now; count = q.count }

abbrev pub field_row_in : FieldLine → KeptFieldRow
field_row_in f = record { mark = f.mark; tag = f.tag; qualifiers = list_in f.qualifiers; format = f.format }

abbrev pub row_in : Line → KeptRow
row_in (OpenLine m n) = KeptOpen m (name_in n)
row_in (CloseLine n) = KeptClose (name_in n)
row_in (FieldOn f) = KeptField (field_row_in f)
