-- The field table of a text. Assumes nothing.
use Rattle.std.specs.Prelude.{ℕ, List, [], ◌∷◌, map, length}
use Rattle.std.specs.Option.{unwrap_or}
use Rattle.fields.specs.declared.walk.Field.{Field as TextField}
use Rattle.fields.specs.Fields.{fields}
use Rattle.sheet.specs.Rows.{Row}
use Rattle.sheet.specs.Keys.{key_of, find_row}
use Rattle.reader.specs.declared.table.Entry.{Entry}

-- the entry of a field: the number of its row, where its value starts and how long that is
abbrev pub entry_of : List Row → List ℕ → TextField → Entry
entry_of rows text f = record { row = unwrap_or (find_row rows (key_of text f)) (length rows); start = f.value; len = f.len }

-- the entries of all fields
abbrev pub table_of : List Row → List ℕ → List Entry
table_of rows text = map (entry_of rows text) (fields text)

-- a list with the first entries in place of its own, as many as it has room for
abbrev pub filled : List Entry → List Entry → List Entry
filled [] table = table
filled (e ∷ es) [] = []
filled (e ∷ es) (old ∷ table) = e ∷ filled es table
