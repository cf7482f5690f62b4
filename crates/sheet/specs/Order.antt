-- The order of a text's fields, one field after the other. Assumes nothing.
use Rattle.std.specs.Prelude.{ℕ, cond, List, [], ◌∷◌, length, is_some, Some, None, Option}
use Rattle.fields.specs.declared.walk.Field.{Field as TextField}
use Rattle.fields.specs.Fields.{fields}
use Rattle.sheet.specs.Rows.{Row}
use Rattle.sheet.specs.Keys.{Key, key_of, find_row}
use Rattle.sheet.specs.Steps.{follows, may_end}

-- the row, if it may come next, where `last` is the row read last, if any
abbrev pub allowed : List Row → Option ℕ → Option ℕ → Option ℕ
allowed rows last None = None
allowed rows last (Some i) = cond (follows rows last i) (Some i) None

-- the row that has the key, if it may come next
abbrev pub next_row : List Row → Option ℕ → Key → Option ℕ
next_row rows last key = allowed rows last (find_row rows key)

-- the start of the first of these fields of the text that has no such row; else the text's length, where it may not end there
abbrev pub order_from : List Row → List ℕ → Option ℕ → List TextField → Option ℕ
order_from rows text last [] = cond (may_end rows last) None (Some (length text))
order_from rows text last (f ∷ fs) =
    cond (is_some (next_row rows last (key_of text f))) (order_from rows text (next_row rows last (key_of text f)) fs) (Some f.start)

abbrev pub order_fault : List Row → List ℕ → Option ℕ
order_fault rows text = order_from rows text None (fields text)
