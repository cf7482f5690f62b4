-- The text that entries spell. Assumes nothing.
use Rattle.std.specs.Prelude.{ℕ, cond, List, [], ◌∷◌, ◌++◌, Some, None, Option}
use Rattle.std.specs.List.{slice_get}
use Rattle.fields.specs.declared.headers.Tag.{Tag}
use Rattle.fields.specs.declared.headers.Qualifier.{Qualifier}
use Rattle.sheet.specs.Rows.{Row}
use Rattle.sheet.specs.Rows.Row.{Open, Close, Field}
use Rattle.sheet.specs.Rows.{admits}
use Rattle.reader.specs.declared.table.Entry.{Entry}
use Rattle.writer.specs.Entries.{part_in}

-- the tag of the row's fields: 16R where a block begins, 16S where it ends
abbrev pub tag_in : Row → Tag
tag_in (Open m n) = (49, 54, 82)
tag_in (Close n) = (49, 54, 83)
tag_in (Field f) = f.tag

-- the second colon; nothing where a field has none of these qualifiers, since there are none
abbrev pub colon_for : List Qualifier → List ℕ
colon_for qs = cond (admits qs None) [] (58 ∷ [])

abbrev pub second_in : Row → List ℕ
second_in (Open m n) = []
second_in (Close n) = []
second_in (Field f) = colon_for f.qualifiers

-- colon, the row's tag, colon, a second colon where the row has qualifiers
abbrev pub head_in : Row → List ℕ
head_in r = 58 ∷ (tag_in r).0 ∷ (tag_in r).1 ∷ (tag_in r).2 ∷ 58 ∷ second_in r

-- and then the part and CR LF
abbrev pub spelled_row : Row → List ℕ → List ℕ
spelled_row r part = head_in r ++ (part ++ (13 ∷ 10 ∷ []))

-- nothing, where there is no row
abbrev pub spelled_by : Option Row → List ℕ → List ℕ
spelled_by None part = []
spelled_by (Some r) part = spelled_row r part

abbrev pub spelled_entry : List Row → List ℕ → Entry → List ℕ
spelled_entry rows bytes e = spelled_by (slice_get rows e.row) (part_in bytes e)

-- the entries, one after the other
abbrev pub spelled_text : List Row → List ℕ → List Entry → List ℕ
spelled_text rows bytes [] = []
spelled_text rows bytes (e ∷ es) = spelled_entry rows bytes e ++ spelled_text rows bytes es
