-- The key of a field, and the rows that have it. Assumes nothing.
use Rattle.std.specs.Prelude.{ℕ, Bool, false, cond, ◌&&◌, List, map, Option}
use Rattle.std.specs.List.{position_from}
use Rattle.std.specs.Str.{bytes_eq}
use Rattle.fields.specs.declared.headers.Tag.{Tag}
use Rattle.fields.specs.declared.headers.Qualifier.{Qualifier}
use Rattle.fields.specs.declared.walk.Field.{Field as TextField}
use Rattle.fields.specs.Fields.{value_in}
use Rattle.sheet.specs.declared.keys.Key.{Key as LentKey}
use Rattle.sheet.specs.Rows.{Row, is_tag, admits}
use Rattle.sheet.specs.Rows.Row.{Open, Close, Field}

-- Tag and qualifier; for 16R and 16S the tag and the whole value, the block's name.
pub data Key : Type 0 where
  opens : List ℕ → Key
  closes : List ℕ → Key
  names : Tag → Option Qualifier → Key

-- the key of a field with this tag, this qualifier and this value
abbrev pub key_as : Tag → Option Qualifier → List ℕ → Key
key_as t q v = cond (is_tag t (49, 54, 82)) (opens v) (cond (is_tag t (49, 54, 83)) (closes v) (names t q))

-- the key that a program's key, which borrows its value, says
abbrev pub key_from : LentKey → Key
key_from k = key_as k.tag k.qualifier k.value.now

-- the key of a field of a text
abbrev pub key_of : List ℕ → TextField → Key
key_of text f = key_as f.tag f.qualifier (value_in text f)

-- the keys of fields of a text
abbrev pub keys_of : List ℕ → List TextField → List Key
keys_of text fs = map (key_of text) fs

-- has the row this key?
abbrev pub row_has : Row → Key → Bool
row_has (Open m n) (opens v) = bytes_eq n v
row_has (Open m n) (closes v) = false
row_has (Open m n) (names t q) = false
row_has (Close n) (opens v) = false
row_has (Close n) (closes v) = bytes_eq n v
row_has (Close n) (names t q) = false
row_has (Field f) (opens v) = false
row_has (Field f) (closes v) = false
row_has (Field f) (names t q) = is_tag t f.tag && admits f.qualifiers q

-- the number of the first row that has the key
abbrev pub find_row : List Row → Key → Option ℕ
find_row rows key = position_from (λ r. row_has r key) 0 rows
