-- The law of a sheet, as a test. Assumes nothing.
use Rattle.std.specs.Prelude.{◌≡◌, ℕ, Bool, true, false, not, ◌&&◌, ◌||◌, List, [], ◌∷◌, length, Some, None, nat_le, nat_lt}
use Rattle.std.specs.Str.{bytes_eq}
use Rattle.fields.specs.Characters.{digit, capital, alphanumeric, set_x}
use Rattle.fields.specs.Headers.{bare}
use Rattle.fields.specs.declared.headers.Tag.{Tag}
use Rattle.fields.specs.declared.headers.Qualifier.{Qualifier}
use Rattle.sheet.specs.Rows.{Row, is_tag}
use Rattle.sheet.specs.Rows.Row.{Open, Close, Field}
use Rattle.sheet.specs.Keys.{Key, row_has}
use Rattle.sheet.specs.Keys.Key.{opens, closes, names}

-- each 16S has the name of the block that it ends, no block stays open, and never are more than 4 open; the names are those of the
-- blocks that are open already, the innermost first
abbrev pub paired : List (List ℕ) → List Row → Bool
paired [] [] = true
paired (o ∷ os) [] = false
paired [] (Open m n ∷ rs) = paired (n ∷ []) rs
paired (o ∷ os) (Open m n ∷ rs) = nat_lt (length (o ∷ os)) 4 && paired (n ∷ (o ∷ os)) rs
paired [] (Close n ∷ rs) = false
paired (o ∷ os) (Close n ∷ rs) = bytes_eq o n && paired os rs
paired [] (Field f ∷ rs) = paired [] rs
paired (o ∷ os) (Field f ∷ rs) = paired (o ∷ os) rs

-- the keys of a row
abbrev pub under : Tag → List Qualifier → List Key
under t [] = []
under t (q ∷ qs) = names t (Some q) ∷ under t qs

abbrev pub field_keys : Tag → List Qualifier → List Key
field_keys t [] = names t None ∷ []
field_keys t (q ∷ qs) = under t (q ∷ qs)

abbrev pub keys_in : Row → List Key
keys_in (Open m n) = opens n ∷ []
keys_in (Close n) = closes n ∷ []
keys_in (Field f) = field_keys f.tag f.qualifiers

-- has the row one of these keys?
abbrev pub has_one : Row → List Key → Bool
has_one r [] = false
has_one r (k ∷ ks) = row_has r k || has_one r ks

-- has one of the rows one of these keys?
abbrev pub used : List Key → List Row → Bool
used ks [] = false
used ks (r ∷ rs) = has_one r ks || used ks rs

-- no key is in two rows
abbrev pub apart : List Row → Bool
apart [] = true
apart (r ∷ rs) = not (used (keys_in r) rs) && apart rs

abbrev pub all : (ℕ → Bool) → List ℕ → Bool
all p [] = true
all p (c ∷ cs) = p c && all p cs

-- a block's name: 1 to 8 characters of set x
abbrev pub good_name : List ℕ → Bool
good_name n = nat_le 1 (length n) && (nat_le (length n) 8 && all set_x n)

-- two digits and a capital letter, and neither 16R nor 16S
abbrev pub good_tag : Tag → Bool
good_tag t =
    (digit t.0 && (digit t.1 && capital t.2)) && (not (is_tag t (49, 54, 82)) && not (is_tag t (49, 54, 83)))

-- four of A-Z 0-9
abbrev pub good_qualifier : Qualifier → Bool
good_qualifier q = alphanumeric q.0 && (alphanumeric q.1 && (alphanumeric q.2 && alphanumeric q.3))

-- can a field have the key? Some tags have no qualifier, all others have one.
abbrev pub possible : Key → Bool
possible (opens n) = good_name n
possible (closes n) = good_name n
possible (names t None) = good_tag t && bare t
possible (names t (Some q)) = good_tag t && (not (bare t) && good_qualifier q)

abbrev pub all_possible : List Key → Bool
all_possible [] = true
all_possible (k ∷ ks) = possible k && all_possible ks

abbrev pub rows_possible : List Row → Bool
rows_possible [] = true
rows_possible (r ∷ rs) = all_possible (keys_in r) && rows_possible rs

-- at most 64 rows, blocks that pair and nest no deeper than 4, no key in two rows, and none that no field can have
abbrev pub lawful : List Row → Bool
lawful rows = nat_le (length rows) 64 && (paired [] rows && (apart rows && rows_possible rows))

abbrev pub Lawful : List Row → Type 0
Lawful rows = lawful rows ≡ true
