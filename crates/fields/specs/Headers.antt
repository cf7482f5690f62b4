-- The header of a field. Assumes nothing.
use Rattle.std.specs.Prelude.{ℕ, Bool, cond, ◌&&◌, ◌||◌, List, Some, None, Option, ◌==◌, slice_index}
use Rattle.fields.specs.declared.headers.Tag.{Tag}
use Rattle.fields.specs.declared.headers.Qualifier.{Qualifier}
use Rattle.fields.specs.declared.headers.Header.{Header}
use Rattle.fields.specs.Characters.{capital, digit, alphanumeric}

-- the byte at i, or 0 past the end
abbrev pub byte : List ℕ → ℕ → ℕ
byte l i = slice_index l i

-- a colon, a tag and a colon
abbrev pub tagged : List ℕ → Bool
tagged l = byte l 0 == 58 && (digit (byte l 1) && (digit (byte l 2) && (capital (byte l 3) && byte l 4 == 58)))

abbrev pub tag_of : List ℕ → Tag
tag_of l = (byte l 1, byte l 2, byte l 3)

-- 16R, 16S, 23G or 35B
abbrev pub bare : Tag → Bool
bare t =
    (t.0 == 49 && (t.1 == 54 && (t.2 == 82 || t.2 == 83)))
    || ((t.0 == 50 && (t.1 == 51 && t.2 == 71)) || (t.0 == 51 && (t.1 == 53 && t.2 == 66)))

-- another colon, a qualifier and a slash
abbrev pub qualified : List ℕ → Bool
qualified l =
    (byte l 5 == 58) && (alphanumeric (byte l 6) && (alphanumeric (byte l 7) && (alphanumeric (byte l 8) && (alphanumeric (byte l 9) && byte l 10 == 47))))

abbrev pub qualifier_of : List ℕ → Qualifier
qualifier_of l = (byte l 6, byte l 7, byte l 8, byte l 9)

-- what the header of a line says, where the line begins with a right one; its length ends before the value
abbrev pub header : List ℕ → Option Header
header l =
    cond (tagged l)
    (cond (bare (tag_of l)) (Some (record { tag = tag_of l; qualifier = None; len = 5 }))
    (cond (qualified l) (Some (record { tag = tag_of l; qualifier = Some (qualifier_of l); len = 6 })) None))
    None
