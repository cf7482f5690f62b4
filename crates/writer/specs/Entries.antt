-- Which entries can be spelled. Assumes nothing.
use Rattle.std.specs.Prelude.{ℕ, suc, ◌+◌, ◌-◌, Bool, false, cond, not, ◌&&◌, List, [], ◌∷◌, length, take, drop, Some, None, Option, ◌==◌, nat_le, nat_lt, slice_index}
use Rattle.std.specs.List.{slice_get}
use Rattle.std.specs.Str.{bytes_eq}
use Rattle.fields.specs.declared.headers.Qualifier.{Qualifier}
use Rattle.fields.specs.Laws.{colon_line}
use Rattle.sheet.specs.Rows.{Row}
use Rattle.sheet.specs.Rows.Row.{Open, Close, Field}
use Rattle.sheet.specs.Rows.{admits}
use Rattle.reader.specs.declared.table.Entry.{Entry}

-- the part of the bytes that the entry points to
abbrev pub part_in : List ℕ → Entry → List ℕ
part_in bytes e = take e.len (drop e.start bytes)

-- does it lie inside the bytes?
abbrev pub inside : List ℕ → Entry → Bool
inside bytes e = nat_le e.start (length bytes) && nat_le e.len (length bytes - e.start)

-- the four bytes with which a part begins, where a slash follows them
abbrev pub leading : List ℕ → Option Qualifier
leading part =
    cond (nat_lt 4 (length part) && slice_index part 4 == 47) (Some (slice_index part 0, slice_index part 1, slice_index part 2, slice_index part 3)) None

-- the qualifier that a part has where its row has these; none where the row has none
abbrev pub qualifier_in : List Qualifier → List ℕ → Option Qualifier
qualifier_in qs part = cond (admits qs None) None (leading part)

-- has the part the row's key? A 16R or 16S row wants its block's name, a row with qualifiers one of them and a slash, any other nothing.
abbrev pub keyed : Row → List ℕ → Bool
keyed (Open m n) part = bytes_eq n part
keyed (Close n) part = bytes_eq n part
keyed (Field f) part = admits f.qualifiers (qualifier_in f.qualifiers part)

-- does a CR LF with a colon behind it stand at place k?
abbrev pub colon_at : List ℕ → ℕ → Bool
colon_at part k = slice_index part k == 13 && (slice_index part (k + 1) == 10 && slice_index part (k + 2) == 58)

-- is there the row, and does it take the part: with its key, and no colon directly behind a CR LF?
abbrev pub takes : Option Row → List ℕ → Bool
takes None part = false
takes (Some r) part = keyed r part && not (colon_line part)

-- has the entry a row, and a part inside the bytes that the row takes?
abbrev pub good_entry : List Row → List ℕ → Entry → Bool
good_entry rows bytes e = inside bytes e && takes (slice_get rows e.row) (part_in bytes e)

-- the number of the first of these entries, which start at number k, that has not
abbrev pub entry_from : List Row → List ℕ → ℕ → List Entry → Option ℕ
entry_from rows bytes k [] = None
entry_from rows bytes k (e ∷ es) = cond (good_entry rows bytes e) (entry_from rows bytes (suc k) es) (Some k)

abbrev pub entry_fault : List Row → List ℕ → List Entry → Option ℕ
entry_fault rows bytes es = entry_from rows bytes 0 es
