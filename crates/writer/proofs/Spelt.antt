-- Texts put one behind the other. Assumes nothing.
use Rattle.std.proofs.Common.{◌≡◌, ℕ, ◌+◌, ◌<◌, List, ◌++◌, length, get_or, drop, ap, add-one, arith, length-append, drop-cons}
use Rattle.sheet.specs.Rows.{Row}
use Rattle.reader.specs.declared.table.Entry.{Entry}
use Rattle.writer.specs.Spelling.{spelled_entry, spelled_text}

module _ (rows : List Row) (bytes : List ℕ) where
  -- what is left of the entries
  text_more : (es : List Entry) (i : ℕ) (d : Entry) → i < length es
      → spelled_text rows bytes (drop i es) ≡ spelled_entry rows bytes (get_or es i d) ++ spelled_text rows bytes (drop (i + 1) es)
  text_more es i d h = rw add-one (ap (spelled_text rows bytes) (drop-cons es i d h))

  -- where there is no room for an entry, there is none for all
  pub turn_full : (es : List Entry) (i : ℕ) (d : Entry) (a before : List ℕ) → i < length es
      → a ++ spelled_text rows bytes es ≡ before ++ spelled_text rows bytes (drop i es)
      → 10000 < length before + length (spelled_entry rows bytes (get_or es i d)) → 10000 < length a + length (spelled_text rows bytes es)
  turn_full es i d a before h w f =
      let t = ap length (text_more es i d h) in
      let s = length-append (spelled_entry rows bytes (get_or es i d)) (spelled_text rows bytes (drop (i + 1) es)) in
      let k = length-append a (spelled_text rows bytes es) in
      let l = length-append before (spelled_text rows bytes (drop i es)) in
      let z = ap length w in
      omega arith
