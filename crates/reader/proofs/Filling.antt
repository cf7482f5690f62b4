-- How a table is filled, entry by entry. Assumes nothing.
use Rattle.std.proofs.Common.{◌≡◌, ℕ, ◌+◌, ◌<◌, ◌≤◌, List, [], ◌∷◌, ◌++◌, map, length, take, drop, set, sym, refl, ap, ◌∙◌, append_assoc, append-nil, arith}
use Rattle.std.proofs.lemmas.List.{drop_more, drop_all, take_all, drop-set-lt, take_more_set}
use Rattle.reader.specs.declared.table.Entry.{Entry}
use Rattle.reader.specs.Tables.{filled}

fill_more : (e : Entry) (es table : List Entry) (at : ℕ) → at < length table
    → take at table ++ filled (e ∷ es) (drop at table) ≡ take (at + 1) (set table at e) ++ filled es (drop (at + 1) (set table at e))
fill_more e es table at h =
    let l : at < at + 1 = omega arith in
    ap (λ (t : List Entry). take at table ++ filled (e ∷ es) t) (drop_more table at e h)
    ∙ rw (take_more_set table at e h, drop-set-lt (at + 1) table at e l, append_assoc) refl

none_filled : (es : List Entry) → filled es [] ≡ []
none_filled [] = refl
none_filled (e ∷ es) = refl

-- with room for no more, nothing is left to write
pub full : (es table : List Entry) (at : ℕ) → length table ≤ at → take at table ++ filled es (drop at table) ≡ table
full es table at h = rw (drop_all at table h, none_filled es, take_all at table h) (append-nil table)

-- with room for all, the first entries are all of them
pub fill_front : (es table : List Entry) → length es ≤ length table → take (length es) (filled es table) ≡ es
fill_front [] table h = refl
fill_front (e ∷ es) [] h = absurd (omega arith)
fill_front (e ∷ es) (old ∷ table) h = ap (λ (t : List Entry). e ∷ t) (fill_front es table (omega arith))

-- one turn of the loop over the fields
pub turn_more : {F : Type 0} (entry : F → Entry) (cs rest : List F) (f : F) (e : Entry) (table : List Entry) (at : ℕ) → cs ≡ f ∷ rest
    → e ≡ entry f → at < length table
    → take at table ++ filled (map entry cs) (drop at table)
    ≡ take (at + 1) (set table at e) ++ filled (map entry rest) (drop (at + 1) (set table at e))
turn_more {F} entry cs rest f e table at p q h =
    ap (λ (x : List F). take at table ++ filled (map entry x) (drop at table)) p
    ∙ ap (λ (x : Entry). take at table ++ filled (x ∷ map entry rest) (drop at table)) (sym q) ∙ fill_more e (map entry rest) table at h
