-- The test of a sheet's law is right. Assumes nothing.
use Rattle.std.proofs.Common.{◌≡◌, ℕ, zero, suc, ◌+◌, true, not, ◌&&◌, ltb, leb, List, [], ◌∷◌, length, Some, None, Option, sym, refl, ap, ◌∙◌, inl, inr, arith}
use Rattle.std.proofs.lemmas.Bool.{and_from, or_cases, or_left, or_right, not_from_false, false≢true, cases_Bool, le-leb, lt-ltb}
use Rattle.std.proofs.lemmas.Slice.Eq.{bytes_eq-Decides}
use Rattle.std.specs.Str.{bytes_eq}
use Rattle.fields.specs.declared.headers.Tag.{Tag}
use Rattle.fields.specs.declared.headers.Qualifier.{Qualifier}
use Rattle.sheet.specs.Rows.{Row, is_tag, is_qualifier, among, admits}
use Rattle.sheet.specs.Rows.Row.{Open, Close, Field}
use Rattle.sheet.specs.Sentences.{Parts, laid}
use Rattle.sheet.specs.Sentences.Parts.{end, line, block}
use Rattle.sheet.specs.Keys.{Key, row_has, find_row}
use Rattle.sheet.specs.Keys.Key.{names}
use Rattle.sheet.specs.Lawful.{paired, under, field_keys, keys_in, has_one, used, apart, possible, all_possible, rows_possible, lawful}
use Rattle.sheet.specs.Laws.{RowAt, Found, Nested, Law, LawTested}
use Rattle.sheet.proofs.Alone.{had as had_by_one}
use Rattle.sheet.proofs.Reading.{layers_of}
use Rattle.sheet.proofs.Keyed.{In, tag_self, qualifier_self, law_few, law_pairs, law_possible, only_row, found_row, possible_row}

nothing : {A : Type 0} → ◌≡◌ {A = ℕ} 0 1 → A
nothing e = absurd (omega arith)

-- what is found is right
pub rightly_found : (rows : List Row) → lawful rows ≡ true → (k : Key) (o : Option ℕ) → o ≡ find_row rows k → Found rows k o
rightly_found rows l k None e = λ i h. let f = only_row rows l k i h in nothing cc
rightly_found rows l k (Some i) e = (found_row rows k i (sym e), λ j h. let f = only_row rows l k j h in cc)

single : (rows : List Row) → lawful rows ≡ true → (i j : ℕ) (k : Key) → RowAt rows i k → RowAt rows j k → i ≡ j
single rows l i j k a b =
    let f = only_row rows l k i a in
    let g = only_row rows l k j b in
    cc

right : (rows : List Row) → lawful rows ≡ true → Law rows
right rows l =
    let p = layers_of rows (law_pairs rows l) in
    record {
      few = law_few rows l;
      layout = p.0;
      lays = p.1;
      nested = p.2;
      single = single rows l;
      possible_all = λ i k h. possible_row rows i h.0 (law_possible rows l) h.1 k h.2;
    }

-- blocks that pair pass the test
pairs : (p : Parts) (more : ℕ) (os : List (List ℕ)) (t : List Row) → more + length os ≡ 4 → Nested more p → paired os t ≡ true → paired os (laid p t) ≡ true
pairs end more os t q n h = h
pairs (line f rest) more [] t q n h = pairs rest more [] t q n h
pairs (line f rest) more (o ∷ os) t q n h = pairs rest more (o ∷ os) t q n h
pairs (block m a inner c rest) zero os t q n h = absurd n
pairs (block m a inner c rest) (suc more) [] t q n h =
    let r = pairs rest (suc more) [] t q n.2 h in
    pairs inner more (a ∷ []) (Close c ∷ laid rest t) (omega arith) n.1
    (and_from (bytes_eq a c) (paired [] (laid rest t)) ((bytes_eq-Decides a c).1 n.0) r)
pairs (block m a inner c rest) (suc more) (o ∷ os) t q n h =
    let r = pairs rest (suc more) (o ∷ os) t q n.2 h in
    and_from (ltb (length (o ∷ os)) 4) (paired (a ∷ (o ∷ os)) (laid inner (Close c ∷ laid rest t))) (lt-ltb (length (o ∷ os)) 4 (omega arith))
    (pairs inner more (a ∷ (o ∷ os)) (Close c ∷ laid rest t) (omega arith) n.1
    (and_from (bytes_eq a c) (paired (o ∷ os) (laid rest t)) ((bytes_eq-Decides a c).1 n.0) r))

-- a key of the list is a key of the row
under_has : (t : Tag) (k : Key) (qs : List Qualifier) → In k (under t qs) → (q : Qualifier) × (k ≡ names t (Some q)) × (among q qs ≡ true)
under_has t k [] i = absurd i
under_has t k (q ∷ qs) (inl e) = (q, e, or_left (is_qualifier q q) (among q qs) (qualifier_self q))
under_has t k (q ∷ qs) (inr i) = let r = under_has t k qs i in (r.0, r.1, or_right (is_qualifier q r.0) (among r.0 qs) r.2)

field_has : (t : Tag) (k : Key) (qs : List Qualifier) → In k (field_keys t qs) → (o : Option Qualifier) × (k ≡ names t o) × (admits qs o ≡ true)
field_has t k [] (inl e) = (None, e, refl)
field_has t k [] (inr i) = absurd i
field_has t k (q ∷ qs) i = let r = under_has t k (q ∷ qs) i in (Some r.0, r.1, r.2)

has_key : (r : Row) (k : Key) → In k (keys_in r) → row_has r k ≡ true
has_key (Open m n) k (inl e) = ap (row_has (Open m n)) e ∙ (bytes_eq-Decides n n).1 refl
has_key (Open m n) k (inr i) = absurd i
has_key (Close n) k (inl e) = ap (row_has (Close n)) e ∙ (bytes_eq-Decides n n).1 refl
has_key (Close n) k (inr i) = absurd i
has_key (Field f) k i =
    let r = field_has f.tag k f.qualifiers i in
    ap (row_has (Field f)) r.1 ∙ and_from (is_tag f.tag f.tag) (admits f.qualifiers r.0) (tag_self f.tag) r.2

-- keys that are apart pass the test
one_of : (r : Row) (ks : List Key) → has_one r ks ≡ true → (k : Key) × In k ks × (row_has r k ≡ true)
one_of r [] h = absurd (false≢true h)
one_of r (k ∷ ks) h = elim (or_cases (row_has r k) (has_one r ks) h) [
  | inl t ↦ (k, inl refl, t)
  | inr t ↦ let i = one_of r ks t in (i.0, inr i.1, i.2)
]

used_in : (ks : List Key) (rs : List Row) → used ks rs ≡ true → (j : ℕ) × (k : Key) × In k ks × RowAt rs j k
used_in ks [] h = absurd (false≢true h)
used_in ks (r ∷ rs) h = elim (or_cases (has_one r ks) (used ks rs) h) [
  | inl t ↦ let i = one_of r ks t in (0, i.0, i.1, (r, refl, i.2))
  | inr t ↦ let i = used_in ks rs t in (suc i.0, i.1, i.2, i.3)
]

apart_rows : (rows : List Row) → ((i j : ℕ) (k : Key) → RowAt rows i k → RowAt rows j k → i ≡ j) → apart rows ≡ true
apart_rows [] h = refl
apart_rows (r ∷ rs) h =
    and_from (not (used (keys_in r) rs)) (apart rs)
    (not_from_false (used (keys_in r) rs) (elim (cases_Bool (used (keys_in r) rs)) [
      | inl t ↦ let u = used_in (keys_in r) rs t in absurd (omega (arith, h 0 (suc u.0) u.1 (r, refl, has_key r u.1 u.2) u.3))
      | inr t ↦ t
    ]))
    (apart_rows rs (λ i j k a b. let e = h (suc i) (suc j) k a b in omega arith))

-- and so do keys that fields can have
all_possible_lem : (ks : List Key) → ((k : Key) → In k ks → possible k ≡ true) → all_possible ks ≡ true
all_possible_lem [] h = refl
all_possible_lem (k ∷ ks) h = and_from (possible k) (all_possible ks) (h k (inl refl)) (all_possible_lem ks (λ l i. h l (inr i)))

rows_possible_lem : (rows : List Row) → ((i : ℕ) (k : Key) → RowAt rows i k → possible k ≡ true) → rows_possible rows ≡ true
rows_possible_lem [] h = refl
rows_possible_lem (r ∷ rs) h =
    and_from (all_possible (keys_in r)) (rows_possible rs) (all_possible_lem (keys_in r) (λ k i. h 0 k (r, refl, has_key r k i)))
    (rows_possible_lem rs (λ i k a. h (suc i) k a))

whole : (rows : List Row) → Law rows → lawful rows ≡ true
whole rows l =
    and_from (leb (length rows) 64) (paired [] rows && (apart rows && rows_possible rows)) (le-leb (length rows) 64 l.few)
    (and_from (paired [] rows) (apart rows && rows_possible rows) (ap (paired []) l.lays ∙ pairs l.layout 4 [] [] refl l.nested refl)
    (and_from (apart rows) (rows_possible rows) (apart_rows rows l.single) (rows_possible_lem rows l.possible_all)))

pub tested : LawTested
tested = record { right = right; whole = whole; had = had_by_one }
