-- A key is found in its row and in no other, and every row of a lawful sheet has one that a field can have. Assumes nothing.
use Rattle.std.proofs.Common.{◌≡◌, ℕ, zero, suc, ◌+◌, ◌<◌, ◌≤◌, true, not, ◌&&◌, eqb, leb, ◌⊎◌, List, [], ◌∷◌, map, length, Some, None, Option, sym, refl, ap, ◌∙◌, ap₂, inl, inr, arith}
use Rattle.std.proofs.lemmas.Bool.{eqb-true, eq-eqb, and_parts, and_from, or_cases, or_left, or_right, not-true, both_ways, false≢true, cases_Bool, cond-true, cond-false, leb-true}
use Rattle.std.proofs.lemmas.Slice.Eq.{bytes_eq-Decides}
use Rattle.std.specs.List.{slice_get, position_from}
use Rattle.fields.specs.declared.headers.Tag.{Tag}
use Rattle.fields.specs.declared.headers.Qualifier.{Qualifier}
use Rattle.sheet.specs.Rows.{Row, is_tag, is_qualifier, among, admits}
use Rattle.sheet.specs.Rows.Row.{Open, Close, Field}
use Rattle.sheet.specs.Keys.{Key, row_has, find_row}
use Rattle.sheet.specs.Keys.Key.{opens, closes, names}
use Rattle.sheet.specs.Lawful.{paired, under, field_keys, keys_in, has_one, used, apart, possible, all_possible, rows_possible, lawful}
use Rattle.sheet.specs.Sentences.{IsSentence}
use Rattle.sheet.specs.Laws.{RowAt, Spells, KeySentence}

nothing : {A : Type 0} → ◌≡◌ {A = ℕ} 0 1 → A
nothing e = absurd (omega arith)

-- the parts of the law
pub law_few : (rows : List Row) → lawful rows ≡ true → length rows ≤ 64
law_few rows h = leb-true _ _ (and_parts (leb (length rows) 64) (paired [] rows && (apart rows && rows_possible rows)) h).0

pub law_pairs : (rows : List Row) → lawful rows ≡ true → paired [] rows ≡ true
law_pairs rows h =
    let r = (and_parts (leb (length rows) 64) (paired [] rows && (apart rows && rows_possible rows)) h).1 in
    (and_parts (paired [] rows) (apart rows && rows_possible rows) r).0

pub law_apart : (rows : List Row) → lawful rows ≡ true → apart rows ≡ true
law_apart rows h =
    let r = (and_parts (leb (length rows) 64) (paired [] rows && (apart rows && rows_possible rows)) h).1 in
    let s = (and_parts (paired [] rows) (apart rows && rows_possible rows) r).1 in
    (and_parts (apart rows) (rows_possible rows) s).0

pub law_possible : (rows : List Row) → lawful rows ≡ true → rows_possible rows ≡ true
law_possible rows h =
    let r = (and_parts (leb (length rows) 64) (paired [] rows && (apart rows && rows_possible rows)) h).1 in
    let s = (and_parts (paired [] rows) (apart rows && rows_possible rows) r).1 in
    (and_parts (apart rows) (rows_possible rows) s).1

-- the tests are equations
tag_same : (a b : Tag) → is_tag a b ≡ true → a ≡ b
tag_same a b h =
    let p = and_parts (eqb a.0 b.0) (eqb a.1 b.1 && eqb a.2 b.2) h in
    let q = and_parts (eqb a.1 b.1) (eqb a.2 b.2) p.1 in
    ap {B = Tag} (λ (n : ℕ). (n, a.1, a.2)) (eqb-true a.0 b.0 p.0)
    ∙ ap {B = Tag} (λ (n : ℕ). (b.0, n, a.2)) (eqb-true a.1 b.1 q.0)
    ∙ ap {B = Tag} (λ (n : ℕ). (b.0, b.1, n)) (eqb-true a.2 b.2 q.1)

pub tag_self : (a : Tag) → is_tag a a ≡ true
tag_self a = and_from _ _ (eq-eqb a.0 a.0 refl) (and_from _ _ (eq-eqb a.1 a.1 refl) (eq-eqb a.2 a.2 refl))

qualifier_same : (a b : Qualifier) → is_qualifier a b ≡ true → a ≡ b
qualifier_same a b h =
    let p = and_parts (eqb a.0 b.0) (eqb a.1 b.1 && (eqb a.2 b.2 && eqb a.3 b.3)) h in
    let q = and_parts (eqb a.1 b.1) (eqb a.2 b.2 && eqb a.3 b.3) p.1 in
    let r = and_parts (eqb a.2 b.2) (eqb a.3 b.3) q.1 in
    ap {B = Qualifier} (λ (n : ℕ). (n, a.1, a.2, a.3)) (eqb-true a.0 b.0 p.0)
    ∙ ap {B = Qualifier} (λ (n : ℕ). (b.0, n, a.2, a.3)) (eqb-true a.1 b.1 q.0)
    ∙ ap {B = Qualifier} (λ (n : ℕ). (b.0, b.1, n, a.3)) (eqb-true a.2 b.2 r.0)
    ∙ ap {B = Qualifier} (λ (n : ℕ). (b.0, b.1, b.2, n)) (eqb-true a.3 b.3 r.1)

pub qualifier_self : (a : Qualifier) → is_qualifier a a ≡ true
qualifier_self a =
    and_from _ _ (eq-eqb a.0 a.0 refl) (and_from _ _ (eq-eqb a.1 a.1 refl) (and_from _ _ (eq-eqb a.2 a.2 refl) (eq-eqb a.3 a.3 refl)))

-- one of the keys
abbrev pub In : Key → List Key → Type 0
In k [] = ⊥
In k (l ∷ ls) = (k ≡ l) ⊎ In k ls

in_under : (t : Tag) (q : Qualifier) (qs : List Qualifier) → among q qs ≡ true → In (names t (Some q)) (under t qs)
in_under t q [] h = absurd (false≢true h)
in_under t q (x ∷ qs) h = elim (or_cases (is_qualifier x q) (among q qs) h) [
  | inl s ↦ let e = qualifier_same x q s in inl (cc)
  | inr s ↦ inr (in_under t q qs s)
]

in_field : (t : Tag) (qs : List Qualifier) (o : Option Qualifier) → admits qs o ≡ true → In (names t o) (field_keys t qs)
in_field t [] None h = inl refl
in_field t [] (Some q) h = absurd (false≢true h)
in_field t (x ∷ qs) None h = let e = eqb-true (length (x ∷ qs)) 0 h in absurd (omega arith)
in_field t (x ∷ qs) (Some q) h = in_under t q (x ∷ qs) h

-- a row has its keys
in_row : (r : Row) (k : Key) → row_has r k ≡ true → In k (keys_in r)
in_row (Open m n) (opens v) h = let e = (bytes_eq-Decides n v).0 h in inl (cc)
in_row (Open m n) (closes v) h = absurd (false≢true h)
in_row (Open m n) (names t q) h = absurd (false≢true h)
in_row (Close n) (opens v) h = absurd (false≢true h)
in_row (Close n) (closes v) h = let e = (bytes_eq-Decides n v).0 h in inl (cc)
in_row (Close n) (names t q) h = absurd (false≢true h)
in_row (Field f) (opens v) h = absurd (false≢true h)
in_row (Field f) (closes v) h = absurd (false≢true h)
in_row (Field f) (names t q) h =
    let p = and_parts (is_tag t f.tag) (admits f.qualifiers q) h in
    rw (tag_same t f.tag p.0) (in_field f.tag f.qualifiers q p.1)

-- and one of them is there
first_key : (t : Tag) (qs : List Qualifier) → (o : Option Qualifier) × (admits qs o ≡ true) × In (names t o) (field_keys t qs)
first_key t [] = (None, refl, inl refl)
first_key t (q ∷ qs) = (Some q, or_left _ _ (qualifier_self q), inl refl)

some_key : (r : Row) → (k : Key) × (row_has r k ≡ true) × In k (keys_in r)
some_key (Open m n) = (opens n, (bytes_eq-Decides n n).1 refl, inl refl)
some_key (Close n) = (closes n, (bytes_eq-Decides n n).1 refl, inl refl)
some_key (Field f) =
    let k = first_key f.tag f.qualifiers in
    (names f.tag k.0, and_from _ _ (tag_self f.tag) k.1, k.2)

-- what is in two rows
has_one_lem : (r : Row) (k : Key) (ks : List Key) → In k ks → row_has r k ≡ true → has_one r ks ≡ true
has_one_lem r k [] i h = absurd i
has_one_lem r k (l ∷ ks) (inl e) h = or_left (row_has r l) (has_one r ks) (sym (ap (row_has r) e) ∙ h)
has_one_lem r k (l ∷ ks) (inr i) h = or_right (row_has r l) (has_one r ks) (has_one_lem r k ks i h)

used_by : (rows : List Row) (ks : List Key) (j : ℕ) (r : Row) (k : Key) → In k ks → slice_get rows j ≡ Some r → row_has r k ≡ true → used ks rows ≡ true
used_by [] ks zero r k i e h = nothing cc
used_by [] ks (suc j) r k i e h = nothing cc
used_by (x ∷ rows) ks zero r k i e h =
    let s : x ≡ r = cc in
    or_left (has_one x ks) (used ks rows) (has_one_lem x k ks i (ap (λ (y : Row). row_has y k) s ∙ h))
used_by (x ∷ rows) ks (suc j) r k i e h = or_right (has_one x ks) (used ks rows) (used_by rows ks j r k i e h)

-- a row that has the key is the one that is found
-- the search from number n
abbrev find_from : List Row → Key → ℕ → Option ℕ
find_from rows key n = position_from (λ r. row_has r key) n rows

found_from : (rows : List Row) (key : Key) (n i : ℕ) → apart rows ≡ true → RowAt rows i key → find_from rows key n ≡ Some (n + i)
found_from [] key n zero a (r, e, h) = nothing cc
found_from [] key n (suc i) a (r, e, h) = nothing cc
found_from (x ∷ rows) key n zero a (r, e, h) =
    let s : x ≡ r = cc in
    let q : n ≡ n + 0 = omega arith in
    cond-true (row_has x key) (Some n) (find_from rows key (n + 1)) (ap (λ (y : Row). row_has y key) s ∙ h) ∙ ap {B = Option ℕ} Some q
found_from (x ∷ rows) key n (suc i) a (r, e, h) =
    let p = and_parts (not (used (keys_in x) rows)) (apart rows) a in
    let q : n + 1 + i ≡ n + suc i = omega arith in
    elim (cases_Bool (row_has x key)) [
      | inl t ↦ absurd (both_ways (used (keys_in x) rows) (not-true _ p.0) (used_by rows (keys_in x) i r key (in_row x key t) e h))
      | inr t ↦
          cond-false (row_has x key) (Some n) (find_from rows key (n + 1)) t
          ∙ found_from rows key (n + 1) i p.1 (r, e, h) ∙ ap {B = Option ℕ} Some q
    ]

pub only_row : (rows : List Row) → lawful rows ≡ true → (key : Key) (i : ℕ) → RowAt rows i key → find_row rows key ≡ Some i
only_row rows l key i h =
    let q : 0 + i ≡ i = omega arith in found_from rows key 0 i (law_apart rows l) h ∙ ap {B = Option ℕ} Some q

-- and what is found has the key
has_from : (rows : List Row) (key : Key) (n j : ℕ) → find_from rows key n ≡ Some j → (i : ℕ) × (j ≡ n + i) × RowAt rows i key
has_from [] key n j e = nothing cc
has_from (x ∷ rows) key n j e = elim (cases_Bool (row_has x key)) [
  | inl t ↦
      let s = cond-true (row_has x key) (Some n) (find_from rows key (n + 1)) t in
      let q : j ≡ n = cc in
      (0, omega arith, (x, refl, t))
  | inr t ↦
      let s = cond-false (row_has x key) (Some n) (find_from rows key (n + 1)) t in
      let i = has_from rows key (n + 1) j (sym s ∙ e) in
      (suc i.0, omega (arith, i.1), i.2)
]

pub found_row : (rows : List Row) (key : Key) (i : ℕ) → find_row rows key ≡ Some i → RowAt rows i key
found_row rows key i e =
    let h = has_from rows key 0 i e in
    let q : i ≡ h.0 = omega (arith, h.1) in
    rw q h.2

-- the rows of a text by keys are those that are found
pub only_rows : (rows : List Row) → lawful rows ≡ true → (w : List ℕ) (ks : List Key) → Spells rows w ks → map (find_row rows) ks ≡ map Some w
only_rows rows l [] [] s = refl
only_rows rows l [] (k ∷ ks) s = absurd s
only_rows rows l (i ∷ w) [] s = absurd s
only_rows rows l (i ∷ w) (k ∷ ks) s =
    ap₂ {C = List (Option ℕ)} (λ x l. x ∷ l) (only_row rows l k i s.0) (only_rows rows l w ks s.1)

-- and so the rows of a sentence by keys are found key by key
pub sentence_rows : (rows : List Row) → lawful rows ≡ true → (ks : List Key) → KeySentence rows ks
    → (w : List ℕ) × (map (find_row rows) ks ≡ map Some w) × IsSentence rows w
sentence_rows rows l ks s = (s.0, only_rows rows l s.0 ks s.1, s.2)

-- every row has a key that a field can have
possible_in : (k : Key) (ks : List Key) → In k ks → all_possible ks ≡ true → possible k ≡ true
possible_in k [] i h = absurd i
possible_in k (l ∷ ks) (inl e) h = ap possible e ∙ (and_parts (possible l) (all_possible ks) h).0
possible_in k (l ∷ ks) (inr i) h = possible_in k ks i (and_parts (possible l) (all_possible ks) h).1

pub possible_row : (rows : List Row) (i : ℕ) (r : Row) → rows_possible rows ≡ true → slice_get rows i ≡ Some r → (k : Key) → row_has r k ≡ true → possible k ≡ true
possible_row [] zero r p e k h = nothing cc
possible_row [] (suc i) r p e k h = nothing cc
possible_row (x ∷ rows) zero r p e k h =
    let s : x ≡ r = cc in
    possible_in k (keys_in x) (in_row x k (ap (λ (y : Row). row_has y k) s ∙ h)) (and_parts (all_possible (keys_in x)) (rows_possible rows) p).0
possible_row (x ∷ rows) (suc i) r p e k h = possible_row rows i r (and_parts (all_possible (keys_in x)) (rows_possible rows) p).1 e k h

row_there : (rows : List Row) (i : ℕ) → i < length rows → (r : Row) × (slice_get rows i ≡ Some r)
row_there [] i h = absurd (omega arith)
row_there (x ∷ rows) zero h = (x, refl)
row_there (x ∷ rows) (suc i) h = row_there rows i (omega arith)

pub met : (rows : List Row) → lawful rows ≡ true → (i : ℕ) → i < length rows → (k : Key) × (possible k ≡ true) × RowAt rows i k
met rows l i h =
    let r = row_there rows i h in
    let k = some_key r.0 in
    (k.0, possible_row rows i r.0 (law_possible rows l) r.1 k.0 k.1, (r.0, r.1, k.1))
