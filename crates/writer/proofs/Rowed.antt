-- A part that has a row's key makes a right field of that row, and a field of a row has that row's header. Assumes nothing.
use Rattle.std.proofs.Common.{◌≡◌, ℕ, Bool, true, false, cond, not, ◌&&◌, eqb, List, [], ◌∷◌, ◌++◌, Some, None, Option, sym, refl, ap, ◌∙◌, ap₂}
use Rattle.std.proofs.lemmas.Bool.{eqb-true, eq-eqb, and_parts, and_from, not-true, both_ways, false≢true, cond-false}
use Rattle.std.proofs.lemmas.Slice.Eq.{bytes_eq-Decides}
use Rattle.std.specs.List.{slice_get}
use Rattle.fields.specs.declared.headers.Tag.{Tag}
use Rattle.fields.specs.declared.headers.Qualifier.{Qualifier}
use Rattle.fields.specs.Characters.{digit, capital}
use Rattle.fields.specs.Headers.{bare}
use Rattle.fields.specs.Fields.{second}
use Rattle.fields.specs.Laws.{colon_line, Keyed}
use Rattle.sheet.specs.Rows.{FieldRow}
use Rattle.sheet.specs.Rows.{Row}
use Rattle.sheet.specs.Rows.Row.{Open, Close, Field}
use Rattle.sheet.specs.Rows.{is_tag, admits}
use Rattle.sheet.specs.Keys.{key_as, row_has}
use Rattle.sheet.specs.Keys.Key.{opens, closes, names}
use Rattle.sheet.specs.Lawful.{good_tag, good_qualifier, possible, Lawful}
use Rattle.sheet.proofs.Keyed.{law_possible, possible_row}
use Rattle.writer.specs.Entries.{leading, qualifier_in, keyed}
use Rattle.writer.specs.Spelling.{tag_in, colon_for, second_in, head_in, spelled_row}
use Rattle.writer.specs.Laws.{HasKey, Begun}
use Rattle.writer.proofs.Judged.{leads, one_of, none_admitted, qualifier_led, one_admitted}
use Rattle.writer.proofs.Items.{Item, RightItem, item_text}

-- the qualifier of a part of the row
abbrev pub qualifier_for : Row → List ℕ → Option Qualifier
qualifier_for (Open m n) part = None
qualifier_for (Close n) part = None
qualifier_for (Field f) part = qualifier_in f.qualifiers part

abbrev pub item_in : Row → List ℕ → Item
item_in r part = record { tag = tag_in r; qualifier = qualifier_for r part; value = part }

-- it stands exactly where the second colon does
colon_for_lem : (x : Qualifier) (qs : List Qualifier) → colon_for (x ∷ qs) ≡ 58 ∷ []
colon_for_lem x qs = cond-false {A = List ℕ} (admits (x ∷ qs) None) [] (58 ∷ []) (none_admitted x qs)

second_for : (qs : List Qualifier) (part : List ℕ) → admits qs (qualifier_in qs part) ≡ true → second (qualifier_in qs part) ≡ colon_for qs
second_for [] part h = refl
second_for (x ∷ qs) part h = ap second (one_admitted x qs (qualifier_in (x ∷ qs) part) h).1 ∙ sym (colon_for_lem x qs)

second_is : (r : Row) (part : List ℕ) → keyed r part ≡ true → second (qualifier_for r part) ≡ second_in r
second_is (Open m n) part h = refl
second_is (Close n) part h = refl
second_is (Field f) part h = second_for f.qualifiers part h

pub item_spelled : (r : Row) (part : List ℕ) → keyed r part ≡ true → spelled_row r part ≡ item_text (item_in r part)
item_spelled r part h =
    ap (λ (s : List ℕ). (58 ∷ (tag_in r).0 ∷ (tag_in r).1 ∷ (tag_in r).2 ∷ 58 ∷ s) ++ (part ++ (13 ∷ 10 ∷ []))) (sym (second_is r part h))

tag_self : (a : Tag) → is_tag a a ≡ true
tag_self a = and_from _ _ (eq-eqb a.0 a.0 refl) (and_from _ _ (eq-eqb a.1 a.1 refl) (eq-eqb a.2 a.2 refl))

tag_same : (a b : Tag) → is_tag a b ≡ true → a ≡ b
tag_same a b h =
    let p = and_parts (eqb a.0 b.0) (eqb a.1 b.1 && eqb a.2 b.2) h in
    let q = and_parts (eqb a.1 b.1) (eqb a.2 b.2) p.1 in
    ap {B = Tag} (λ (n : ℕ). (n, a.1, a.2)) (eqb-true a.0 b.0 p.0)
    ∙ ap {B = Tag} (λ (n : ℕ). (b.0, n, a.2)) (eqb-true a.1 b.1 q.0)
    ∙ ap {B = Tag} (λ (n : ℕ). (b.0, b.1, n)) (eqb-true a.2 b.2 q.1)

-- what the sheet's law says of the key of a row with qualifiers or without
good_tag_lem : (t : Tag) → good_tag t ≡ true
    → ((digit t.0 && (digit t.1 && capital t.2)) ≡ true) × (is_tag t (49, 54, 82) ≡ false) × (is_tag t (49, 54, 83) ≡ false)
good_tag_lem t h =
    let p = and_parts (digit t.0 && (digit t.1 && capital t.2)) (not (is_tag t (49, 54, 82)) && not (is_tag t (49, 54, 83))) h in
    let q = and_parts (not (is_tag t (49, 54, 82))) (not (is_tag t (49, 54, 83))) p.1 in
    (p.0, not-true _ q.0, not-true _ q.1)

tag_of : (t : Tag) (o : Option Qualifier) → possible (names t o) ≡ true → good_tag t ≡ true
tag_of t None h = (and_parts (good_tag t) (bare t) h).0
tag_of t (Some q) h = (and_parts (good_tag t) (not (bare t) && good_qualifier q) h).0

keyed_of : (t : Tag) (qs : List Qualifier) (part : List ℕ) → possible (names t (qualifier_in qs part)) ≡ true → Keyed t (qualifier_in qs part) part
keyed_of t [] part h = (and_parts (good_tag t) (bare t) h).1
keyed_of t (x ∷ qs) part h = by (qualifier_in (x ∷ qs) part) (sym (qualifier_led x qs part)) h
  where
    by : (o : Option Qualifier) → leading part ≡ o → possible (names t o) ≡ true → Keyed t o part
    by None p h = (and_parts (good_tag t) (bare t) h).1
    by (Some q) p h =
        let a = and_parts (good_tag t) (not (bare t) && good_qualifier q) h in
        let b = and_parts (not (bare t)) (good_qualifier q) a.1 in
        (not-true _ b.0, b.1, leads part q p)

module _ (rows : List Row) (law : Lawful rows) where
  field_possible : (i : ℕ) (f : FieldRow) (part : List ℕ) → slice_get rows i ≡ Some (Field f) → keyed (Field f) part ≡ true
      → possible (names f.tag (qualifier_for (Field f) part)) ≡ true
  field_possible i f part e h =
      possible_row rows i (Field f) (law_possible rows law) e (names f.tag (qualifier_for (Field f) part)) (and_from _ _ (tag_self f.tag) h)

  pub right_item : (i : ℕ) (r : Row) (part : List ℕ) → slice_get rows i ≡ Some r → keyed r part ≡ true → colon_line part ≡ false → RightItem (item_in r part)
  right_item i (Open m n) part e h c = record { tag = refl; keyed = refl; single = c }
  right_item i (Close n) part e h c = record { tag = refl; keyed = refl; single = c }
  right_item i (Field f) part e h c =
      let p = field_possible i f part e h in
      record {
        tag = (good_tag_lem f.tag (tag_of f.tag (qualifier_for (Field f) part) p)).0;
        keyed = keyed_of f.tag f.qualifiers part p;
        single = c;
      }

  -- its key is the row's
  pub row_key : (i : ℕ) (r : Row) (part : List ℕ) → slice_get rows i ≡ Some r → keyed r part ≡ true
      → row_has r (key_as (tag_in r) (qualifier_for r part) part) ≡ true
  row_key i (Open m n) part e h = h
  row_key i (Close n) part e h = h
  row_key i (Field f) part e h =
      let g = good_tag_lem f.tag (tag_of f.tag (qualifier_for (Field f) part) (field_possible i f part e h)) in
      let k : key_as f.tag (qualifier_for (Field f) part) part ≡ names f.tag (qualifier_for (Field f) part) =
      cond-false (is_tag f.tag (49, 54, 82)) _ _ g.1 ∙ cond-false (is_tag f.tag (49, 54, 83)) _ _ g.2 in
      ap (row_has (Field f)) k ∙ and_from _ _ (tag_self f.tag) h

-- a field with the key of the row: its value has that key, and its header is the row's
pub record OfRow (r : Row) (t : Tag) (q : Option Qualifier) (v : List ℕ) : Type 0 where
  pub key : HasKey r v
  pub head : head_in r ≡ 58 ∷ t.0 ∷ t.1 ∷ t.2 ∷ 58 ∷ second q

block_none : (t s : Tag) (q : Option Qualifier) (v : List ℕ) → t ≡ s → bare s ≡ true → Keyed t q v → second q ≡ []
block_none t s None v e b k = refl
block_none t s (Some q) v e b k = absurd (both_ways (bare t) k.0 (ap bare e ∙ b))

head_of : (t s : Tag) (x y : List ℕ) → t ≡ s → x ≡ y → 58 ∷ s.0 ∷ s.1 ∷ s.2 ∷ 58 ∷ y ≡ 58 ∷ t.0 ∷ t.1 ∷ t.2 ∷ 58 ∷ x
head_of t s x y p q = sym (ap₂ (λ (t : Tag) (x : List ℕ). 58 ∷ t.0 ∷ t.1 ∷ t.2 ∷ 58 ∷ x) p q)

of_none : (q : Qualifier) → admits [] (Some q) ≡ true → ⊥
of_none q a = false≢true a

field_key : (qs : List Qualifier) (t : Tag) (q : Option Qualifier) (v : List ℕ) → admits qs q ≡ true → Keyed t q v → Begun qs v × (second q ≡ colon_for qs)
field_key [] t None v a k = (tt, refl)
field_key [] t (Some q) v a k = absurd (of_none q a)
field_key (x ∷ qs) t None v a k = absurd (both_ways (admits (x ∷ qs) None) (none_admitted x qs) a)
field_key (x ∷ qs) t (Some q) v a k = ((q, one_of q (x ∷ qs) a, k.2), sym (colon_for_lem x qs))

pub of_row : (r : Row) (t : Tag) (q : Option Qualifier) (v : List ℕ) → row_has r (key_as t q v) ≡ true → Keyed t q v → OfRow r t q v
of_row r t q v h k = by r (is_tag t (49, 54, 82)) refl (is_tag t (49, 54, 83)) refl h
  where
    by : (r : Row) (b : Bool) → is_tag t (49, 54, 82) ≡ b → (c : Bool) → is_tag t (49, 54, 83) ≡ c
        → row_has r (cond b (opens v) (cond c (closes v) (names t q))) ≡ true → OfRow r t q v
    by (Open m n) true p c s h =
        record {
          key = sym ((bytes_eq-Decides n v).0 h);
          head = head_of t (49, 54, 82) (second q) [] (tag_same t (49, 54, 82) p) (block_none t (49, 54, 82) q v (tag_same t (49, 54, 82) p) refl k);
        }
    by (Open m n) false p true s h = absurd (false≢true h)
    by (Open m n) false p false s h = absurd (false≢true h)
    by (Close n) true p c s h = absurd (false≢true h)
    by (Close n) false p true s h =
        record {
          key = sym ((bytes_eq-Decides n v).0 h);
          head = head_of t (49, 54, 83) (second q) [] (tag_same t (49, 54, 83) s) (block_none t (49, 54, 83) q v (tag_same t (49, 54, 83) s) refl k);
        }
    by (Close n) false p false s h = absurd (false≢true h)
    by (Field f) true p c s h = absurd (false≢true h)
    by (Field f) false p true s h = absurd (false≢true h)
    by (Field f) false p false s h =
        let a = and_parts (is_tag t f.tag) (admits f.qualifiers q) h in
        let b = field_key f.qualifiers t q v a.1 k in
        record { key = b.0; head = head_of t f.tag (second q) _ (tag_same t f.tag a.0) b.1 }
