-- Of a text of good order and good values, every part that a message needs is there and can be read. Assumes nothing.
use Rattle.std.proofs.Common.{◌≡◌, ℕ, ◌≤◌, Bool, true, false, ◌&&◌, ◌||◌, eqb, leb, ◌⊎◌, List, [], ◌∷◌, length, is_some, Some, None, codes, Option, sym, refl, ap, ◌∙◌, subst, inl, inr, arith}
use Rattle.std.proofs.lemmas.Slice.Eq.{bytes_eq-Decides}
use Rattle.std.proofs.lemmas.Bool.{and_parts, and_from, or_cases, cond-true, eqb-true, le-leb}
use Rattle.std.specs.List.{slice_get, AllByRecursion}
use Rattle.std.specs.Str.{bytes_eq}
use Rattle.std.specs.Option.{option_map}
use Rattle.fields.specs.Characters.{set_x, alphanumeric}
use Rattle.fields.specs.Fields.{fields}
use Rattle.fields.specs.declared.headers.Qualifier.{Qualifier}
use Rattle.format.specs.Simple.{is_reference, is_account, is_option_number, is_isin, is_isin_code}
use Rattle.format.specs.Texts.{and_then, after_word, or_false}
use Rattle.format.proofs.RunLaws.{of_decides}
use Rattle.sheet.specs.Rows.{FieldRow}
use Rattle.sheet.specs.Rows.{Row}
use Rattle.sheet.specs.Rows.Row.{Field}
use Rattle.sheet.specs.Order.{order_fault}
use Rattle.sheet.specs.Rows.{is_qualifier, admits}
use Rattle.sheets.specs.Codes.{among}
use Rattle.reader.specs.Reading.{Codes}
use Rattle.reader.specs.Tables.{table_of}
use Rattle.reader.specs.Values.{headed, content_of, value_fits, value_fault}
use Rattle.register.specs.Texts.{all_x, is_text}
use Rattle.message.specs.declared.rows.Keyed.{Keyed}
use Rattle.message.specs.Values.{first, values_of, value_of, content_in, as_reference, as_text}
use Rattle.message.proofs.Never.{never}
use Rattle.message.proofs.Presence.{required, present}
use Rattle.message.proofs.Suiting.{Suits, suits_all}

-- one part after another
pub then_there : {A B : Type 0} (o : Option A) (f : A → Option B) → is_some o ≡ true → ((a : A) → is_some (f a) ≡ true) → is_some (and_then o f) ≡ true
then_there None f h g = never h
then_there (Some a) f h g = g a

pub then_at : {A B : Type 0} (o : Option A) (a : A) (f : A → Option B) → o ≡ Some a → is_some (f a) ≡ true → is_some (and_then o f) ≡ true
then_at {A} o a f e h = ap (λ (x : Option A). is_some (and_then x f)) e ∙ h

some_there : {A : Type 0} (o : Option A) (a : A) → o ≡ Some a → is_some o ≡ true
some_there o a e = ap is_some e

pub mapped_there : {A B : Type 0} (f : A → B) (o : Option A) → is_some o ≡ true → is_some (option_map f o) ≡ true
mapped_there f None h = never h
mapped_there f (Some a) h = refl

-- what holds of each code of a list holds of what is among them
pub among_each : (P : List ℕ → Type 0) (ks : List (List ℕ)) → AllByRecursion P ks → (c : List ℕ) → among ks c ≡ true → P c
among_each P [] a c h = never h
among_each P (k ∷ ks) a c h = elim (or_cases (bytes_eq k c) (among ks c) h) [
  | inl e ↦ subst P ((bytes_eq-Decides k c).0 e) a.0
  | inr e ↦ among_each P ks a.1 c e
]

-- what passes a test behind a word is there, and passes it
pub behind : (w v : List ℕ) (test : List ℕ → Bool) → or_false (after_word w v) test ≡ true → (c : List ℕ) × (after_word w v ≡ Some c) × (test c ≡ true)
behind w v test h = by (after_word w v) refl h
  where
    by : (o : Option (List ℕ)) → after_word w v ≡ o → or_false o test ≡ true → (c : List ℕ) × (after_word w v ≡ Some c) × (test c ≡ true)
    by None p h = never h
    by (Some c) p h = (c, p, h)

-- the qualifiers that a row admits
same_qualifier : (a b : Qualifier) → is_qualifier a b ≡ true → a ≡ b
same_qualifier a b h =
    let p = and_parts (eqb a.0 b.0) (eqb a.1 b.1 && (eqb a.2 b.2 && eqb a.3 b.3)) h in
    let q = and_parts (eqb a.1 b.1) (eqb a.2 b.2 && eqb a.3 b.3) p.1 in
    let r = and_parts (eqb a.2 b.2) (eqb a.3 b.3) q.1 in
    ap {B = Qualifier} (λ (n : ℕ). (n, a.1, a.2, a.3)) (eqb-true a.0 b.0 p.0)
    ∙ ap {B = Qualifier} (λ (n : ℕ). (b.0, n, a.2, a.3)) (eqb-true a.1 b.1 q.0)
    ∙ ap {B = Qualifier} (λ (n : ℕ). (b.0, b.1, n, a.3)) (eqb-true a.2 b.2 r.0)
    ∙ ap {B = Qualifier} (λ (n : ℕ). (b.0, b.1, b.2, n)) (eqb-true a.3 b.3 r.1)

no_qualifier : (q : Option Qualifier) → admits [] q ≡ true → q ≡ None
no_qualifier None h = refl
no_qualifier (Some q) h = never h

one_qualifier : (x : Qualifier) (q : Option Qualifier) → admits (x ∷ []) q ≡ true → q ≡ Some x
one_qualifier x None h = never h
one_qualifier x (Some q) h = elim (or_cases (is_qualifier x q) false h) [
  | inl e ↦ ap {B = Option Qualifier} (λ (y : Qualifier). Some y) (sym (same_qualifier x q e))
  | inr e ↦ never e
]

pub two_qualifiers : (x y : Qualifier) (q : Option Qualifier) → admits (x ∷ y ∷ []) q ≡ true → (q ≡ Some x) ⊎ (q ≡ Some y)
two_qualifiers x y None h = never h
two_qualifiers x y (Some q) h = elim (or_cases (is_qualifier x q) (is_qualifier y q || false) h) [
  | inl e ↦ inl (ap {B = Option Qualifier} (λ (z : Qualifier). Some z) (sym (same_qualifier x q e)))
  | inr e ↦ inr (one_qualifier y (Some q) e)
]

-- what the formats say of lengths and characters
all_x_lem : (c : List ℕ) → AllByRecursion (λ b. set_x b ≡ true) c → all_x c ≡ true
all_x_lem [] h = refl
all_x_lem (b ∷ c) h = and_from _ _ h.0 (all_x_lem c h.1)

pub reference_there : (c : List ℕ) → is_reference c ≡ true → is_some (as_reference c) ≡ true
reference_there c h =
    let o = (of_decides set_x 1 16 c _ refl).0 h in
    some_there (as_reference c) c (cond-true (is_text c) (Some c) None
    (and_from _ _ (le-leb 1 (length c) o.1) (and_from _ _ (le-leb (length c) 16 o.2) (all_x_lem c o.0))))

short_there : (c : List ℕ) → length c ≤ 35 → is_some (as_text c) ≡ true
short_there c h = some_there (as_text c) c (cond-true (leb (length c) 35) (Some c) None (le-leb (length c) 35 h))

pub account_there : (c : List ℕ) → is_account c ≡ true → is_some (as_text c) ≡ true
account_there c h = short_there c ((of_decides set_x 1 35 c _ refl).0 h).2

pub option_there : (c : List ℕ) → is_option_number c ≡ true → is_some (as_text c) ≡ true
option_there c h = let o = ((of_decides alphanumeric 3 3 c _ refl).0 h).2 in short_there c (omega arith)

pub isin_there : (v : List ℕ) → is_isin v ≡ true → is_some (and_then (after_word (codes "ISIN ") v) as_text) ≡ true
isin_there v h =
    let b = behind (codes "ISIN ") v is_isin_code h in
    let o = ((of_decides alphanumeric 12 12 b.0 _ refl).0 b.2).2 in
    ap (λ (x : Option (List ℕ)). is_some (and_then x as_text)) b.1 ∙ short_there b.0 (omega arith)

-- of a value of a row with one qualifier, what stands behind that
pub suits_content : (has : Option Qualifier → List ℕ → Bool) (row : FieldRow) (x : Qualifier) → row.qualifiers ≡ x ∷ []
    → (test : List ℕ → Bool) → ((v : List ℕ) → value_fits (has (Some x)) (Some x) row.format v ≡ or_false (content_of (Some x) v) test)
    → (v : List ℕ) → Suits has row v → (c : List ℕ) × (content_of (Some x) v ≡ Some c) × (test c ≡ true)
suits_content has row x one test shape v (q, a, f) =
    let e : q ≡ Some x = one_qualifier x q (ap (λ (l : List Qualifier). admits l q) (sym one) ∙ a) in
    let fit = subst (λ (y : Option Qualifier). value_fits (has y) y row.format v ≡ true) e f in
    behind (headed (Some x)) v test (sym (shape v) ∙ fit)

module _ (rows : List Row) (codes : Codes) (text : List ℕ) (ordered : order_fault rows text ≡ None) (valued : value_fault rows codes text ≡ None) where
  -- the values of a row are as it asks
  pub values_suit : (r : ℕ) (row : FieldRow) → slice_get rows r ≡ Some (Field row) → AllByRecursion (Suits (codes r) row) (values_of text (table_of rows text) r)
  values_suit r row there = suits_all rows codes text r row there (fields text) valued

  -- and the first of a required row is there
  pub value_there : (r : ℕ) (row : FieldRow) → slice_get rows r ≡ Some (Field row) → required rows r ≡ true
      → (v : List ℕ) × (value_of text (table_of rows text) r ≡ Some v) × Suits (codes r) row v
  value_there r row there h =
      let n = present rows r h text None tt (fields text) ordered in
      (n.0, ap first n.2, (subst (λ (l : List (List ℕ)). AllByRecursion (Suits (codes r) row) l) n.2 (values_suit r row there)).0)

  -- of a row without qualifiers, the whole value
  pub whole_there : (r : ℕ) (row : FieldRow) → slice_get rows r ≡ Some (Field row) → required rows r ≡ true → row.qualifiers ≡ []
      → (v : List ℕ) × (value_of text (table_of rows text) r ≡ Some v) × (value_fits (codes r None) None row.format v ≡ true)
  whole_there r row there h none =
      let t = value_there r row there h in
      let s = t.2 in
      let q : s.0 ≡ None = no_qualifier s.0 (ap (λ (l : List Qualifier). admits l s.0) (sym none) ∙ s.1) in
      (t.0, t.1, subst (λ (x : Option Qualifier). value_fits (codes r x) x row.format t.0 ≡ true) q s.2)

  -- of a row with one, what stands behind it, read
  pub part_there : {A : Type 0} (k : Keyed) (row : FieldRow) → slice_get rows k.row ≡ Some (Field row) → required rows k.row ≡ true
      → row.qualifiers ≡ k.qualifier ∷ [] → (test : List ℕ → Bool)
      → ((v : List ℕ) → value_fits (codes k.row (Some k.qualifier)) (Some k.qualifier) row.format v ≡ or_false (content_of (Some k.qualifier) v) test)
      → (read : List ℕ → Option A) → ((c : List ℕ) → test c ≡ true → is_some (read c) ≡ true)
      → is_some (and_then (content_in text (table_of rows text) k) read) ≡ true
  part_there {A} k row there h one test shape read good =
      let t = value_there k.row row there h in
      let c = suits_content (codes k.row) row k.qualifier one test shape t.0 t.2 in
      ap (λ (o : Option (List ℕ)). is_some (and_then {B = A} (and_then o (content_of (Some k.qualifier))) read)) t.1
      ∙ ap (λ (o : Option (List ℕ)). is_some (and_then {B = A} o read)) c.1 ∙ good c.0 c.2
