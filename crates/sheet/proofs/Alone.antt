-- A key that passes the test is the key of a field of a good text: the field alone, on one line. Assumes nothing.
use Rattle.std.proofs.Common.{◌≡◌, ℕ, suc, ◌+◌, ◌-◌, ◌≤◌, Bool, true, false, not, ◌&&◌, ◌||◌, eqb, leb, List, [], ◌∷◌, ◌++◌, length, get_or, take, is_some, Some, None, Ok, Option, Result, sym, refl, ap, ◌∙◌, ap₂, inl, inr, arith, lit≤, length-append}
use Rattle.std.proofs.lemmas.Bool.{and_parts, and_from, or_left, or_right, not-true, false≢true, cases_Bool, cond-true, cond-false, leb-true, le-leb, eqb-true}
use Rattle.fields.specs.declared.headers.Tag.{Tag}
use Rattle.fields.specs.declared.headers.Qualifier.{Qualifier}
use Rattle.fields.specs.declared.headers.Header.{Header}
use Rattle.fields.specs.declared.walk.Field.{Field as TextField}
use Rattle.fields.specs.declared.faults.TextFault.{TextFault}
use Rattle.fields.specs.declared.faults.TextFault.TheVariants.{Character, Line}
use Rattle.fields.specs.Characters.{small, capital, digit, alphanumeric, set_x, begins}
use Rattle.fields.specs.Lines.{rest, line, lines, breaks}
use Rattle.fields.specs.Headers.{tagged, bare, qualified, header}
use Rattle.fields.specs.Fields.{fields, fields_from, opened}
use Rattle.fields.specs.Faults.{good_length, good_byte, alphabet_from, alphabet_fault, good_line, line_from, line_fault, fault_at, text_verdict}
use Rattle.fields.specs.Laws.{unbroken}
use Rattle.fields.proofs.Cutting.{joins}
use Rattle.sheet.specs.Rows.{is_tag}
use Rattle.sheet.specs.Keys.{Key, key_as}
use Rattle.sheet.specs.Keys.Key.{opens, closes, names}
use Rattle.sheet.specs.Lawful.{all, good_name, good_tag, good_qualifier, possible}
use Rattle.sheet.specs.Laws.{Had}

-- characters of set x
x_digit : (c : ℕ) → digit c ≡ true → set_x c ≡ true
x_digit c h = or_right (small c) _ (or_right (capital c) _ (or_left (digit c) _ h))

x_capital : (c : ℕ) → capital c ≡ true → set_x c ≡ true
x_capital c h = or_right (small c) _ (or_left (capital c) _ h)

x_alphanumeric : (c : ℕ) → alphanumeric c ≡ true → set_x c ≡ true
x_alphanumeric c h = elim (cases_Bool (capital c)) [
  | inl t ↦ x_capital c t
  | inr t ↦ x_digit c (sym (ap (λ (b : Bool). b || digit c) t) ∙ h)
]

not_cr : (c : ℕ) → set_x c ≡ true → eqb c 13 ≡ false
not_cr c h = elim (cases_Bool (eqb c 13)) [
  | inl t ↦ absurd (false≢true (sym (ap set_x (eqb-true c 13 t)) ∙ h))
  | inr t ↦ t
]

-- a line of set x, and CR LF
abbrev ended : List ℕ → List ℕ
ended l = l ++ (13 ∷ 10 ∷ [])

good_bytes : (l : List ℕ) (before at : ℕ) → all set_x l ≡ true → alphabet_from before at (ended l) ≡ None
good_bytes [] before at h = refl
good_bytes (c ∷ cs) before at h =
    let p = and_parts (set_x c) (all set_x cs) h in
    cond-true (good_byte before c (get_or (ended cs) 0 0)) (alphabet_from c (suc at) (ended cs)) (Some at) (or_left (set_x c) _ p.0)
    ∙ good_bytes cs c (suc at) p.1

whole_line : (l : List ℕ) → all set_x l ≡ true → unbroken l ≡ true
whole_line [] h = refl
whole_line (c ∷ cs) h =
    let p = and_parts (set_x c) (all set_x cs) h in
    and_from (not (breaks c cs)) (unbroken cs) (ap (λ (b : Bool). not (b && begins 10 cs)) (not_cr c p.0)) (whole_line cs p.1)

-- the field that the line is
abbrev field_of : List ℕ → Header → TextField
field_of l h = record { start = 0; tag = h.tag; qualifier = h.qualifier; value = 0 + h.len; len = (length l + 0) - h.len }

one_line : (l : List ℕ) → all set_x l ≡ true → lines (ended l) ≡ line l (rest [])
one_line l x = joins l [] (whole_line l x)

one_field : (l : List ℕ) (h : Header) → all set_x l ≡ true → header l ≡ Some h → fields (ended l) ≡ field_of l h ∷ []
one_field l h x e =
    ap (fields_from 0) (one_line l x) ∙ ap {B = List TextField} (λ (o : Option Header). opened o 0 (length l + 0) ++ []) e

good_text : (r : List ℕ) (h : Header) → all set_x (58 ∷ r) ≡ true → length r ≤ 20 → header (58 ∷ r) ≡ Some h → text_verdict (ended (58 ∷ r)) ≡ Ok tt
good_text r h x n e =
    let len : length (ended (58 ∷ r)) ≡ length (58 ∷ r) + 2 = length-append (58 ∷ r) (13 ∷ 10 ∷ []) in
    let g : good_length (ended (58 ∷ r)) ≡ true =
    and_from (leb 1 (length (ended (58 ∷ r)))) (leb (length (ended (58 ∷ r))) 10000) (le-leb 1 _ (omega arith)) (le-leb _ 10000 (omega arith)) in
    let a : alphabet_fault (ended (58 ∷ r)) ≡ None = good_bytes (58 ∷ r) 0 0 x in
    let b : line_fault (ended (58 ∷ r)) ≡ None =
    ap (line_from true 0) (one_line (58 ∷ r) x)
    ∙ cond-true (good_line true (58 ∷ r)) (line_from false (0 + (length (58 ∷ r) + 2)) (rest [])) (Some 0) (ap is_some e) in
    cond-true (good_length (ended (58 ∷ r))) _ _ g
    ∙ ap₂ {C = Result (Unit {0}) TextFault} (λ (o p : Option ℕ). fault_at Character o (fault_at Line p (Ok tt))) a b

-- headers
abbrev right_tag : Tag → Bool
right_tag t = digit t.0 && (digit t.1 && capital t.2)

module _ (t : Tag) (ok : right_tag t ≡ true) where
  ok₀ : digit t.0 ≡ true
  ok₀ = (and_parts (digit t.0) (digit t.1 && capital t.2) ok).0

  ok₁ : digit t.1 ≡ true
  ok₁ = (and_parts (digit t.1) (capital t.2) (and_parts (digit t.0) (digit t.1 && capital t.2) ok).1).0

  ok₂ : capital t.2 ≡ true
  ok₂ = (and_parts (digit t.1) (capital t.2) (and_parts (digit t.0) (digit t.1 && capital t.2) ok).1).1

  has_tag : (r : List ℕ) → tagged (58 ∷ t.0 ∷ t.1 ∷ t.2 ∷ 58 ∷ r) ≡ true
  has_tag r =
      and_from (digit t.0) (digit t.1 && (capital t.2 && true)) ok₀
      (and_from (digit t.1) (capital t.2 && true) ok₁ (and_from (capital t.2) true ok₂ refl))

  bare_header : (r : List ℕ) → bare t ≡ true → header (58 ∷ t.0 ∷ t.1 ∷ t.2 ∷ 58 ∷ r) ≡ Some (record { tag = t; qualifier = None; len = 5 })
  bare_header r b = cond-true (tagged (58 ∷ t.0 ∷ t.1 ∷ t.2 ∷ 58 ∷ r)) _ _ (has_tag r) ∙ cond-true (bare t) _ _ b

  x_tag : (r : List ℕ) → all set_x r ≡ true → all set_x (58 ∷ t.0 ∷ t.1 ∷ t.2 ∷ 58 ∷ r) ≡ true
  x_tag r x =
      and_from (set_x t.0) _ (x_digit t.0 ok₀)
      (and_from (set_x t.1) _ (x_digit t.1 ok₁) (and_from (set_x t.2) (all set_x r) (x_capital t.2 ok₂) x))

-- the value of a field without a qualifier is the rest of its line
value_is : (a b c d e : ℕ) (n : List ℕ) → take ((length (a ∷ b ∷ c ∷ d ∷ e ∷ n) + 0) - 5) (n ++ (13 ∷ 10 ∷ [])) ≡ n
value_is a b c d e n =
    let q : (length (a ∷ b ∷ c ∷ d ∷ e ∷ n) + 0) - 5 ≡ length n = omega arith in
    ap (λ (k : ℕ). take k (n ++ (13 ∷ 10 ∷ []))) q ∙ front n
  where
    front : (n : List ℕ) → take (length n) (n ++ (13 ∷ 10 ∷ [])) ≡ n
    front [] = refl
    front (x ∷ n) = ap {B = List ℕ} (λ l. x ∷ l) (front n)

-- a block's name
name_parts : (n : List ℕ) → good_name n ≡ true → (length n ≤ 8) × (all set_x n ≡ true)
name_parts n h =
    let p = and_parts (leb 1 (length n)) (leb (length n) 8 && all set_x n) h in
    let q = and_parts (leb (length n) 8) (all set_x n) p.1 in
    (leb-true _ _ q.0, q.1)

had_block : (t : Tag) → right_tag t ≡ true → bare t ≡ true → (k : List ℕ → Key) → ((n : List ℕ) → key_as t None n ≡ k n)
    → (n : List ℕ) → good_name n ≡ true → Had (k n)
had_block t ok b k same n h =
    let p = name_parts n h in
    let r = t.0 ∷ t.1 ∷ t.2 ∷ 58 ∷ n in
    let e = bare_header t ok n b in
    let x = x_tag t ok n p.1 in
    record {
      text = ended (58 ∷ r);
      field = field_of (58 ∷ r) (record { tag = t; qualifier = None; len = 5 });
      good = good_text r (record { tag = t; qualifier = None; len = 5 }) x (omega (arith, p.0)) e;
      alone = one_field (58 ∷ r) (record { tag = t; qualifier = None; len = 5 }) x e;
      key = same _ ∙ ap k (value_is 58 t.0 t.1 t.2 58 n);
    }

-- a tag with a qualifier, or without
tag_parts : (t : Tag) → good_tag t ≡ true → (right_tag t ≡ true) × (is_tag t (49, 54, 82) ≡ false) × (is_tag t (49, 54, 83) ≡ false)
tag_parts t h =
    let p = and_parts (right_tag t) (not (is_tag t (49, 54, 82)) && not (is_tag t (49, 54, 83))) h in
    let q = and_parts (not (is_tag t (49, 54, 82))) (not (is_tag t (49, 54, 83))) p.1 in
    (p.0, not-true _ q.0, not-true _ q.1)

named_key : (t : Tag) (o : Option Qualifier) (v : List ℕ) → good_tag t ≡ true → key_as t o v ≡ names t o
named_key t o v h =
    let p = tag_parts t h in
    cond-false (is_tag t (49, 54, 82)) (opens v) _ p.1 ∙ cond-false (is_tag t (49, 54, 83)) (closes v) (names t o) p.2

had_bare : (t : Tag) → good_tag t ≡ true → bare t ≡ true → Had (names t None)
had_bare t g b =
    let ok = (tag_parts t g).0 in
    let r = t.0 ∷ t.1 ∷ t.2 ∷ 58 ∷ [] in
    let e = bare_header t ok [] b in
    let x = x_tag t ok [] refl in
    record {
      text = ended (58 ∷ r);
      field = field_of (58 ∷ r) (record { tag = t; qualifier = None; len = 5 });
      good = good_text r (record { tag = t; qualifier = None; len = 5 }) x (lit≤ tt) e;
      alone = one_field (58 ∷ r) (record { tag = t; qualifier = None; len = 5 }) x e;
      key = named_key t None _ g;
    }

had_qualified : (t : Tag) (q : Qualifier) → good_tag t ≡ true → bare t ≡ false → good_qualifier q ≡ true → Had (names t (Some q))
had_qualified t q g b h =
    let ok = (tag_parts t g).0 in
    let p = and_parts (alphanumeric q.0) (alphanumeric q.1 && (alphanumeric q.2 && alphanumeric q.3)) h in
    let p₁ = and_parts (alphanumeric q.1) (alphanumeric q.2 && alphanumeric q.3) p.1 in
    let p₂ = and_parts (alphanumeric q.2) (alphanumeric q.3) p₁.1 in
    let s = 58 ∷ q.0 ∷ q.1 ∷ q.2 ∷ q.3 ∷ 47 ∷ [] in
    let r = t.0 ∷ t.1 ∷ t.2 ∷ 58 ∷ s in
    let z : qualified (58 ∷ r) ≡ true =
    and_from (alphanumeric q.0) _ p.0
    (and_from (alphanumeric q.1) _ p₁.0 (and_from (alphanumeric q.2) _ p₂.0 (and_from (alphanumeric q.3) true p₂.1 refl))) in
    let e : header (58 ∷ r) ≡ Some (record { tag = t; qualifier = Some q; len = 6 }) =
    cond-true (tagged (58 ∷ r)) _ _ (has_tag t ok s) ∙ cond-false (bare t) _ _ b ∙ cond-true (qualified (58 ∷ r)) _ _ z in
    let x : all set_x (58 ∷ r) ≡ true =
    x_tag t ok s
    (and_from (set_x q.0) _ (x_alphanumeric q.0 p.0)
    (and_from (set_x q.1) _ (x_alphanumeric q.1 p₁.0)
    (and_from (set_x q.2) _ (x_alphanumeric q.2 p₂.0) (and_from (set_x q.3) true (x_alphanumeric q.3 p₂.1) refl)))) in
    record {
      text = ended (58 ∷ r);
      field = field_of (58 ∷ r) (record { tag = t; qualifier = Some q; len = 6 });
      good = good_text r (record { tag = t; qualifier = Some q; len = 6 }) x (lit≤ tt) e;
      alone = one_field (58 ∷ r) (record { tag = t; qualifier = Some q; len = 6 }) x e;
      key = named_key t (Some q) _ g;
    }

pub had : (k : Key) → possible k ≡ true → Had k
had (opens n) h = had_block (49, 54, 82) refl refl opens (λ v. refl) n h
had (closes n) h = had_block (49, 54, 83) refl refl closes (λ v. refl) n h
had (names t None) h = let p = and_parts (good_tag t) (bare t) h in had_bare t p.0 p.1
had (names t (Some q)) h =
    let p = and_parts (good_tag t) (not (bare t) && good_qualifier q) h in
    let r = and_parts (not (bare t)) (good_qualifier q) p.1 in
    had_qualified t q p.0 (not-true (bare t) r.0) r.1
