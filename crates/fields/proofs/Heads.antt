-- What a right header is made of. Assumes nothing.
use Rattle.std.proofs.Common.{◌≡◌, ℕ, zero, suc, ◌+◌, ◌<◌, ◌≤◌, Bool, true, false, cond, ◌&&◌, eqb, leb, ◌⊎◌, List, [], ◌∷◌, ◌++◌, length, get_or, drop, Some, None, Option, sym, refl, ap, ◌∙◌, subst, ap₂, inl, inr, arith}
use Rattle.std.proofs.lemmas.List.{get_or_past}
use Rattle.std.proofs.lemmas.Bool.{eqb-true, ne_eqb, leb-true, and_parts, and_right, and_from, or_cases, cond-true, cond-false}
use Rattle.fields.specs.declared.headers.Tag.{Tag}
use Rattle.fields.specs.declared.headers.Qualifier.{Qualifier}
use Rattle.fields.specs.declared.headers.Header.{Header}
use Rattle.fields.specs.Characters.{digit, capital, alphanumeric}
use Rattle.fields.specs.Headers.{byte, tagged, tag_of, bare, qualified, qualifier_of, header}
use Rattle.fields.specs.Fields.{second}
use Rattle.fields.specs.Laws.{Keyed}

-- a byte that is not 0 is there
there : (l : List ℕ) (i : ℕ) → 0 < get_or l i 0 → drop i l ≡ get_or l i 0 ∷ drop (suc i) l
there [] zero h = absurd (omega arith)
there [] (suc i) h = absurd (omega arith)
there (c ∷ l) zero h = refl
there (c ∷ l) (suc i) h = there l i h

is_colon : (c : ℕ) → eqb c 58 ≡ true → 0 < c
is_colon c e = let p : c ≡ 58 = eqb-true c 58 e in omega arith

is_digit : (c : ℕ) → digit c ≡ true → 0 < c
is_digit c e = let p : 48 ≤ c = leb-true 48 c (and_parts (leb 48 c) (leb c 57) e).0 in omega arith

is_capital : (c : ℕ) → capital c ≡ true → 0 < c
is_capital c e = let p : 65 ≤ c = leb-true 65 c (and_parts (leb 65 c) (leb c 90) e).0 in omega arith

-- a colon, a tag, a colon
tag_bytes : (l : List ℕ) → tagged l ≡ true → l ≡ 58 ∷ byte l 1 ∷ byte l 2 ∷ byte l 3 ∷ 58 ∷ drop 5 l
tag_bytes l e =
    let a = and_parts (eqb (byte l 0) 58) _ e in
    let b = and_parts (digit (byte l 1)) _ a.1 in
    let c = and_parts (digit (byte l 2)) _ b.1 in
    let d = and_parts (capital (byte l 3)) _ c.1 in
    let p : byte l 0 ≡ 58 = eqb-true _ _ a.0 in
    let q : byte l 4 ≡ 58 = eqb-true _ _ d.1 in
    let e0 : drop 0 l ≡ byte l 0 ∷ drop 1 l = there l 0 (is_colon _ a.0) in
    let e1 : drop 1 l ≡ byte l 1 ∷ drop 2 l = there l 1 (is_digit _ b.0) in
    let e2 : drop 2 l ≡ byte l 2 ∷ drop 3 l = there l 2 (is_digit _ c.0) in
    let e3 : drop 3 l ≡ byte l 3 ∷ drop 4 l = there l 3 (is_capital _ d.0) in
    let e4 : drop 4 l ≡ byte l 4 ∷ drop 5 l = there l 4 (is_colon _ d.1) in
    let z : drop 0 l ≡ l = refl in
    cc

tag_right : (l : List ℕ) → tagged l ≡ true → (digit (byte l 1) && (digit (byte l 2) && capital (byte l 3))) ≡ true
tag_right l e =
    let a = and_parts (eqb (byte l 0) 58) _ e in
    let b = and_parts (digit (byte l 1)) _ a.1 in
    let c = and_parts (digit (byte l 2)) _ b.1 in
    let d = and_parts (capital (byte l 3)) _ c.1 in
    and_from _ _ b.0 (and_from _ _ c.0 d.0)

is_alphanumeric : (c : ℕ) → alphanumeric c ≡ true → 0 < c
is_alphanumeric c e = by (or_cases (capital c) (digit c) e)
  where
    by : (capital c ≡ true) ⊎ (digit c ≡ true) → 0 < c
    by (inl p) = is_capital c p
    by (inr p) = is_digit c p

-- a colon, a qualifier and a slash
qualifier_bytes : (l : List ℕ) → qualified l ≡ true
    → (drop 5 l ≡ 58 ∷ drop 6 l) × (drop 6 l ≡ byte l 6 ∷ byte l 7 ∷ byte l 8 ∷ byte l 9 ∷ 47 ∷ drop 11 l)
    × ((alphanumeric (byte l 6) && (alphanumeric (byte l 7) && (alphanumeric (byte l 8) && alphanumeric (byte l 9)))) ≡ true)
qualifier_bytes l e =
    let a = and_parts (eqb (byte l 5) 58) _ e in
    let b = and_parts (alphanumeric (byte l 6)) _ a.1 in
    let c = and_parts (alphanumeric (byte l 7)) _ b.1 in
    let d = and_parts (alphanumeric (byte l 8)) _ c.1 in
    let f = and_parts (alphanumeric (byte l 9)) _ d.1 in
    let p : byte l 5 ≡ 58 = eqb-true _ _ a.0 in
    let q : byte l 10 ≡ 47 = eqb-true _ _ f.1 in
    let e5 : drop 5 l ≡ byte l 5 ∷ drop 6 l = there l 5 (is_colon _ a.0) in
    let e6 : drop 6 l ≡ byte l 6 ∷ drop 7 l = there l 6 (is_alphanumeric _ b.0) in
    let e7 : drop 7 l ≡ byte l 7 ∷ drop 8 l = there l 7 (is_alphanumeric _ c.0) in
    let e8 : drop 8 l ≡ byte l 8 ∷ drop 9 l = there l 8 (is_alphanumeric _ d.0) in
    let e9 : drop 9 l ≡ byte l 9 ∷ drop 10 l = there l 9 (is_alphanumeric _ f.0) in
    let e10 : drop 10 l ≡ byte l 10 ∷ drop 11 l = there l 10 (omega arith) in
    (cc, cc, and_from _ _ b.0 (and_from _ _ c.0 (and_from _ _ d.0 f.0)))

-- the header of a line, as bytes, and what stands behind it
pub record Headed (l : List ℕ) (h : Header) : Type 0 where
  pub more : List ℕ
  pub whole : l ≡ (58 ∷ h.tag.0 ∷ h.tag.1 ∷ h.tag.2 ∷ 58 ∷ second h.qualifier) ++ more
  pub size : h.len ≡ 5 + length (second h.qualifier)
  pub tag : (digit h.tag.0 && (digit h.tag.1 && capital h.tag.2)) ≡ true
  pub keyed : (x : List ℕ) → Keyed h.tag h.qualifier (more ++ x)

pub headed : (l : List ℕ) (h : Header) → header l ≡ Some h → Headed l h
headed l h e = by (tagged l) refl (bare (tag_of l)) refl (qualified l) refl e
  where
    by : (t : Bool) → tagged l ≡ t → (b : Bool) → bare (tag_of l) ≡ b → (q : Bool) → qualified l ≡ q
        → cond t (cond b (Some (record { tag = tag_of l; qualifier = None; len = 5 }))
        (cond q (Some (record { tag = tag_of l; qualifier = Some (qualifier_of l); len = 6 })) None)) None ≡ Some h → Headed l h
    by false p b s q r z = let f : ◌≡◌ {A = ℕ} 0 1 = cc in absurd (omega arith)
    by true p true s q r z =
        let y : record { tag = tag_of l; qualifier = None; len = 5 } ≡ h = cc in
        subst (λ (h : Header). Headed l h) y
        (record { more = drop 5 l; whole = tag_bytes l p; size = refl; tag = tag_right l p; keyed = λ x. s })
    by true p false s false r z = let f : ◌≡◌ {A = ℕ} 0 1 = cc in absurd (omega arith)
    by true p false s true r z =
        let y : record { tag = tag_of l; qualifier = Some (qualifier_of l); len = 6 } ≡ h = cc in
        let a = qualifier_bytes l r in
        let d : drop 5 l ≡ 58 ∷ drop 6 l = a.0 in
        let w : l ≡ 58 ∷ byte l 1 ∷ byte l 2 ∷ byte l 3 ∷ 58 ∷ 58 ∷ drop 6 l = let u = tag_bytes l p in cc in
        subst (λ (h : Header). Headed l h) y
        (record {
          more = drop 6 l;
          whole = w;
          size = refl;
          tag = tag_right l p;
          keyed = λ x. (s, a.2, (drop 11 l ++ x, ap (λ (v : List ℕ). v ++ x) a.1));
        })

-- what a reader of a header answers
pub read_none : (l : List ℕ) → false ≡ tagged l → None ≡ header l
read_none l t = sym (cond-false (tagged l) _ _ (sym t))

tag_is : (l : List ℕ) (a b c : ℕ) → a ≡ byte l 1 → b ≡ byte l 2 → c ≡ byte l 3 → ◌≡◌ {A = Tag} (a, b, c) (tag_of l)
tag_is l a b c p q r = rw (p, q, r) refl

pub read_bare : (l : List ℕ) (a b c : ℕ) → a ≡ byte l 1 → b ≡ byte l 2 → c ≡ byte l 3 → true ≡ tagged l → true ≡ bare (a, b, c)
    → Some (record { tag = (a, b, c); qualifier = None; len = 5 }) ≡ header l
read_bare l a b c p q r t e =
    let z = tag_is l a b c p q r in
    ap {B = Option Header} (λ (t : Tag). Some (record { tag = t; qualifier = None; len = 5 })) z
    ∙ sym (cond-true (tagged l) _ _ (sym t) ∙ cond-true (bare (tag_of l)) _ _ (ap bare (sym z) ∙ sym e))

pub read_qualified : (l : List ℕ) (a b c i j k n : ℕ) → a ≡ byte l 1 → b ≡ byte l 2 → c ≡ byte l 3 → true ≡ tagged l → false ≡ bare (a, b, c)
    → true ≡ qualified l → i ≡ byte l 6 → j ≡ byte l 7 → k ≡ byte l 8 → n ≡ byte l 9
    → Some (record { tag = (a, b, c); qualifier = Some (i, j, k, n); len = 6 }) ≡ header l
read_qualified l a b c i j k n p q r t e s w x y u =
    let z = tag_is l a b c p q r in
    let v : ◌≡◌ {A = Qualifier} (i, j, k, n) (qualifier_of l) = rw (w, x, y, u) refl in
    ap₂ {C = Option Header} (λ (t : Tag) (v : Qualifier). Some (record { tag = t; qualifier = Some v; len = 6 })) z v
    ∙ sym (cond-true (tagged l) _ _ (sym t) ∙ cond-false (bare (tag_of l)) _ _ (ap bare (sym z) ∙ sym e) ∙ cond-true (qualified l) _ _ (sym s))

-- what a test of a line gives
given : {A : Type 0} (b : Bool) (x y : A) → Some y ≡ cond b (Some x) None → (b ≡ true) × (y ≡ x)
given {A} true x y e = (refl, cc)
given {A} false x y e = let f : ◌≡◌ {A = ℕ} 0 1 = cc in absurd (omega arith)

none_given : {A : Type 0} (b : Bool) (x : A) → None ≡ cond b (Some x) None → b ≡ false
none_given {A} true x e = let f : ◌≡◌ {A = ℕ} 0 1 = cc in absurd (omega arith)
none_given {A} false x e = refl

-- a line without room for a qualifier and its slash has none
pub too_short : (l : List ℕ) → length l ≤ 10 → None ≡ cond (qualified l) (Some (qualifier_of l)) None
too_short l h =
    let z : byte l 10 ≡ 0 = get_or_past l 10 0 h in
    let n : eqb (byte l 10) 47 ≡ false = ap (λ (n : ℕ). eqb n 47) z in
    sym (cond-false (qualified l) _ _
    (and_right (eqb (byte l 5) 58) _ (and_right (alphanumeric (byte l 6)) _ (and_right (alphanumeric (byte l 7)) _
    (and_right (alphanumeric (byte l 8)) _ (and_right (alphanumeric (byte l 9)) _ n))))))

-- the header of a line with a tag that asks for a qualifier
pub no_qualifier : (l : List ℕ) (t : Tag) → Some t ≡ cond (tagged l) (Some (tag_of l)) None → false ≡ bare t
    → None ≡ cond (qualified l) (Some (qualifier_of l)) None → None ≡ header l
no_qualifier l t p e q =
    let a = given (tagged l) (tag_of l) t p in
    sym (cond-true (tagged l) _ _ a.0 ∙ cond-false (bare (tag_of l)) _ _ (ap bare (sym a.1) ∙ sym e)
    ∙ cond-false (qualified l) _ _ (none_given (qualified l) (qualifier_of l) q))

pub with_qualifier : (l : List ℕ) (t : Tag) (v : Qualifier) → Some t ≡ cond (tagged l) (Some (tag_of l)) None → false ≡ bare t
    → Some v ≡ cond (qualified l) (Some (qualifier_of l)) None → Some (record { tag = t; qualifier = Some v; len = 6 }) ≡ header l
with_qualifier l t v p e q =
    let a = given (tagged l) (tag_of l) t p in
    let b = given (qualified l) (qualifier_of l) v q in
    ap₂ {C = Option Header} (λ (t : Tag) (v : Qualifier). Some (record { tag = t; qualifier = Some v; len = 6 })) a.1 b.1
    ∙ sym (cond-true (tagged l) _ _ a.0 ∙ cond-false (bare (tag_of l)) _ _ (ap bare (sym a.1) ∙ sym e) ∙ cond-true (qualified l) _ _ b.0)

-- none of these is a CR
pub is_digit_not_cr : (c : ℕ) → digit c ≡ true → eqb c 13 ≡ false
is_digit_not_cr c e = ne_eqb c 13 (λ p. let q : 48 ≤ c = leb-true 48 c (and_parts (leb 48 c) (leb c 57) e).0 in omega arith)

pub is_capital_not_cr : (c : ℕ) → capital c ≡ true → eqb c 13 ≡ false
is_capital_not_cr c e = ne_eqb c 13 (λ p. let q : 65 ≤ c = leb-true 65 c (and_parts (leb 65 c) (leb c 90) e).0 in omega arith)

pub is_alphanumeric_not_cr : (c : ℕ) → alphanumeric c ≡ true → eqb c 13 ≡ false
is_alphanumeric_not_cr c e = by (or_cases (capital c) (digit c) e)
  where
    by : (capital c ≡ true) ⊎ (digit c ≡ true) → eqb c 13 ≡ false
    by (inl p) = is_capital_not_cr c p
    by (inr p) = is_digit_not_cr c p
