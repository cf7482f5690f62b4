-- Each field of a good text is right, and is one. Assumes nothing.
use Rattle.std.proofs.Common.{◌≡◌, ℕ, zero, suc, ◌+◌, Bool, true, false, cond, not, ◌&&◌, ◌||◌, eqb, List, [], ◌∷◌, ◌++◌, length, take, is_some, Some, None, Option, sym, refl, ap, ◌∙◌, subst, arith, length-append}
use lib.Seq.{take-append-add}
use Rattle.std.proofs.lemmas.Bool.{and_parts, and_right, not-true, or_from}
use Rattle.fields.specs.declared.headers.Header.{Header}
use Rattle.fields.specs.Characters.{begins}
use Rattle.fields.specs.Lines.{Lines, rest, line, lines, breaks, tail}
use Rattle.fields.specs.Headers.{header}
use Rattle.fields.specs.Fields.{continued, opened, fields_from, second}
use Rattle.fields.specs.Faults.{good_line, line_from}
use Rattle.fields.specs.Laws.{unbroken, colon_line, Keyed, Right, AllRight}
use Rattle.fields.proofs.Cutting.{split}
use Rattle.fields.proofs.Heads.{Headed, headed}
use Rattle.fields.proofs.Spelling.{field_at, value_is, regrouped}

-- a good line, and the good lines behind it
pub good_on : (first : Bool) (at : ℕ) (l : List ℕ) (ls : Lines) → line_from first at (line l ls) ≡ None
    → (good_line first l ≡ true) × (line_from false (at + (length l + 2)) ls ≡ None)
good_on first at l ls e = by (good_line first l) e
  where
    by : (b : Bool) → cond b (line_from false (at + (length l + 2)) ls) (Some at) ≡ None → (b ≡ true) × (line_from false (at + (length l + 2)) ls ≡ None)
    by true p = (refl, p)
    by false p = let f : ◌≡◌ {A = ℕ} 0 1 = cc in absurd (omega arith)

-- a good line without a header begins with no colon
no_colon : (first : Bool) (l x : List ℕ) → good_line first l ≡ true → is_some (header l) ≡ false → begins 58 (l ++ x) ≡ false
no_colon first [] x g n = let f : ◌≡◌ {A = ℕ} 0 1 = cc in absurd (omega arith)
no_colon first (c ∷ l) x g n = by (begins 58 (c ∷ l)) (is_some (header (c ∷ l))) (and_parts (not (begins 45 (c ∷ l))) _ g).1 n
  where
    by : (b s : Bool) → cond b s (not first) ≡ true → s ≡ false → b ≡ false
    by true s p q = let f : ◌≡◌ {A = Bool} true false = sym p ∙ q in cc
    by false s p q = refl

unbroken_end : (p v : List ℕ) → unbroken (p ++ v) ≡ true → unbroken v ≡ true
unbroken_end [] v u = u
unbroken_end (c ∷ p) v u = unbroken_end p v (and_parts (not (breaks c (p ++ v))) _ u).1

-- in a part without CR LF no line begins
colon_past : (v x : List ℕ) → unbroken v ≡ true → begins 10 x ≡ false → colon_line (v ++ x) ≡ colon_line x
colon_past [] x u b = refl
colon_past (c ∷ v) x u b =
    let p = and_parts (not (breaks c v)) _ u in
    let n : breaks c (v ++ x) ≡ false = by v (not-true _ p.0) in
    let i : colon_line (v ++ x) ≡ colon_line x = colon_past v x p.1 b in
    ap (λ (t : Bool). (t && begins 58 (tail (v ++ x))) || colon_line (v ++ x)) n ∙ i
  where
    by : (v : List ℕ) → breaks c v ≡ false → breaks c (v ++ x) ≡ false
    by [] q = and_right (eqb c 13) _ b
    by (d ∷ v) q = q

front : (k : ℕ) (m : List ℕ) → begins 10 (take k (13 ∷ m)) ≡ false
front zero m = refl
front (suc k) m = refl

single_more : (l m t : List ℕ) (k : ℕ) → m ≡ l ++ (13 ∷ 10 ∷ t) → unbroken l ≡ true → begins 58 (l ++ take k (13 ∷ 10 ∷ t)) ≡ false
    → colon_line (take k (13 ∷ 10 ∷ t)) ≡ false → colon_line (take (length l + (2 + k)) (13 ∷ 10 ∷ m)) ≡ false
single_more l m t k w u n i =
    let q : length l + (2 + k) ≡ suc (suc (length l + k)) = omega arith in
    let a : take (length l + (2 + k)) (13 ∷ 10 ∷ m) ≡ 13 ∷ 10 ∷ (l ++ take k (13 ∷ 10 ∷ t)) = rw (q, w, take-append-add) refl in
    ap colon_line a ∙ or_from (begins 58 (l ++ take k (13 ∷ 10 ∷ t))) _ n (colon_past l (take k (13 ∷ 10 ∷ t)) u (front k (10 ∷ t)) ∙ i)

-- no line that continues a field begins with a colon
single : (x : Lines) (m : List ℕ) (at : ℕ) → lines m ≡ x → line_from false at x ≡ None → colon_line (take (continued x) (13 ∷ 10 ∷ m)) ≡ false
single (rest r) m at e g = refl
single (line l ls) m at e g =
    let o = good_on false at l ls g in
    by o.0 (λ t p. single ls t (at + (length l + 2)) p o.1) (is_some (header l)) refl
  where
    by : good_line false l ≡ true → ((t : List ℕ) → lines t ≡ ls → colon_line (take (continued ls) (13 ∷ 10 ∷ t)) ≡ false)
        → (b : Bool) → is_some (header l) ≡ b → colon_line (take (cond b 0 (length l + (2 + continued ls))) (13 ∷ 10 ∷ m)) ≡ false
    by g ih true p = refl
    by g ih false p =
        let s = split m l ls e in
        single_more l m s.tail _ s.whole s.one (no_colon false l _ g p) (ih s.tail s.others)

one_right : (p l t : List ℕ) (k n : ℕ) (h : Header) → Headed l h → n ≡ length p → unbroken l ≡ true → colon_line (take k (13 ∷ 10 ∷ t)) ≡ false
    → Right (p ++ (l ++ (13 ∷ 10 ∷ t))) (field_at n h (length l + k))
one_right p l t k n h d z u c =
    let v = value_is p l t k n h d z in
    let m : unbroken d.more ≡ true =
    unbroken_end (58 ∷ h.tag.0 ∷ h.tag.1 ∷ h.tag.2 ∷ 58 ∷ second h.qualifier) d.more
    (subst (λ (x : List ℕ). unbroken x ≡ true) d.whole u) in
    record {
      tag = d.tag;
      keyed = subst (λ (x : List ℕ). Keyed h.tag h.qualifier x) (sym v) (d.keyed (take k (13 ∷ 10 ∷ t)));
      single = ap colon_line v ∙ colon_past d.more (take k (13 ∷ 10 ∷ t)) m (front k (10 ∷ t)) ∙ c;
    }

pub all_right : (x : Lines) (first : Bool) (at : ℕ) (t p text : List ℕ) (n : ℕ) → lines t ≡ x → line_from first at x ≡ None → n ≡ length p → text ≡ p ++ t
    → AllRight text (fields_from n x)
all_right (rest r) first at t p text n e g z w = tt
all_right (line l ls) first at t p text n e g z w =
    let s = split t l ls e in
    let o = good_on first at l ls g in
    by s.tail s.whole s.one (single ls s.tail (at + (length l + 2)) s.others o.1) (header l) refl
    (all_right ls false (at + (length l + 2)) s.tail (p ++ (l ++ (13 ∷ 10 ∷ []))) text (n + (length l + 2)) s.others o.1
    (simp length-append (omega arith)) (regrouped p l t s.tail text s.whole w))
  where
    by : (m : List ℕ) → t ≡ l ++ (13 ∷ 10 ∷ m) → unbroken l ≡ true → colon_line (take (continued ls) (13 ∷ 10 ∷ m)) ≡ false
        → (q : Option Header) → header l ≡ q → AllRight text (fields_from (n + (length l + 2)) ls)
        → AllRight text (opened q n (length l + continued ls) ++ fields_from (n + (length l + 2)) ls)
    by m v u c None h i = i
    by m v u c (Some h) q i = (
      subst (λ (y : List ℕ). Right y (field_at n h (length l + continued ls))) (sym (w ∙ ap (λ (y : List ℕ). p ++ y) v))
          (one_right p l m (continued ls) n h (headed l h q) z u c),
      i,
    )
