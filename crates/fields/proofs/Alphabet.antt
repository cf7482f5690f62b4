-- The first byte that may not stand in a text. Assumes nothing.
use Rattle.std.proofs.Common.{◌≡◌, ℕ, zero, suc, ◌+◌, ◌-◌, ◌<◌, ◌≤◌, Bool, true, false, cond, not, ◌&&◌, ◌||◌, eqb, ltb, ◌⊎◌, List, [], ◌∷◌, length, get_or, drop, Some, None, Option, sym, refl, ap, ◌∙◌, subst, ap₂, inl, inr, arith}
use Rattle.std.proofs.lemmas.Bool.{eqb-true, eq-eqb, lt-ltb, not-true, not-false, and_parts, and_right, and_from, or_cases, or_left, or_right, both_ways, cases_order}
use Rattle.std.proofs.Math.Bool.{and_comm}
use Rattle.fields.specs.Characters.{set_x}
use Rattle.fields.specs.Faults.{good_byte, bad_at, alphabet_from, alphabet_fault}
use Rattle.fields.specs.Laws.{TogetherAt, GoodAt, BytesJudged}

-- the byte before place k
abbrev before_at : List ℕ → ℕ → ℕ
before_at text zero = 0
before_at text (suc j) = get_or text j 0

abbrev good_at : List ℕ → ℕ → Bool
good_at text k = good_byte (before_at text k) (get_or text k 0) (get_or text (suc k) 0)

together : (text : List ℕ) (k : ℕ) → (eqb (get_or text k 0) 13 && eqb (get_or text (suc k) 0) 10) ≡ true → TogetherAt text k
together text k e = let p = and_parts (eqb (get_or text k 0) 13) _ e in (eqb-true _ _ p.0, eqb-true _ _ p.1)

good_there : (text : List ℕ) (k : ℕ) → good_at text k ≡ true → GoodAt text k
good_there text k e = by (or_cases (set_x (get_or text k 0)) _ e)
  where
    last : (k : ℕ) → (eqb (get_or text k 0) 10 && eqb (before_at text k) 13) ≡ true → (j : ℕ) × (k ≡ suc j) × TogetherAt text j
    last zero p = let q : ◌≡◌ {A = ℕ} 0 13 = eqb-true 0 13 (and_parts (eqb (get_or text 0 0) 10) _ p).1 in absurd (omega arith)
    last (suc j) p = let q = and_parts (eqb (get_or text (suc j) 0) 10) _ p in (j, refl, (eqb-true _ _ q.1, eqb-true _ _ q.0))

    either : ((eqb (get_or text k 0) 13 && eqb (get_or text (suc k) 0) 10) ≡ true) ⊎ ((eqb (get_or text k 0) 10 && eqb (before_at text k) 13) ≡ true) → GoodAt text k
    either (inl p) = inr (inl (together text k p))
    either (inr p) = inr (inr (last k p))

    by : (set_x (get_or text k 0) ≡ true)
        ⊎ (((eqb (get_or text k 0) 13 && eqb (get_or text (suc k) 0) 10) || (eqb (get_or text k 0) 10 && eqb (before_at text k) 13)) ≡ true) → GoodAt text k
    by (inl p) = inl p
    by (inr p) = either (or_cases (eqb (get_or text k 0) 13 && eqb (get_or text (suc k) 0) 10) _ p)

good_test : (text : List ℕ) (k : ℕ) → GoodAt text k → good_at text k ≡ true
good_test text k (inl p) = or_left _ _ p
good_test text k (inr (inl p)) = or_right (set_x (get_or text k 0)) _ (or_left _ _ (and_from _ _ (eq-eqb _ _ p.0) (eq-eqb _ _ p.1)))
good_test text k (inr (inr (j, e, p))) =
    subst (λ (k : ℕ). good_at text k ≡ true) (sym e)
    (or_right (set_x (get_or text (suc j) 0)) _
    (or_right (eqb (get_or text (suc j) 0) 13 && eqb (get_or text (suc (suc j)) 0) 10) _ (and_from _ _ (eq-eqb _ _ p.1) (eq-eqb _ _ p.0))))

-- what a place of a text holds
at_cons : (text : List ℕ) (i c : ℕ) (cs : List ℕ) → drop i text ≡ c ∷ cs → (get_or text i 0 ≡ c) × (drop (suc i) text ≡ cs) × (i < length text)
at_cons [] zero c cs e = let f : ◌≡◌ {A = ℕ} 0 1 = cc in absurd (omega arith)
at_cons [] (suc i) c cs e = let f : ◌≡◌ {A = ℕ} 0 1 = cc in absurd (omega arith)
at_cons (d ∷ text) zero c cs e = (cc, cc, omega arith)
at_cons (d ∷ text) (suc i) c cs e = let r = at_cons text i c cs e in (r.0, r.1, omega (arith, r.2))

-- from place i on
abbrev From : List ℕ → ℕ → Option ℕ → Type 0
From text i None = (k : ℕ) → i ≤ k → k < length text → good_at text k ≡ true
From text i (Some j) = (i ≤ j) × (j < length text) × ((k : ℕ) → i ≤ k → k < j → good_at text k ≡ true) × (good_at text j ≡ false)

one_more : (text : List ℕ) (i : ℕ) (r : Option ℕ) → good_at text i ≡ true → From text (suc i) r → From text i r
one_more text i None g f = λ k h l. by k h l (cases_order i k)
  where
    by : (k : ℕ) → i ≤ k → k < length text → (i ≡ k) ⊎ ((i < k) ⊎ (k < i)) → good_at text k ≡ true
    by k h l (inl e) = subst (λ (n : ℕ). good_at text n ≡ true) e g
    by k h l (inr (inl m)) = f k (omega arith) l
    by k h l (inr (inr m)) = absurd (omega arith)
one_more text i (Some j) g f = (omega (arith, f.0), f.1, (λ k h l. by k h l (cases_order i k)), f.3)
  where
    by : (k : ℕ) → i ≤ k → k < j → (i ≡ k) ⊎ ((i < k) ⊎ (k < i)) → good_at text k ≡ true
    by k h l (inl e) = subst (λ (n : ℕ). good_at text n ≡ true) e g
    by k h l (inr (inl m)) = f.2 k (omega arith) l
    by k h l (inr (inr m)) = absurd (omega arith)

from : (cs text : List ℕ) (i : ℕ) → drop i text ≡ cs → From text i (alphabet_from (before_at text i) i cs)
from [] text i e = λ k h l. absurd (shorter text k (past text i k e h) l)
  where
    past : (t : List ℕ) (i k : ℕ) → drop i t ≡ [] → i ≤ k → drop k t ≡ []
    past [] i zero e h = refl
    past [] i (suc k) e h = refl
    past (c ∷ t) zero k e h = let f : ◌≡◌ {A = ℕ} 0 1 = cc in absurd (omega arith)
    past (c ∷ t) (suc i) zero e h = absurd (omega arith)
    past (c ∷ t) (suc i) (suc k) e h = past t i k e (omega arith)

    shorter : (t : List ℕ) (k : ℕ) → drop k t ≡ [] → k < length t → ⊥
    shorter [] k e h = omega arith
    shorter (c ∷ t) zero e h = let f : ◌≡◌ {A = ℕ} 0 1 = cc in omega arith
    shorter (c ∷ t) (suc k) e h = shorter t k e (omega arith)
from (c ∷ cs) text i e =
    let a = at_cons text i c cs e in
    let n : get_or text (suc i) 0 ≡ get_or cs 0 0 = next text (suc i) cs a.1 in
    let w : good_byte (before_at text i) (get_or text i 0) (get_or text (suc i) 0) ≡ good_byte (before_at text i) c (get_or cs 0 0) =
    ap₂ (λ (x y : ℕ). good_byte (before_at text i) x y) a.0 n in
    by (subst (λ (b : ℕ). From text (suc i) (alphabet_from b (suc i) cs)) a.0 (from cs text (suc i) a.1)) a.2 (good_byte (before_at text i) c (get_or cs 0 0)) w
  where
    next : (t : List ℕ) (k : ℕ) (s : List ℕ) → drop k t ≡ s → get_or t k 0 ≡ get_or s 0 0
    next [] zero s e = ap (λ (l : List ℕ). get_or l 0 0) e
    next [] (suc k) s e = ap (λ (l : List ℕ). get_or l 0 0) e
    next (d ∷ t) zero s e = ap (λ (l : List ℕ). get_or l 0 0) e
    next (d ∷ t) (suc k) s e = next t k s e

    by : From text (suc i) (alphabet_from c (suc i) cs) → i < length text → (b : Bool) → good_at text i ≡ b
        → From text i (cond b (alphabet_from c (suc i) cs) (Some i))
    by f l true g = one_more text i (alphabet_from c (suc i) cs) g f
    by f l false g = (omega arith, l, (λ k h m. absurd (omega arith)), g)

pub bytes_judged : (text : List ℕ) → BytesJudged text (alphabet_fault text)
bytes_judged text = by (alphabet_fault text) (from text text 0 refl)
  where
    by : (r : Option ℕ) → From text 0 r → BytesJudged text r
    by None f = λ k l. good_there text k (f k (omega arith) l)
    by (Some i) f = (f.1, (λ k l. good_there text k (f.2 k (omega arith) l)), (λ g. both_ways _ f.3 (good_test text i g)))

pub bytes_once : (text : List ℕ) (r s : Option ℕ) → BytesJudged text r → BytesJudged text s → r ≡ s
bytes_once text None None p q = refl
bytes_once text None (Some j) p q = absurd (q.2 (p j q.0))
bytes_once text (Some i) None p q = absurd (p.2 (q i p.0))
bytes_once text (Some i) (Some j) p q = by (cases_order i j)
  where
    by : (i ≡ j) ⊎ ((i < j) ⊎ (j < i)) → ◌≡◌ {A = Option ℕ} (Some i) (Some j)
    by (inl e) = ap {B = Option ℕ} Some e
    by (inr (inl l)) = absurd (p.2 (q.1 i l))
    by (inr (inr l)) = absurd (q.2 (p.1 j l))

from_once : (text : List ℕ) (r s : Option ℕ) → From text 0 r → From text 0 s → r ≡ s
from_once text None None p q = refl
from_once text None (Some j) p q = absurd (both_ways _ q.3 (p j q.0 q.1))
from_once text (Some i) None p q = absurd (both_ways _ p.3 (q i p.0 p.1))
from_once text (Some i) (Some j) p q = by (cases_order i j)
  where
    by : (i ≡ j) ⊎ ((i < j) ⊎ (j < i)) → ◌≡◌ {A = Option ℕ} (Some i) (Some j)
    by (inl e) = ap {B = Option ℕ} Some e
    by (inr (inl l)) = absurd (both_ways _ p.3 (q.2 i p.0 l))
    by (inr (inr l)) = absurd (both_ways _ q.3 (p.2 j q.0 l))

-- the test by a byte's place is the test by the byte before
bad_is : (text : List ℕ) (k : ℕ) → bad_at text k ≡ not (good_at text k)
unfolding bad_at
bad_is text zero = rw (and_right (eqb (get_or text 0 0) 10) false refl) refl
bad_is text (suc j) =
    let a : suc j - 1 ≡ j = omega arith in
    let b : suc j + 1 ≡ suc (suc j) = omega arith in
    let d : j + 1 ≡ suc j = omega arith in
    let e : ltb 0 (suc j) ≡ true = lt-ltb 0 (suc j) (omega arith) in
    rw (a, b, d, e, and_comm (eqb (get_or text (suc j) 0) 10)) refl

not_bad : (text : List ℕ) (k : ℕ) → bad_at text k ≡ false → good_at text k ≡ true
not_bad text k e = not-false _ (sym (bad_is text k) ∙ e)

pub alphabet_some : (text : List ℕ) (i : ℕ) → bad_at text i ≡ true → i < length text → ((k : ℕ) → k < i → bad_at text k ≡ false)
    → alphabet_fault text ≡ Some i
alphabet_some text i e h f =
    from_once text (alphabet_fault text) (Some i) (from text text 0 refl)
    (omega arith, h, (λ k l m. not_bad text k (f k m)), not-true _ (sym (bad_is text i) ∙ e))

pub alphabet_none : (text : List ℕ) → ((k : ℕ) → k < length text → bad_at text k ≡ false) → alphabet_fault text ≡ None
alphabet_none text f = from_once text (alphabet_fault text) None (from text text 0 refl) (λ k l m. not_bad text k (f k m))

pub bytes_told : (text : List ℕ) (r : Option ℕ) → alphabet_fault text ≡ r → BytesJudged text r
bytes_told text r e = subst (λ (r : Option ℕ). BytesJudged text r) e (bytes_judged text)
