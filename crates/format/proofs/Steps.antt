-- One character more of a word, a run or a number, for the loops that read them. Assumes nothing.
use Rattle.std.proofs.Common.{◌≡◌, ℕ, zero, suc, ◌+◌, ◌-◌, ◌*◌, ◌^◌, ◌<◌, ◌≤◌, Bool, true, false, cond, eqb, leb, List, [], ◌∷◌, ◌++◌, length, drop, Some, None, Option, sym, refl, ap, ◌∙◌, ap₂, mul-le-mul_right, mul_assoc, mul-le-mul_left, arith}
use native.Mathlib.Nat.{pow-succ', pow-le-pow_right}
use Rattle.std.proofs.lemmas.Option.{none-some}
use Rattle.std.proofs.lemmas.List.{drop_more}
use Rattle.std.proofs.lemmas.Bool.{and_parts, leb-true, cond-true}
use Rattle.format.specs.Texts.{and_then, after_word}
use Rattle.format.specs.Runs.{first_of}
use Rattle.format.specs.Numbers.{number_on, number}
use Rattle.fields.specs.Characters.{between, digit}

abbrev pub Read : Type 0
Read = Option (ℕ × List ℕ)

pub same_pair : {A B : Type 0} (a c : A) (b d : B) → ◌≡◌ {A = Option (A × B)} (Some (a, b)) (Some (c, d)) → (a ≡ c) × (b ≡ d)
same_pair {A} {B} a c b d e = let p : ◌≡◌ {A = A × B} (a, b) (c, d) = cc in (ap (λ (x : A × B). x.0) p, ap (λ (x : A × B). x.1) p)

-- a character of the class stands at the front
pub first_some : (k : ℕ → Bool) (s : List ℕ) (c : ℕ) (t : List ℕ) → Some (c, t) ≡ first_of k s → (s ≡ c ∷ t) × (k c ≡ true)
first_some k [] c t e = absurd (none-some (c, t) (sym e))
first_some k (d ∷ s) c t e = by (k d) refl e
  where
    by : (b : Bool) → k d ≡ b → ◌≡◌ {A = Read} (Some (c, t)) (cond b (Some (d, s)) None) → (d ∷ s ≡ c ∷ t) × (k c ≡ true)
    by true q e = let p = same_pair c d t s e in (ap₂ (λ (x : ℕ) (l : List ℕ). x ∷ l) (sym p.0) (sym p.1), ap k p.0 ∙ q)
    by false q e = absurd (none-some (c, t) (sym e))

-- where a word goes on, and the text does not
pub word_ends : (w s : List ℕ) (i : ℕ) → i < length w → s ≡ [] → None ≡ after_word (drop i w) s
word_ends w s i h e = sym (ap₂ after_word (drop_more w i 0 h) e)

-- a word in two parts, one behind the other
pub word_parts : (w u s : List ℕ) → after_word (w ++ u) s ≡ and_then (after_word w s) (after_word u)
word_parts [] u s = refl
word_parts (c ∷ w) u [] = refl
word_parts (c ∷ w) u (x ∷ s) = by (eqb x c) (word_parts w u s)
  where
    by : (b : Bool) → after_word (w ++ u) s ≡ and_then (after_word w s) (after_word u)
        → cond b (after_word (w ++ u) s) None ≡ and_then (cond b (after_word w s) None) (after_word u)
    by true h = h
    by false h = refl

pub number_first : (k c : ℕ) (s t : List ℕ) → Some (c, t) ≡ first_of (between 49 57) s → number_on (k - 1) (c - 48) t ≡ number k s
number_first k c s t e = let f = first_some (between 49 57) s c t e in sym (ap (number k) f.0 ∙ cond-true _ _ _ f.1)

pub on_more : (k n c : ℕ) (s t : List ℕ) → 0 < k → Some (c, t) ≡ first_of digit s → number_on k n s ≡ number_on (k - 1) (n * 10 + (c - 48)) t
on_more k n c s t p e =
    let f = first_some digit s c t e in
    let z : k ≡ suc (k - 1) = omega arith in
    ap₂ (λ (k : ℕ) (s : List ℕ). number_on k n s) z f.0 ∙ cond-true _ _ _ f.1

-- a character in a range
pub in_range : (lo hi c : ℕ) (s t : List ℕ) → Some (c, t) ≡ first_of (between lo hi) s → (lo ≤ c) × (c ≤ hi)
in_range lo hi c s t e =
    let p = and_parts (leb lo c) (leb c hi) (first_some (between lo hi) s c t e).1 in (leb-true lo c p.0, leb-true c hi p.1)

-- a number with k digits to come stays below 10 ^ m
pub room_more : (m n d k : ℕ) → 0 < k → d < 10 → (n + 1) * 10 ^ k ≤ 10 ^ m → (n * 10 + d + 1) * 10 ^ (k - 1) ≤ 10 ^ m
room_more m n d k p h b =
    let z : k ≡ suc (k - 1) = omega arith in
    let e : (n + 1) * 10 ^ k ≡ (n + 1) * 10 * 10 ^ (k - 1) =
    ap (λ (j : ℕ). (n + 1) * 10 ^ j) z ∙ ap (λ (j : ℕ). (n + 1) * j) (pow-succ' 10 (k - 1)) ∙ sym (mul_assoc (n + 1) 10 (10 ^ (k - 1))) in
    let a : (n * 10 + d + 1) * 10 ^ (k - 1) ≤ (n + 1) * 10 * 10 ^ (k - 1) = mul-le-mul_right (10 ^ (k - 1)) (omega arith) in
    omega arith

pub room_first : (d k : ℕ) → 0 < k → d < 10 → (d + 1) * 10 ^ (k - 1) ≤ 10 ^ k
room_first d k p h =
    let z : k ≡ suc (k - 1) = omega arith in
    let e : 10 ^ k ≡ 10 * 10 ^ (k - 1) = ap (λ (j : ℕ). 10 ^ j) z ∙ pow-succ' 10 (k - 1) in
    let a : (d + 1) * 10 ^ (k - 1) ≤ 10 * 10 ^ (k - 1) = mul-le-mul_right (10 ^ (k - 1)) (omega arith) in
    omega arith

pub room_below : (m n k : ℕ) → (n + 1) * 10 ^ k ≤ 10 ^ m → n < 10 ^ m
room_below m n k b = let a : (n + 1) * 1 ≤ (n + 1) * 10 ^ k = mul-le-mul_left (n + 1) (one_le_pow k) in omega arith
  where
    one_le_pow : (k : ℕ) → 1 ≤ 10 ^ k
    one_le_pow zero = omega arith
    one_le_pow (suc k) = omega (arith, pow-succ' 10 k, one_le_pow k)

pub room_fits : (m n k : ℕ) → m ≤ 15 → (n + 1) * 10 ^ k ≤ 10 ^ m → n < 10 ^ 15
room_fits m n k h b = let a : 10 ^ m ≤ 10 ^ 15 = pow-le-pow_right (omega arith) h in omega (arith, room_below m n k b)

-- what comes of reading one thing after another
pub then_some : {A B : Type 0} {o : Option A} {a : A} {r : Option B} (f : A → Option B) → Some a ≡ o → r ≡ f a → r ≡ and_then o f
then_some f e h = h ∙ ap (λ o. and_then o f) e
