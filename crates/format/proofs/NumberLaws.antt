-- A number that is read is one that is written, and back. Assumes nothing.
use Rattle.std.proofs.Common.{◌≡◌, ℕ, zero, suc, ◌+◌, ◌-◌, ◌*◌, ◌^◌, ◌<◌, ◌≤◌, Bool, true, false, cond, ◌&&◌, eqb, leb, List, [], ◌∷◌, ◌++◌, length, get_or, IfSome, Some, None, decimal, Option, sym, refl, ap, ◌∙◌, zero-add, arith, rules}
use native.Mathlib.Nat.{pow-le-pow_right}
use Rattle.std.proofs.lemmas.Str.Parse.{IsNumeralModel, numerals_by_fold, digits_value_short}
use Rattle.std.proofs.lemmas.Fmt.{digits_decimal, digits_value-decimal, decimal-digits_value, decimal_nonempty, first_decimal, length-decimal-le}
use Rattle.std.proofs.lemmas.Bool.{eq-eqb, eqb-true, and_from, and_parts, le-leb, leb-true, cond-true, cond-false}
use Rattle.std.proofs.lemmas.Option.{none-some}
use Rattle.std.specs.Char.{is_ascii_digit}
use Rattle.std.specs.Str.{all_ascii_digits}
use Rattle.format.proofs.Steps.{Read, same_pair}
use Rattle.format.specs.Texts.{and_then, after_word}
use Rattle.format.specs.Numbers.{InDigits, number_on, number}

abbrev read_on : ℕ → List ℕ → ℕ
read_on n [] = n
read_on n (c ∷ s) = read_on (n * 10 + (c - 48)) s

own : IsNumeralModel (λ ds. all_ascii_digits ds ≡ true) (read_on 0)
own = numerals_by_fold _ (search rules) read_on (search rules)

abbrev pub NoDigit : List ℕ → Type 0
NoDigit t = is_ascii_digit (get_or t 0 0) ≡ false

read_ge : (n : ℕ) (ds : List ℕ) → n ≤ read_on n ds
read_ge n [] = omega arith
read_ge n (c ∷ s) = omega (arith, read_ge (n * 10 + (c - 48)) s)

on_complete : (k n : ℕ) (ds t : List ℕ) → all_ascii_digits ds ≡ true → length ds ≤ k → NoDigit t → number_on k n (ds ++ t) ≡ Some (read_on n ds, t)
on_complete k n [] [] p h e = refl
on_complete zero n [] (c ∷ t) p h e = cond-false _ _ _ e
on_complete (suc k) n [] (c ∷ t) p h e = cond-false _ _ _ e
on_complete zero n (d ∷ ds) t p h e = absurd (omega arith)
on_complete (suc k) n (d ∷ ds) t p h e =
    let q = and_parts (is_ascii_digit d) (all_ascii_digits ds) p in
    cond-true _ _ _ q.0 ∙ on_complete k (n * 10 + (d - 48)) ds t q.1 (omega arith) e

-- what was read, and what is left
abbrev Front : (k n : ℕ) (s : List ℕ) (m : ℕ) (t : List ℕ) → Type 0
Front k n s m t = (ds : List ℕ) × (s ≡ ds ++ t) × (all_ascii_digits ds ≡ true) × (length ds ≤ k) × (m ≡ read_on n ds)

on_sound : (k n : ℕ) (s : List ℕ) (m : ℕ) (t : List ℕ) → number_on k n s ≡ Some (m, t) → Front k n s m t
on_sound k n [] m t e = let p = same_pair n m [] t e in ([], p.1, refl, omega arith, sym p.0)
on_sound zero n (c ∷ s) m t e = by (is_ascii_digit c) e
  where
    by : (b : Bool) → cond {A = Read} b None (Some (n, c ∷ s)) ≡ Some (m, t) → Front zero n (c ∷ s) m t
    by true q = absurd (none-some (m, t) q)
    by false q = let p = same_pair n m (c ∷ s) t q in ([], p.1, refl, omega arith, sym p.0)
on_sound (suc k) n (c ∷ s) m t e = by (is_ascii_digit c) refl (on_sound k (n * 10 + (c - 48)) s m t) e
  where
    by : (b : Bool) → is_ascii_digit c ≡ b → (number_on k (n * 10 + (c - 48)) s ≡ Some (m, t) → Front k (n * 10 + (c - 48)) s m t)
        → cond {A = Read} b (number_on k (n * 10 + (c - 48)) s) (Some (n, c ∷ s)) ≡ Some (m, t) → Front (suc k) n (c ∷ s) m t
    by true p rest q =
        let r = rest q in (c ∷ r.0, ap {B = List ℕ} (λ (u : List ℕ). c ∷ u) r.1, and_from _ _ p r.2, omega (arith, r.3), r.4)
    by false p rest q = let p = same_pair n m (c ∷ s) t q in ([], p.1, refl, omega arith, sym p.0)

pub number_complete : (k n : ℕ) (t : List ℕ) → 0 < k → 0 < n → n < 10 ^ k → n < 2 ^ 64 → NoDigit t → number k (decimal n ++ t) ≡ Some (n, t)
number_complete k n t p z h f e =
    by (decimal n) (digits_decimal own n f) (first_decimal n z f) (decimal_nonempty n f) (length-decimal-le k n p h f) (digits_value-decimal own n f)
  where
    by : (ds : List ℕ) → all_ascii_digits ds ≡ true → 48 < get_or ds 0 0 → 0 < length ds → length ds ≤ k → read_on 0 ds ≡ n → number k (ds ++ t) ≡ Some (n, t)
    by [] a b c l v = absurd (omega arith)
    by (d ∷ ds) a b c l v =
        let q = and_parts (is_ascii_digit d) (all_ascii_digits ds) a in
        let r = and_parts (leb 48 d) (leb d 57) q.0 in
        cond-true _ _ _ (and_from _ _ (le-leb 49 d (omega arith)) r.1)
        ∙ on_complete (k - 1) (d - 48) ds t q.1 (omega arith) e
        ∙ ap {B = Option (ℕ × List ℕ)} (λ (m : ℕ). Some (m, t)) (ap (λ (m : ℕ). read_on m ds) (sym (zero-add (d - 48))) ∙ v)

pub number_sound : (k : ℕ) (s : List ℕ) (n : ℕ) (t : List ℕ) → 0 < k → k ≤ 15 → number k s ≡ Some (n, t) → (0 < n) × (n < 10 ^ k) × (s ≡ decimal n ++ t)
number_sound k [] n t p l e = absurd (none-some (n, t) e)
number_sound k (c ∷ s) n t p l e = by (leb 49 c && leb c 57) refl e
  where
    by : (b : Bool) → (leb 49 c && leb c 57) ≡ b → cond {A = Read} b (number_on (k - 1) (c - 48) s) None ≡ Some (n, t) → (0 < n) × (n < 10 ^ k) × (c ∷ s ≡ decimal n ++ t)
    by false q f = absurd (none-some (n, t) f)
    by true q f =
        let r = on_sound (k - 1) (c - 48) s n t f in
        let a = and_parts (leb 49 c) (leb c 57) q in
        let low : 49 ≤ c = leb-true 49 c a.0 in
        let all : all_ascii_digits (c ∷ r.0) ≡ true = and_from _ _ (and_from _ _ (le-leb 48 c (omega arith)) a.1) r.2 in
        let is : n ≡ read_on 0 (c ∷ r.0) = r.4 ∙ ap (λ (m : ℕ). read_on m r.0) (sym (zero-add (c - 48))) in
        let short : read_on 0 (c ∷ r.0) < 10 ^ k = digits_value_short own (c ∷ r.0) k all (omega (arith, r.3)) in
        let m : 10 ^ k ≤ 10 ^ 15 = pow-le-pow_right (omega arith) l in
        let d : decimal (read_on 0 (c ∷ r.0)) ≡ c ∷ r.0 = decimal-digits_value own (c ∷ r.0) all (omega arith) (λ z. absurd (omega arith)) (omega arith) in (
          omega (arith, r.4, read_ge (c - 48) r.0),
          omega arith,
          ap {B = List ℕ} (λ (u : List ℕ). c ∷ u) r.1 ∙ ap (λ (u : List ℕ). u ++ t) (sym d ∙ ap decimal (sym is)),
        )

pub word_complete : (w t : List ℕ) → after_word w (w ++ t) ≡ Some t
word_complete [] t = refl
word_complete (c ∷ w) t = cond-true _ _ _ (eq-eqb c c refl) ∙ word_complete w t

pub word_sound : (w s t : List ℕ) → after_word w s ≡ Some t → s ≡ w ++ t
word_sound [] s t e = cc
word_sound (c ∷ w) [] t e = absurd (none-some t e)
word_sound (c ∷ w) (x ∷ s) t e = by (eqb x c) refl (word_sound w s t) e
  where
    by : (b : Bool) → eqb x c ≡ b → (after_word w s ≡ Some t → s ≡ w ++ t) → cond b (after_word w s) None ≡ Some t → x ∷ s ≡ c ∷ (w ++ t)
    by false q rest f = absurd (none-some t f)
    by true q rest f = let a : x ≡ c = eqb-true x c q in let d = rest f in cc

-- what is right of what is read
pub found_then : {A B : Type 0} (o : Option A) (f : A → Option B) (P : A → Type 0) (Q : B → Type 0)
    → IfSome o P → ((a : A) → P a → IfSome (f a) Q) → IfSome (and_then o f) Q
found_then None f P Q h k = tt
found_then (Some a) f P Q h k = k a h

pub word_right : (w s : List ℕ) → IfSome (after_word w s) (λ t. s ≡ w ++ t)
word_right w s = by (after_word w s) refl
  where
    by : (o : Option (List ℕ)) → after_word w s ≡ o → IfSome o (λ t. s ≡ w ++ t)
    by None e = tt
    by (Some t) e = word_sound w s t e

pub number_right : (k : ℕ) (s : List ℕ) → 0 < k → k ≤ 15 → IfSome (number k s) (λ p. InDigits k p.0 × (s ≡ decimal p.0 ++ p.1))
number_right k s a b = by (number k s) refl
  where
    by : (o : Read) → number k s ≡ o → IfSome o (λ p. InDigits k p.0 × (s ≡ decimal p.0 ++ p.1))
    by None e = tt
    by (Some p) e = let h = number_sound k s p.0 p.1 a b e in ((h.0, h.1), h.2)
