-- The folds of a text, line by line. Assumes nothing.
use Rattle.std.proofs.Common.{◌≡◌, ℕ, zero, suc, ◌-◌, ◌<◌, ◌≤◌, Bool, true, false, cond, ◌&&◌, eqb, List, [], ◌∷◌, ◌++◌, length, take, drop, Some, None, Option, sym, refl, ap, ap₂, ◌⊎◌, inl, inr, ◌∙◌, ◌+◌, arith}
use Rattle.std.specs.Cmp.Lexicographic.{pointwise}
use Rattle.std.proofs.lemmas.List.{drop-drop, length-drop, length-take, take_all}
use Rattle.std.proofs.lemmas.Bool.{eqb-true, and_parts, cases_lt}
use Rattle.std.proofs.lemmas.Option.{none-some}
use Rattle.format.specs.Folding.{folded, folded_from, unfolded, unfolded_from, is_folded, is_folded_from, behind_break}
use Rattle.format.specs.Texts.{or_false, after_word}

-- to fold and back
unfold_from : (k : ℕ) (s : List ℕ) → unfolded_from 35 k (folded_from 35 k s) ≡ s
unfold_from k [] = refl
unfold_from zero (c ∷ s) = ap {B = List ℕ} (λ (t : List ℕ). c ∷ t) (unfold_from 34 s)
unfold_from (suc k) (c ∷ s) = ap {B = List ℕ} (λ (t : List ℕ). c ∷ t) (unfold_from k s)

pub unfold_folded : (s : List ℕ) → unfolded 35 (folded 35 s) ≡ s
unfold_folded s = unfold_from 35 s

is_from : (k : ℕ) (s : List ℕ) → is_folded_from 35 k (folded_from 35 k s) ≡ true
is_from k [] = refl
is_from zero (c ∷ s) = is_from 34 s
is_from (suc k) (c ∷ s) = is_from k s

pub is_folded_lem : (s : List ℕ) → is_folded 35 (folded 35 s) ≡ true
is_folded_lem s = is_from 35 s

fold_from : (k : ℕ) (v : List ℕ) → is_folded_from 35 k v ≡ true → v ≡ folded_from 35 k (unfolded_from 35 k v)
fold_from k [] e = refl
fold_from zero (a ∷ []) e = let z : ◌≡◌ {A = ℕ} 0 1 = cc in absurd (omega arith)
fold_from zero (a ∷ b ∷ []) e = let z : ◌≡◌ {A = ℕ} 0 1 = cc in absurd (omega arith)
fold_from zero (a ∷ b ∷ c ∷ v) e =
    let p = and_parts (eqb a 13 && eqb b 10) (is_folded_from 35 34 v) e in
    let q = and_parts (eqb a 13) (eqb b 10) p.0 in
    let x : a ≡ 13 = eqb-true a 13 q.0 in
    let y : b ≡ 10 = eqb-true b 10 q.1 in
    let r = fold_from 34 v p.1 in
    cc
fold_from (suc k) (c ∷ v) e = ap {B = List ℕ} (λ (t : List ℕ). c ∷ t) (fold_from k v e)

pub fold_unfolded : (v : List ℕ) → is_folded 35 v ≡ true → v ≡ folded 35 (unfolded 35 v)
fold_unfolded v e = fold_from 35 v e

-- the test, line by line
short_from : (k : ℕ) (u : List ℕ) → length u ≤ k → is_folded_from 35 k u ≡ true
short_from k [] h = refl
short_from zero (c ∷ u) h = absurd (omega arith)
short_from (suc k) (c ∷ u) h = short_from k u (omega arith)

line_from_lem : (k : ℕ) (u : List ℕ) → k < length u → is_folded_from 35 k u ≡ is_folded_from 35 0 (drop k u)
line_from_lem k [] h = absurd (omega arith)
line_from_lem zero (c ∷ u) h = refl
line_from_lem (suc k) (c ∷ u) h = line_from_lem k u (omega arith)

break_from : (r : List ℕ) → 0 < length r → is_folded_from 35 0 r ≡ or_false (behind_break r) (is_folded 35)
break_from [] h = absurd (omega arith)
break_from (a ∷ []) h = refl
break_from (a ∷ b ∷ []) h = refl
break_from (a ∷ b ∷ c ∷ v) h = by (eqb a 13 && eqb b 10)
  where
    by : (t : Bool) → (t && is_folded_from 35 34 v) ≡ or_false (cond t (Some (c ∷ v)) None) (is_folded 35)
    by true = refl
    by false = refl

shorter : (v t : List ℕ) → Some t ≡ behind_break v → length t < length v
shorter [] t e = absurd (none-some t (sym e))
shorter (a ∷ []) t e = absurd (none-some t (sym e))
shorter (a ∷ b ∷ []) t e = absurd (none-some t (sym e))
shorter (a ∷ b ∷ c ∷ v) t e = by (eqb a 13 && eqb b 10) e
  where
    by : (x : Bool) → Some t ≡ cond x (Some (c ∷ v)) None → length t < length (a ∷ b ∷ c ∷ v)
    by true e = let z : t ≡ c ∷ v = cc in omega (arith, ap length z)
    by false e = absurd (none-some t (sym e))

rest_of : (n : ℕ) (v : List ℕ) → take (length v - n) (drop n v) ≡ drop n v
rest_of n v = take_all (length v - n) (drop n v) (omega (arith, length-drop n v))

behind : (v : List ℕ) (o : Option (List ℕ)) → o ≡ behind_break (take (length v - 35) (drop 35 v)) → o ≡ behind_break (drop 35 v)
behind v o e = e ∙ ap behind_break (rest_of 35 v)

-- a line that another follows, or should
pub folds_line : (v : List ℕ) (o : Option (List ℕ)) → 35 < length v → o ≡ behind_break (take (length v - 35) (drop 35 v))
    → is_folded 35 v ≡ or_false o (is_folded 35)
folds_line v o h e =
    line_from_lem 35 v h ∙ break_from (drop 35 v) (omega (arith, length-drop 35 v)) ∙ ap (λ p. or_false p (is_folded 35)) (sym (behind v o e))

pub next_shorter : (v t : List ℕ) → Some t ≡ behind_break (take (length v - 35) (drop 35 v)) → length t < length v
next_shorter v t e = omega (arith, shorter (drop 35 v) t (behind v (Some t) e), length-drop 35 v)

pub last_folds : (v : List ℕ) → length v ≤ 35 → true ≡ is_folded 35 v
last_folds v h = sym (short_from 35 v h)

-- the characters, one by one
unfold_two : (v t : List ℕ) (c : ℕ) → drop 2 v ≡ c ∷ t → unfolded_from 35 0 v ≡ c ∷ unfolded_from 35 34 t
unfold_two [] t c e = cc
unfold_two (a ∷ []) t c e = cc
unfold_two (a ∷ b ∷ []) t c e = cc
unfold_two (a ∷ b ∷ d ∷ v) t c e = cc

pub unfold_break : (v t : List ℕ) (c : ℕ) → take (length v - 2) (drop 2 v) ≡ c ∷ t → unfolded_from 35 0 v ≡ c ∷ unfolded_from 35 34 t
unfold_break v t c e = unfold_two v t c (sym (rest_of 2 v) ∙ e)

pub unfold_next : (k c : ℕ) (v t : List ℕ) → 0 < k → v ≡ c ∷ t → unfolded_from 35 k v ≡ c ∷ unfolded_from 35 (k - 1) t
unfold_next zero c v t h e = absurd (omega arith)
unfold_next (suc k) c v t h e = let z : suc k - 1 ≡ k = omega arith in rw z (ap (unfolded_from 35 (suc k)) e)

-- a word for which the line has room stands in the bytes as it is
abbrev WordIn : List ℕ → List ℕ → ℕ → ℕ → Type 0
WordIn w v k m = cond (pointwise eqb (take (length w) v) w) (Some (unfolded_from 35 m (drop (length w) v))) None ≡ after_word w (unfolded_from 35 k v)

pub word_in_line : (w v : List ℕ) (k m : ℕ) → length w ≤ k → m ≡ k - length w → WordIn w v k m
word_in_line [] v k m h e = let z : m ≡ k = omega arith in ap (λ (n : ℕ). Some (unfolded_from 35 n v)) z
word_in_line (c ∷ w) [] k m h e = refl
word_in_line (c ∷ w) (x ∷ v) zero m h e = absurd (omega arith)
word_in_line (c ∷ w) (x ∷ v) (suc k) m h e = by (eqb x c) (word_in_line w v k m (omega arith) (omega arith))
  where
    by : (b : Bool) → WordIn w v k m
        → cond (b && pointwise eqb (take (length w) v) w) (Some (unfolded_from 35 m (drop (length w) v))) None ≡ cond b (after_word w (unfolded_from 35 k v)) None
    by true h = h
    by false h = refl

-- a line and what stands behind it
line_unfolds : (k : ℕ) (v : List ℕ) → unfolded_from 35 k v ≡ take k v ++ unfolded_from 35 0 (drop k v)
line_unfolds zero v = refl
line_unfolds (suc k) [] = refl
line_unfolds (suc k) (c ∷ v) = ap {B = List ℕ} (λ (t : List ℕ). c ∷ t) (line_unfolds k v)

last_unfolds : (k : ℕ) (v : List ℕ) → length v ≤ k → unfolded_from 35 k v ≡ v
last_unfolds k [] h = refl
last_unfolds zero (c ∷ v) h = absurd (omega arith)
last_unfolds (suc k) (c ∷ v) h = ap {B = List ℕ} (λ (t : List ℕ). c ∷ t) (last_unfolds k v (omega arith))

second_unfolds : (v : List ℕ) → length (drop 2 v) ≤ 35 → unfolded_from 35 0 v ≡ drop 2 v
second_unfolds [] h = refl
second_unfolds (a ∷ []) h = refl
second_unfolds (a ∷ b ∷ []) h = refl
second_unfolds (a ∷ b ∷ c ∷ v) h = ap {B = List ℕ} (λ (t : List ℕ). c ∷ t) (last_unfolds 34 v (omega (arith, h)))

-- two lines at most, the first of them full where there is a second
pub two_lines : (v : List ℕ) → length (drop 37 v) ≤ 35 → unfolded 35 v ≡ take 35 v ++ drop 37 v
two_lines v h =
    let e : drop 2 (drop 35 v) ≡ drop 37 v = drop-drop 2 35 v in
    line_unfolds 35 v ∙ ap (λ (t : List ℕ). take 35 v ++ t) (second_unfolds (drop 35 v) (omega (arith, h, ap length e)) ∙ e)

-- so they are read, given room for two lines
pub flat_read : (v s t u : List ℕ) → s ≡ [] → t ≡ s ++ take 35 (drop 0 v) → length t + length (take (length v) (drop 37 v)) ≤ 70
    → u ≡ t ++ take (length v) (drop 37 v) → u ≡ unfolded 35 v
flat_read v s t u e f h g =
    let z : take (length v) (drop 37 v) ≡ drop 37 v = take_all (length v) (drop 37 v) (omega (arith, length-drop 37 v)) in
    let w : t ≡ take 35 v = f ∙ ap (λ (x : List ℕ). x ++ take 35 v) e in
    let n : length (drop 37 v) ≤ 35 = omega (arith, h, ap length z, ap length w, length-drop 37 v, length-take 35 v) in
    g ∙ ap₂ {C = List ℕ} (λ (x y : List ℕ). x ++ y) w z ∙ sym (two_lines v n)

-- the first line always finds room, and what finds none behind it is more than two lines
pub first_fits : (v s : List ℕ) → s ≡ [] → length s + length (take 35 (drop 0 v)) ≤ 70
first_fits v s e = omega (arith, ap length e, length-take 35 (drop 0 v))

pub flat_over : (v s t : List ℕ) → s ≡ [] → t ≡ s ++ take 35 (drop 0 v) → (length t + length (take (length v) (drop 37 v)) ≤ 70 → false ≡ true) → 72 < length v
flat_over v s t e f n = by (cases_lt 72 (length v))
  where
    w : t ≡ take 35 v
    w = f ∙ ap (λ (x : List ℕ). x ++ take 35 v) e

    by : (72 < length v) ⊎ (length v ≤ 72) → 72 < length v
    by (inl h) = h
    by (inr h) =
        let z : false ≡ true = n (omega (arith, ap length w, length-take 35 v, length-take (length v) (drop 37 v), length-drop 37 v)) in absurd (cc)
