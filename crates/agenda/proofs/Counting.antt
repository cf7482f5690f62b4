-- The numbers that a range from one number to another gives. Assumes nothing.
use Rattle.std.proofs.Common.{◌≡◌, ℕ, suc, ◌+◌, ◌-◌, Bool, true, false, List, ◌∷◌, length, Some, None, sym, refl, ap, ◌∙◌, subst, arith}
use Rattle.std.proofs.iter.runs.Sources.{nat_range_inclusive_steps}
use Rattle.std.proofs.lemmas.Iterator.{YieldsList}
use Rattle.std.proofs.lemmas.Iterator.Consumers.{YieldsList-from_shown}
use Rattle.std.proofs.lemmas.List.FromFn.{length-range_with_len}
use Rattle.std.specs.List.{range_with_len}
use Rattle.std.specs.Range.{range_inclusive_len, range_inclusive_start, range_inclusive_end, range_inclusive_exhausted}
use Rattle.std.specs.declared.ops.RangeInclusive.{RangeInclusive}

abbrev many : RangeInclusive ℕ → ℕ
many s = range_inclusive_len (λ x y. y - x) (range_inclusive_start s) (range_inclusive_end s) (range_inclusive_exhausted s)

abbrev left : RangeInclusive ℕ → List ℕ
left s = range_with_len (range_inclusive_start s) (many s)

none_left : (s t : RangeInclusive ℕ) → nat_range_inclusive_steps s None t → length (left s) ≡ 0
none_left s t h = length-range_with_len (range_inclusive_start s) (many s) ∙ h.1.0

next_left : (s : RangeInclusive ℕ) (x : ℕ) (t : RangeInclusive ℕ) → nat_range_inclusive_steps s (Some x) t → left s ≡ x ∷ left t
next_left s x t (e, (is, fewer, on)) =
    let n : many s ≡ suc (many t) = omega (arith, fewer) in
    ap (range_with_len (range_inclusive_start s)) n ∙ ap (λ (m : ℕ). m ∷ range_with_len (range_inclusive_start s + 1) (many t)) (sym is)
    ∙ ap (λ (l : List ℕ). x ∷ l) (by (range_inclusive_exhausted t) refl)
  where
    by : (b : Bool) → range_inclusive_exhausted t ≡ b → range_with_len (range_inclusive_start s + 1) (many t) ≡ left t
    by false p = ap (λ (m : ℕ). range_with_len m (many t)) (sym (on p))
    by true p =
        let none : many t ≡ 0 = ap (range_inclusive_len (λ x y. y - x) (range_inclusive_start t) (range_inclusive_end t)) p in
        ap (range_with_len (range_inclusive_start s + 1)) none ∙ sym (ap (range_with_len (range_inclusive_start t)) none)

pub YieldsList-from_one : (s : RangeInclusive ℕ) (last : ℕ) → range_inclusive_start s ≡ 1 → range_inclusive_end s ≡ last → range_inclusive_exhausted s ≡ false
    → YieldsList nat_range_inclusive_steps (λ x. x) s (range_with_len 1 last)
YieldsList-from_one s last a b e =
    let n : many s ≡ last = ap (range_inclusive_len (λ x y. y - x) (range_inclusive_start s) (range_inclusive_end s)) e ∙ omega arith in
    let all : left s ≡ range_with_len 1 last = ap (λ (m : ℕ). range_with_len m (many s)) a ∙ ap (range_with_len 1) n in
    subst (YieldsList nat_range_inclusive_steps (λ x. x) s) all (YieldsList-from_shown nat_range_inclusive_steps (λ x. x) left none_left next_left s)
