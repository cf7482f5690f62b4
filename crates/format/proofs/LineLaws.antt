-- A folded text as lines. Assumes nothing.
use Rattle.std.proofs.Common.{◌≡◌, ℕ, zero, suc, ◌<◌, ◌≤◌, List, [], ◌∷◌, ◌++◌, length, refl, ap, ◌∙◌, append-nil, arith}
use Rattle.format.specs.Folding.{folded, folded_from, lines, joined, Full, Folds}

-- lines of which the first has room for k characters
abbrev Begins : ℕ → List (List ℕ) → Type 0
Begins k [] = ⊥
Begins k (l ∷ []) = (1 ≤ length l) × (length l ≤ k)
Begins k (l ∷ m ∷ ls) = (length l ≡ k) × Full 35 (m ∷ ls)

abbrev Lines : ℕ → List ℕ → Type 0
Lines k s = (ls : List (List ℕ)) × Begins k ls × (s ≡ joined ls) × (folded_from 35 k s ≡ lines ls)

-- one character more in the first line, and one line more
longer : (k c : ℕ) (s : List ℕ) → Lines k s → Lines (suc k) (c ∷ s)
longer k c s ([], b, e, f) = absurd b
longer k c s (l ∷ [], b, e, f) =
    ((c ∷ l) ∷ [], (omega arith, omega (arith, b.1)), ap {B = List ℕ} (λ (t : List ℕ). c ∷ t) e, ap {B = List ℕ} (λ (t : List ℕ). c ∷ t) f)
longer k c s (l ∷ m ∷ ls, b, e, f) =
    ((c ∷ l) ∷ m ∷ ls, (omega (arith, b.0), b.1), ap {B = List ℕ} (λ (t : List ℕ). c ∷ t) e, ap {B = List ℕ} (λ (t : List ℕ). c ∷ t) f)

full_begins : (ls : List (List ℕ)) → Begins 35 ls → Full 35 ls
full_begins [] b = b
full_begins (l ∷ []) b = b
full_begins (l ∷ m ∷ ls) b = b

more : (c d : ℕ) (s : List ℕ) → Lines 35 (d ∷ s) → Lines 1 (c ∷ d ∷ s)
more c d s ([], b, e, f) = absurd b
more c d s (m ∷ ls, b, e, f) = (
  (c ∷ []) ∷ m ∷ ls,
  (refl, full_begins (m ∷ ls) b),
  ap {B = List ℕ} (λ (t : List ℕ). c ∷ t) e,
  ap {B = List ℕ} (λ (t : List ℕ). c ∷ 13 ∷ 10 ∷ t) f,
)

to_lines : (k : ℕ) (s : List ℕ) → 0 < length s → Lines (suc k) s
to_lines k [] h = absurd (omega arith)
to_lines k (c ∷ []) h = ((c ∷ []) ∷ [], (omega arith, omega arith), refl, refl)
to_lines zero (c ∷ d ∷ s) h = more c d s (to_lines 34 (d ∷ s) (omega arith))
to_lines (suc k) (c ∷ d ∷ s) h = longer (suc k) c (d ∷ s) (to_lines k (d ∷ s) (omega arith))

last_line : (k : ℕ) (l : List ℕ) → length l ≤ k → folded_from 35 k l ≡ l
last_line k [] h = refl
last_line zero (c ∷ l) h = absurd (omega arith)
last_line (suc k) (c ∷ l) h = ap {B = List ℕ} (λ (t : List ℕ). c ∷ t) (last_line k l (omega arith))

full_line : (k : ℕ) (l t : List ℕ) → length l ≡ k → 0 < length t → folded_from 35 k (l ++ t) ≡ l ++ (13 ∷ 10 ∷ folded 35 t)
full_line zero [] [] e h = absurd (omega arith)
full_line zero [] (c ∷ t) e h = refl
full_line (suc k) [] t e h = absurd (omega arith)
full_line zero (c ∷ l) t e h = absurd (omega arith)
full_line (suc k) (c ∷ l) t e h = ap {B = List ℕ} (λ (u : List ℕ). c ∷ u) (full_line k l t (omega arith) h)

some_joined : (ls : List (List ℕ)) → Full 35 ls → 0 < length (joined ls)
some_joined [] h = absurd h
some_joined ([] ∷ []) h = absurd (omega (arith, h.0))
some_joined ((c ∷ l) ∷ []) h = omega arith
some_joined ([] ∷ m ∷ ls) h = absurd (omega (arith, h.0))
some_joined ((c ∷ l) ∷ m ∷ ls) h = omega arith

from_lines : (ls : List (List ℕ)) → Full 35 ls → folded 35 (joined ls) ≡ lines ls
from_lines [] h = absurd h
from_lines (l ∷ []) h = ap (folded 35) (append-nil l) ∙ last_line 35 l h.1
from_lines (l ∷ m ∷ ls) h =
    full_line 35 l (joined (m ∷ ls)) h.0 (some_joined (m ∷ ls) h.1) ∙ ap (λ (t : List ℕ). l ++ (13 ∷ 10 ∷ t)) (from_lines (m ∷ ls) h.1)

pub folds : Folds
folds = record { to = λ s h. let r = to_lines 34 s h in (r.0, full_begins r.0 r.1, r.2, r.3); from = from_lines }
