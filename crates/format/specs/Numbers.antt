-- Whole numbers in decimal digits, at the front of a text. Assumes nothing.
use Rattle.std.specs.Prelude.{ℕ, zero, suc, ◌+◌, ◌-◌, ◌*◌, ◌^◌, ◌<◌, ◌≤◌, cond, List, [], ◌∷◌, Some, None, Option}
use Rattle.fields.specs.Characters.{between, digit}

-- a number of at most k digits, the first of which is not 0
abbrev pub InDigits : ℕ → ℕ → Type 0
InDigits k n = (1 ≤ n) × (n < 10 ^ k)

-- a number of which the digits that are read write n, and of which at most k more follow
abbrev pub number_on : ℕ → ℕ → List ℕ → Option (ℕ × List ℕ)
number_on k n [] = Some (n, [])
number_on zero n (c ∷ s) = cond (digit c) None (Some (n, c ∷ s))
number_on (suc k) n (c ∷ s) = cond (digit c) (number_on k (n * 10 + (c - 48)) s) (Some (n, c ∷ s))

-- a number of at most k digits, the first of which is not 0, and what stands behind it
abbrev pub number : ℕ → List ℕ → Option (ℕ × List ℕ)
number k [] = None
number k (c ∷ s) = cond (between 49 57 c) (number_on (k - 1) (c - 48) s) None
