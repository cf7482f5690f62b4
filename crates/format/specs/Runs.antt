-- How many characters of one class stand at the front of a text. Assumes nothing.
use Rattle.std.specs.Prelude.{◌≡◌, ℕ, ◌≤◌, Bool, true, cond, ◌&&◌, List, [], ◌∷◌, length, Some, None, Option, nat_le}
use Rattle.std.specs.List.{AllByRecursion}
use Rattle.format.specs.Texts.{or_false, is_end}

-- from lo to hi characters, all of the class
abbrev pub Of : (ℕ → Bool) → ℕ → ℕ → List ℕ → Type 0
Of k lo hi v = AllByRecursion (λ c. k c ≡ true) v × (lo ≤ length v) × (length v ≤ hi)

-- the first character, where it is of the class, and what stands behind it
abbrev pub first_of : (ℕ → Bool) → List ℕ → Option (ℕ × List ℕ)
first_of k [] = None
first_of k (c ∷ s) = cond (k c) (Some (c, s)) None

-- the longest front of characters of the class, and what stands behind it
abbrev pub front : (ℕ → Bool) → List ℕ → List ℕ
front k [] = []
front k (c ∷ s) = cond (k c) (c ∷ front k s) []

abbrev pub back : (ℕ → Bool) → List ℕ → List ℕ
back k [] = []
back k (c ∷ s) = cond (k c) (back k s) (c ∷ s)

-- what stands behind that front, where it has from lo to hi characters
abbrev pub after_some : (ℕ → Bool) → ℕ → ℕ → List ℕ → Option (List ℕ)
after_some k lo hi s = cond (nat_le lo (length (front k s)) && nat_le (length (front k s)) hi) (Some (back k s)) None

-- is the whole text from lo to hi characters of the class?
abbrev pub is_of : (ℕ → Bool) → ℕ → ℕ → List ℕ → Bool
is_of k lo hi s = or_false (after_some k lo hi s) is_end
