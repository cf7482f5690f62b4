-- What it is to decode a value. Assumes nothing.
use Rattle.std.specs.Prelude.{◌≡◌, ℕ, List, Some, None, Option, ◌≢◌}

-- the value is the spelling of something in range, and that is the answer; or it is the spelling of nothing in range
abbrev pub Decoded : {A : Type 0} → (A → Type 0) → (A → List ℕ) → List ℕ → Option A → Type 0
Decoded In spelled v (Some w) = In w × (v ≡ spelled w)
Decoded {A} In spelled v None = (w : A) → In w → v ≢ spelled w

-- no two in range have one spelling
abbrev pub Once : {A : Type 0} → (A → Type 0) → (A → List ℕ) → Type 0
Once {A} In spelled = (a b : A) → In a → In b → spelled a ≡ spelled b → a ≡ b
