-- Where a reference stands in a row of entries. Assumes nothing.
use Rattle.std.specs.Prelude.{◌≡◌, ℕ, ◌+◌, ◌*◌, ◌^◌, ◌<◌, ◌≤◌, true, false, List, [], ◌∷◌, length, is_some, None, Option, Result, MatchOption, MatchResult}
use Rattle.std.specs.declared.cmp.Ordering.TheVariants.{Less, Equal, Greater}
use Rattle.std.specs.List.{HoldsAt, AllByRecursion}
use Rattle.std.specs.Str.{bytes_eq}
use Rattle.register.specs.declared.entry.Entry.{Entry}
use Rattle.register.specs.Pairs.{key, look}
use Rattle.register.specs.Order.{order}

-- the place of the reference k, if it has one
abbrev pub Placed : {V : Type 0} → List (Entry V) → List ℕ → Option ℕ → Type 0
Placed ps k r = MatchOption r (look ps k ≡ None) (λ i. (i < length ps) × HoldsAt (λ p. bytes_eq (key p) k ≡ true) ps i)

-- each reference is below those after it
abbrev pub Ascending : {V : Type 0} → List (Entry V) → Type 0
Ascending [] = Unit {0}
Ascending (p ∷ ps) = AllByRecursion (λ q. order (key p) (key q) ≡ Less) ps × Ascending ps

-- where the reference k stands, or the place between one below it and one above it
abbrev pub Sought : {V : Type 0} → List (Entry V) → List ℕ → Result ℕ ℕ → Type 0
Sought ps k r = MatchResult r (λ i. (i < length ps) × HoldsAt (λ p. order (key p) k ≡ Equal) ps i) (λ i. (i ≤ length ps) × ((j : ℕ) → j + 1 ≡ i → HoldsAt (λ p. order (key p) k ≡ Less) ps j) × (i < length ps → HoldsAt (λ p. order (key p) k ≡ Greater) ps i))

-- what a find of k among these compares by halving: at most log₂ n + 1 of n, at least one if k is there, and at least log₂ (n + 2) - 1 if it is not
pub record Compared {V : Type 0} (ps : List (Entry V)) (k : List ℕ) (m : ℕ) : Type 0 where
  pub bound : 2 ^ m ≤ 2 * length ps + 1
  pub hit : Ascending ps → is_some (look ps k) ≡ true → 1 ≤ m
  pub miss : Ascending ps → is_some (look ps k) ≡ false → length ps + 2 ≤ 2 * 2 ^ m
