-- A search through a table of references. Assumes nothing.
use Rattle.std.proofs.Common.{◌≡◌, Bool, ◌||◌, List, [], ◌∷◌, map, refl, ap}
use Rattle.std.specs.List.{list_any}

-- it answers as the same search through what they point to
pub any_mapped : {A B : Type 0} (v : A → B) (test : B → Bool) (xs : List A) → list_any (λ x. test (v x)) xs ≡ list_any test (map v xs)
any_mapped v test [] = refl
any_mapped v test (x ∷ xs) = ap (λ (b : Bool). test (v x) || b) (any_mapped v test xs)
