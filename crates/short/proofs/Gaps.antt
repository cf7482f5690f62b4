-- Opening and closing a gap in the used part of a list.
use Rattle.std.proofs.Common.{◌≡◌, ℕ, ◌+◌, ◌-◌, ◌<◌, ◌≤◌, List, ◌∷◌, length, min, take, drop, set, arith, rules}
use lib.Seq.{paste}
use Rattle.std.specs.List.{remove}
use Rattle.std.proofs.lemmas.List.{places, same_lists, get_or-set_same}
use Rattle.std.proofs.lemmas.Bool.{cases_eq}

-- those behind an item that goes move down by one
pub closed : {X : Type 0} (xs : List X) (used at : ℕ) → at < used → used ≤ length xs → take (used - 1) (paste xs at (drop (at + 1) xs) (used - (at + 1))) ≡ remove (take used xs) at
closed xs used at h le = same_lists _ _ (search (rules, places)) (λ k d l. grind (arith, places))

-- those before which an item comes move up by one, as many as stay
pub opened : {X : Type 0} (xs : List X) (n used kept : ℕ) (x : X) → length xs ≡ n → used ≤ n → 0 < n → kept ≡ min used (n - 1) → take (kept + 1) (set (paste xs 1 (drop 0 xs) (kept - 0)) 0 x) ≡ take n (x ∷ take used xs)
opened xs n used kept x all le some is = same_lists _ _ (search (rules, places)) (λ k d l. let z = cases_eq k 0 in grind (arith, places, get_or-set_same))
