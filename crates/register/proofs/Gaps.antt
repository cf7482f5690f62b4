-- Opening and closing a gap in the used part of a list.
use Rattle.std.proofs.Common.{◌≡◌, ℕ, ◌+◌, ◌-◌, ◌<◌, ◌≤◌, List, length, take, drop, set, arith, rules}
use lib.Seq.{paste}
use Rattle.std.specs.List.{insert, remove}
use Rattle.std.proofs.lemmas.List.{places, same_lists, get_or-set_same}
use Rattle.std.proofs.lemmas.Bool.{cases_eq}

pub closed : {X : Type 0} (xs : List X) (used at : ℕ) → at < used → used ≤ length xs → take (used - 1) (paste xs at (drop (at + 1) xs) (used - (at + 1))) ≡ remove (take used xs) at
closed xs used at h le = same_lists _ _ (search (rules, places)) (λ k d l. grind (arith, places))

pub opened : {X : Type 0} (xs : List X) (used at : ℕ) (x : X) → at ≤ used → used < length xs → take (used + 1) (set (paste xs (at + 1) (drop at xs) (used - at)) at x) ≡ insert (take used xs) at x
opened xs used at x h lt = same_lists _ _ (search (rules, places)) (λ k d l. let z = cases_eq k at in grind (arith, places, get_or-set_same))
