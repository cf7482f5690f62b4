use Rattle.std.proofs.Common.{◌≡◌, ℕ, ◌+◌, ◌-◌, ◌<◌, ◌≤◌, length, Less, Greater}
use Rattle.std.specs.List.{HoldsAt}
use Rattle.register.specs.Pairs.{key}
use Rattle.register.specs.Order.{order}
use Rattle.register.specs.Spelling.{spelling}
use Rattle.register.proofs.Halving.{Spent}
use Rattle.register.proofs.row.search_in.Given as goal

abbrev pub invariant-loop-low : goal.invariant-loop-low
invariant-loop-low g l = (l.low ≤ l.high) × (l.high ≤ length l.entries) × ((j : ℕ) → j + 1 ≡ l.low → HoldsAt (λ p. order (key p) (spelling l.reference) ≡ Less) l.entries j) × (l.high < length l.entries → HoldsAt (λ p. order (key p) (spelling l.reference) ≡ Greater) l.entries l.high) × Spent (length l.entries) l.compared (l.high - l.low)

abbrev pub decreases-loop-low : goal.decreases-loop-low
decreases-loop-low g l = l.high - l.low
