use Rattle.std.proofs.Common.{◌≡◌, length}
use Rattle.format.specs.Folding.{is_folded}
use Rattle.format.proofs.folds.is_folded.Given as goal

-- the lines from here on are as right as all
abbrev pub invariant-loop-line : goal.invariant-loop-line
invariant-loop-line l = is_folded 35 l.line ≡ is_folded 35 l.value

abbrev pub decreases-loop-line : goal.decreases-loop-line
decreases-loop-line l = length l.line
