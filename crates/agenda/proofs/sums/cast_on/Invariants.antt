use Rattle.std.proofs.Common.{◌≡◌, ◌+◌, ◌*◌, ◌^◌, ◌≤◌, drop}
use Rattle.agenda.specs.Sums.{sum_on, votes_on}
use Rattle.agenda.proofs.sums.cast_on.Given as goal

-- with what is left it comes to the whole; and each vote adds little
abbrev pub invariant-loop-vote : goal.invariant-loop-vote
invariant-loop-vote l = (l.cast.sum + sum_on (drop l.vote-index l.given) l.number ≡ sum_on l.given l.number) × (l.cast.votes + votes_on (drop l.vote-index l.given) l.number ≡ votes_on l.given l.number) × (l.cast.sum ≤ l.vote-index * 2 ^ 64) × (l.cast.votes ≤ l.vote-index)
