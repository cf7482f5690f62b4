use Rattle.std.proofs.Common.{◌≡◌, [], length, take, drop}
use Rattle.agenda.specs.Casting.{bad_from, cast_votes}
use Rattle.agenda.proofs.casting.cast_kept.Given as goal

-- what is cast so far, and what is left decides
abbrev pub invariant-loop-text : goal.invariant-loop-text
invariant-loop-text l =
    (length l.votes.items ≡ l.text-index) × (l.votes.items ≡ cast_votes (take l.text-index l.texts))
    × (bad_from l.agenda.questions l.votes.items (drop l.text-index l.texts) ≡ bad_from l.agenda.questions [] l.texts)
