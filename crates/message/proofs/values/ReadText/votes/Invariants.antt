use Rattle.std.proofs.Common.{◌≡◌, ◌≤◌, drop}
use Rattle.std.specs.Option.{option_map}
use Rattle.message.specs.Values.{values_of}
use Rattle.message.specs.Voting.{votes_of, votes_in}
use Rattle.message.proofs.Keeping.{onward}
use Rattle.message.proofs.values.ReadText.votes.Given as goal

-- the votes so far, with those of the entries left, are all
abbrev pub invariant-loop-entry : goal.invariant-loop-entry
invariant-loop-entry l =
    (l.votes.count ≤ l.entry-index)
    × (votes_in l.self.text.now l.self.entries.now
    ≡ option_map (onward l.votes) (votes_of (values_of l.self.text.now (drop l.entry-index l.self.entries.now) 26)))
