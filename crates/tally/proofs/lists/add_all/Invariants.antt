use Rattle.std.proofs.Common.{◌≡◌, drop}
use Rattle.tally.specs.Scale.{joined}
use Rattle.tally.proofs.Turns.{Adding}
use Rattle.tally.proofs.lists.add_all.Given as goal

-- with the votes to come, the value is the one at the end; and what one turn comes to
abbrev pub invariant-loop-vote : goal.invariant-loop-vote
invariant-loop-vote g l = record {
  scale : g.T.Tally.scale l.tally ≡ g.T.Tally.scale l.initial.tally;
  value : (g.T.Tally.scale l.initial.tally).join (g.T.Tally.value l.initial.tally) (joined (g.T.Tally.scale l.initial.tally) l.votes) ≡ (g.T.Tally.scale l.initial.tally).join (g.T.Tally.value l.tally) (joined (g.T.Tally.scale l.initial.tally) (drop l.vote-index l.votes));
  turn : Adding (g.T.Tally.scale l.initial.tally) ((g.T.Tally.scale l.initial.tally).join (g.T.Tally.value l.initial.tally) (joined (g.T.Tally.scale l.initial.tally) l.votes)) l.votes;
}
