use Rattle.std.proofs.Common.{◌≡◌, take}
use Rattle.tally.specs.Scale.{joined}
use Rattle.tally.proofs.Turns.{TakingBack}
use Rattle.tally.proofs.lists.take_back_all.Given as goal

-- with the votes so far, the value is the one from before; and what one turn comes to
abbrev pub invariant-loop-vote : goal.invariant-loop-vote
invariant-loop-vote g l = record {
  scale : g.T.Tally.scale l.tally ≡ g.T.Tally.scale l.initial.tally;
  value : g.T.Tally.value l.initial.tally ≡ (g.T.Tally.scale l.initial.tally).join (g.T.Tally.value l.tally) (joined (g.T.Tally.scale l.initial.tally) (take l.vote-index l.votes));
  turn : TakingBack (g.T.Tally.scale l.initial.tally) (g.T.Tally.value l.initial.tally) l.votes;
}
