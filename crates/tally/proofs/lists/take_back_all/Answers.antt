use Rattle.std.proofs.Common.{◌≡◌, List, sym, refl, ap, ◌∙◌}
use Rattle.std.proofs.lemmas.List.{take_all}
use Rattle.tally.specs.declared.vote.Vote.{Vote}
use Rattle.tally.specs.Scale.{Scale, joined}
use Rattle.tally.proofs.Joining.{taken}
use Rattle.tally.proofs.Orders.{undone_any}
use Rattle.tally.proofs.Turns.{taking_back}
use Rattle.tally.proofs.lists.take_back_all.Goals as goal

pub loop-vote-init : goal.loop-vote-init
loop-vote-init g c =
    let law = g.met.T.Tally.group c.args.tally.now in
    record {
      scale = refl;
      value = sym (law.unit (g.T.Tally.value c.args.tally.now));
      turn = taking_back (g.T.Tally.scale c.args.tally.now) law (g.T.Tally.value c.args.tally.now) c.args.votes.now;
    }

pub returns : goal.returns
returns g c =
    let s : Scale g.T.Tally.Value = g.T.Tally.scale c.args.tally.now in
    let law = g.met.T.Tally.group c.args.tally.now in
    let start : g.T.Tally.Value = g.T.Tally.value c.args.tally.now in
    let end : g.T.Tally.Value = g.T.Tally.value c.loop-vote.tally in
    let vs : List Vote = c.args.votes.now in
    let done : start ≡ s.join end (joined s vs) =
    c.loop-vote.invariant.value ∙ ap (λ (l : List Vote). s.join end (joined s l)) (take_all c.loop-vote.vote-index vs c.loop-vote-test.false) in
    record {
      scale = c.loop-vote.invariant.scale;
      value = done;
      inverse = taken s law start end (joined s vs) done;
      undo = undone_any s law start vs end done;
    }
