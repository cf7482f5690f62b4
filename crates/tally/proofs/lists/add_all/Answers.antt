use Rattle.std.proofs.Common.{◌≡◌, List, sym, refl, ap, ◌∙◌}
use Rattle.std.proofs.lemmas.List.{drop_all}
use Rattle.tally.specs.declared.vote.Vote.{Vote}
use Rattle.tally.specs.Scale.{Scale, joined}
use Rattle.tally.proofs.Orders.{added_any}
use Rattle.tally.proofs.Turns.{adding}
use Rattle.tally.proofs.lists.add_all.Goals as goal

pub loop-vote-init : goal.loop-vote-init
loop-vote-init g c =
    record { scale = refl; value = refl; turn = adding (g.T.Tally.scale c.args.tally.now) (g.met.T.Tally.group c.args.tally.now) _ c.args.votes.now }

pub returns : goal.returns
returns g c =
    let s : Scale g.T.Tally.Value = g.T.Tally.scale c.args.tally.now in
    let law = g.met.T.Tally.group c.args.tally.now in
    let start : g.T.Tally.Value = g.T.Tally.value c.args.tally.now in
    let end : g.T.Tally.Value = g.T.Tally.value c.loop-vote.tally in
    let vs : List Vote = c.args.votes.now in
    let done : s.join start (joined s vs) ≡ end =
    c.loop-vote.invariant.value ∙ ap (λ (l : List Vote). s.join end (joined s l)) (drop_all c.loop-vote.vote-index vs c.loop-vote-test.false) ∙ law.unit end in
    record { scale = c.loop-vote.invariant.scale; value = sym done; order = added_any s law start vs end (sym done) }
