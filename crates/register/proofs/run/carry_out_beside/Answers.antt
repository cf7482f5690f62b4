-- Both answer as one plain set does.
use Rattle.register.specs.Fronts.{InStep, FrontRule, through_front}
use Rattle.register.proofs.Running.{carried_alike}
use Rattle.register.proofs.run.carry_out_beside.Goals as goal

pub returns : goal.returns
returns g c =
    let r = g.R.Register in
    let x = c.carry_out_both.ensures.one in
    let y = c.carry_out_both.ensures.other in
    record {
      front = x;
      bare = y;
      transparent = carried_alike (through_front r.pairs) (through_front r.room) (InStep r.pairs r.ordered) (FrontRule r.rule) r.pairs r.room r.ordered r.rule _ _ _ _ _ _ _ _ _ _ _ x y;
    }
