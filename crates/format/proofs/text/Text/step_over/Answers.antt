use Rattle.std.proofs.Common.{◌∙◌}
use Rattle.format.proofs.Steps.{word_ends}
use Rattle.format.proofs.text.Text.step_over.Goals as goal

pub returns-in_err-x : goal.returns-in_err-x
returns-in_err-x g c =
    let e = c.from_residual.ensures in
    rw e (word_ends c.args.word.now _ c.loop-c.c-index c.loop-c-test.true c.in_err-x.ensures ∙ c.loop-c.invariant)
