use Rattle.std.proofs.Common.{None, Some, sym, ◌∙◌}
use Rattle.format.proofs.FoldLaws.{folds_line, next_shorter, last_folds}
use Rattle.format.proofs.folds.is_folded.Goals as goal

pub returns-in_default : goal.returns-in_default
returns-in_default c = sym (folds_line c.loop-line.line.now None c.loop-line-test.true c.in_default.ensures) ∙ c.loop-line.invariant

pub loop-line-smaller : goal.loop-line-smaller
loop-line-smaller c = next_shorter c.loop-line.line.now c.in-Some.next.0.now c.in-Some.ensures

pub loop-line-preserved : goal.loop-line-preserved
loop-line-preserved c =
    sym (folds_line c.loop-line.line.now (Some c.in-Some.next.0.now) c.loop-line-test.true c.in-Some.ensures) ∙ c.loop-line.invariant

pub returns : goal.returns
returns c = last_folds c.loop-line.line.now c.loop-line-test.false ∙ c.loop-line.invariant
