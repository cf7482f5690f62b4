use Rattle.std.proofs.Common.{sym, ◌∙◌, arith}
use Rattle.std.proofs.lemmas.Grind.{common_steps}
use Rattle.format.proofs.FoldLaws.{unfold_break, unfold_next}
use Rattle.format.proofs.folds.FoldedText.split_first.Goals as goal
use Rattle.format.proofs.folds.FoldedText.split_first.Goals.{then-self-eq0+in_ok-get, else-self-eq0}

pub returns : goal.returns
returns c =
    elim c.if-self-eq0.branch [
      | then-self-eq0+in_ok-get w ↦
          let e = w.line-is in
          let h = rw e at c.in_ok-c.ensures.cases.0 in
          let r = w.line-line.ensures in
          rw (e, r.0, w.if-self-eq0.true) (unfold_break _ _ _ (sym w.in_ok-get.ensures.lookup.0.2 ∙ sym r.1 ∙ h))
      | else-self-eq0 w ↦ grind (arith, common_steps, unfold_next)
    ]
