use Rattle.std.proofs.Common.{ℕ, List, sym, ap, ◌∙◌, Some}
use Rattle.std.proofs.lemmas.Bool.{cond-true, cond-false}
use Rattle.format.specs.Folding.{unfolded_from}
use Rattle.format.proofs.FoldLaws.{word_in_line}
use Rattle.format.proofs.folds.FoldedText.after_word.Goals as goal

pub returns-in_err-bytes : goal.returns-in_err-bytes
returns-in_err-bytes c =
    let r = c.in-Some.ensures in
    rw c.from_residual.ensures (sym (cond-false _ _ _ c.in_err-bytes.ensures.cases) ∙ word_in_line c.args.word.now c.args.self.bytes.now c.args.self.room c.in-Some.room r.0 r.1)

pub returns : goal.returns
returns c =
    let r = c.in-Some.ensures in
    let e = c.in_ok-bytes.ensures.cases in
    ap (λ (t : List ℕ). Some (unfolded_from 35 c.in-Some.room t)) e.1 ∙ sym (cond-true _ _ _ e.0)
    ∙ word_in_line c.args.word.now c.args.self.bytes.now c.args.self.room c.in-Some.room r.0 r.1
