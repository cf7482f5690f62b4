use Rattle.std.proofs.Common.{◌≡◌, ◌+◌, ◌-◌, suc, Some, None, sym, ◌∙◌, arith}
use Rattle.format.proofs.RunLaws.{lines_next}
use Rattle.format.proofs.simple.is_lines.Goals as goal

pub returns-in_default-after_word : goal.returns-in_default-after_word
returns-in_default-after_word g c =
    let chars = g.T.Text.chars in
    let z : c.args.most - c.loop-line._line ≡ suc (c.args.most - (c.loop-line._line + 1)) = omega arith in
    sym (lines_next _ _ (chars c.loop-line.lines) (chars c.in-Some.rest) None z c.in-Some.ensures c.if-is_end.ensures c.in_default-after_word.ensures)
    ∙ c.loop-line.invariant

pub loop-line-preserved : goal.loop-line-preserved
loop-line-preserved g c =
    let chars = g.T.Text.chars in
    let z : c.args.most - c.loop-line._line ≡ suc (c.args.most - (c.loop-line._line + 1)) = omega arith in
    let next = Some (chars c.in-Some-after_word.next) in
    sym (lines_next _ _ (chars c.loop-line.lines) (chars c.in-Some.rest) next z c.in-Some.ensures c.if-is_end.ensures c.in-Some-after_word.ensures)
    ∙ c.loop-line.invariant
