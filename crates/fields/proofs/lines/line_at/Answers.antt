use Rattle.std.proofs.Common.{◌∙◌}
use Rattle.std.proofs.lemmas.List.{take_rest}
use Rattle.fields.proofs.Reading.{line_there, line_first, line_none}
use Rattle.fields.proofs.lines.line_at.Goals as goal

pub returns-in_err-len : goal.returns-in_err-len
returns-in_err-len c =
    let e = c.in_ok-rest.ensures.lookup.0.2 ∙ take_rest c.args.text.now c.args.start in
    rw c.from_residual-in_err-len.ensures (rw e at (line_none _ c.in_err-len.ensures.none))

pub returns : goal.returns
returns c =
    let h = c.in_ok-rest.ensures.lookup.0 in
    let g = c.in_ok-len.ensures in
    let e = h.2 ∙ take_rest c.args.text.now c.args.start in
    rw e (line_there _ _ _ h.0 (rw e at (line_first _ _ g.inside g.found g.first)))
