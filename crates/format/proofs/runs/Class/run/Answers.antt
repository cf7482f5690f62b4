use Rattle.std.proofs.Common.{sym, ◌∙◌}
use Rattle.format.specs.Classes.{is_in}
use Rattle.format.proofs.RunLaws.{run_more, run_ends}
use Rattle.format.proofs.runs.Class.run.Goals as goal

pub returns-in_default : goal.returns-in_default
returns-in_default g c =
    let e = c.then_some.ensures in
    let h = run_ends g.T.Text.chars (is_in c.args.self) c.args.least c.args.most c.loop-len.len c.loop-len.rest c.in_default.ensures c.loop-len-test.true in
    rw e (h ∙ c.loop-len.invariant)

pub loop-len-preserved : goal.loop-len-preserved
loop-len-preserved g c = sym (run_more (is_in c.args.self) c.args.least c.args.most c.loop-len.len _ _ _ c.in-Some.ensures) ∙ c.loop-len.invariant
