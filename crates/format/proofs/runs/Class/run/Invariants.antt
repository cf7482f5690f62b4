use Rattle.std.proofs.Common.{◌≡◌}
use Rattle.format.specs.Runs.{after_some}
use Rattle.format.specs.Classes.{is_in}
use Rattle.format.proofs.RunLaws.{after_more}
use Rattle.format.proofs.runs.Class.run.Given as goal

-- the run goes on from here to where it goes from its start
abbrev pub invariant-loop-len : goal.invariant-loop-len
invariant-loop-len g l =
    let chars = g.T.Text.chars in
    after_more (is_in l.self) l.least l.most l.len (chars l.rest) ≡ after_some (is_in l.self) l.least l.most (chars l.fn.text)
