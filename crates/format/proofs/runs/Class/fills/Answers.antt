use Rattle.std.proofs.Common.{◌≡◌, rules}
use Rattle.format.specs.Classes.{is_in}
use Rattle.format.specs.Runs.{is_of}
use Rattle.format.proofs.RunLaws.{of_decides}
use Rattle.format.proofs.runs.Class.fills.Goals as goal

pub returns-clause-meaning : goal.returns-clause-meaning
returns-clause-meaning g c =
    let k = is_in c.args.self in
    let s = g.T.Text.chars c.args.text in
    let e : c.is_some_and.result ≡ is_of k c.args.least c.args.most s = search rules in
    of_decides k c.args.least c.args.most s _ e
