-- A text has no more fields than bytes.
use Rattle.std.proofs.Common.{drop, refl, arith, length-drop}
use Rattle.fields.specs.Lines.{lines}
use Rattle.fields.proofs.Places.{few as at_most}
use Rattle.fields.proofs.walk.Fields.from_place.Goals as goal

pub returns-clause-few : goal.returns-clause-few
returns-clause-few c =
    let rest = drop c.args.at c.args.text.now in
    omega (arith, at_most (lines rest) rest c.args.at refl, length-drop c.args.at c.args.text.now)
