use Rattle.sheet.proofs.Walking.{numbered_few}
use Rattle.sheet.proofs.walk.Rows.from_number.Goals as goal

pub returns-clause-few : goal.returns-clause-few
returns-clause-few g c = numbered_few (g.S.Sheet.rows c.args.sheet.now) (g.S.Sheet.lawful c.args.sheet.now) c.args.at
