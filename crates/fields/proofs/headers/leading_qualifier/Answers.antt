use Rattle.std.proofs.Common.{arith}
use Rattle.fields.proofs.Heads.{too_short}
use Rattle.fields.proofs.headers.leading_qualifier.Goals as goal

pub returns-in_default : goal.returns-in_default
returns-in_default c = too_short c.args.line.now (omega (arith, c.in_default.len_below))
