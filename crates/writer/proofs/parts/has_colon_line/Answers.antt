use Rattle.std.proofs.Common.{arith}
use Rattle.std.proofs.lemmas.Grind.{common_steps}
use Rattle.writer.proofs.Asked.{colon_by}
use Rattle.writer.proofs.parts.has_colon_line.Goals as goal

pub returns : goal.returns
returns c = colon_by c.args.part.now c.any.result (grind (arith, common_steps)) (grind (arith, common_steps))
