use Rattle.format.proofs.RunLaws.{lines_decides}
use Rattle.format.proofs.simple.is_owner.Goals as goal

pub returns-clause-meaning : goal.returns-clause-meaning
returns-clause-meaning c = lines_decides 10 c.args.value.now _ c.is_owner_text.ensures
