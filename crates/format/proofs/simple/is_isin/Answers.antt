use Rattle.format.proofs.RunLaws.{isin_decides}
use Rattle.format.proofs.simple.is_isin.Goals as goal

pub returns-clause-meaning : goal.returns-clause-meaning
returns-clause-meaning c = isin_decides c.args.value.now _ c.is_isin_text.ensures
