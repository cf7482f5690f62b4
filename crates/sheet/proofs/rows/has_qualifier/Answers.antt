use Rattle.std.proofs.Common.{rules, tests}
use Rattle.std.proofs.lemmas.Iterator.{YieldsList-from_slice}
use Rattle.std.proofs.lemmas.Iterator.Search.{any_from_yields_List}
use Rattle.sheet.specs.Rows.{is_qualifier}
use Rattle.sheet.proofs.rows.has_qualifier.Goals as goal

pub returns : goal.returns
returns c =
    any_from_yields_List (λ x. is_qualifier x c.args.wanted) _ _ c.any.result c.any.ensures.ran (YieldsList-from_slice c.args.items.now cc) (λ x b q k. search (rules, tests))
