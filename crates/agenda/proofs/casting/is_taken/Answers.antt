use Rattle.std.proofs.Common.{◌∙◌, rules, tests}
use Rattle.std.proofs.lemmas.Iterator.{YieldsList-from_slice}
use Rattle.std.proofs.lemmas.Iterator.Search.{any_from_yields_List}
use Rattle.agenda.proofs.CastingSteps.{in_cell, cast_in_any}
use Rattle.agenda.proofs.casting.is_taken.Goals as goal

pub returns : goal.returns
returns c =
    any_from_yields_List (in_cell c.args.question c.args.cell) _ _ c.any.result c.any.ensures.ran (YieldsList-from_slice c.args.votes.now.items cc) (λ x b q k. search (rules, tests))
    ∙ cast_in_any c.args.question c.args.cell c.args.votes.now.items
