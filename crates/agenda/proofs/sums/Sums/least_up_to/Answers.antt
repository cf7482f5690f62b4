use Rattle.std.proofs.Common.{not, sym, ◌∙◌, rules, tests}
use Rattle.std.proofs.lemmas.Iterator.Adapters.{option_map_id}
use Rattle.std.proofs.lemmas.Iterator.Search.{find_from_yields_List}
use Rattle.agenda.specs.Sums.{balanced}
use Rattle.agenda.proofs.Counting.{YieldsList-from_one}
use Rattle.agenda.proofs.SumSteps.{least_found}
use Rattle.agenda.proofs.sums.Sums.least_up_to.Goals as goal

pub returns : goal.returns
returns c =
    let table = c.args.self.agenda.now.questions in
    let holding = c.args.self.holding in
    let votes = c.args.self.votes.now.items in
    let e = c.new.ensures in
    sym (option_map_id c.find.result)
    ∙ find_from_yields_List (λ n. not (balanced table holding votes n)) _ _ c.find.result c.find.ensures.ran (YieldsList-from_one c.new.result c.args.last e.start e.end e.exhausted) (λ x b q k. search (rules, tests))
    ∙ least_found table holding votes 1 c.args.last
