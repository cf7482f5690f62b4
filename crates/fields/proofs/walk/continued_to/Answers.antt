-- The first line that does not go on with the field ends it.
use Rattle.std.proofs.Common.{rules, tests}
use Rattle.std.proofs.lemmas.Iterator.Search.{find_from_yields_List}
use Rattle.std.proofs.lemmas.Iterator.Consumers.{YieldsList-from_first}
use Rattle.fields.specs.Placed.{ends, placed_line, left_lines}
use Rattle.fields.proofs.Reading.{continued_found}
use Rattle.fields.proofs.walk.continued_to.Goals as goal

pub returns : goal.returns
returns c =
    let e =
    find_from_yields_List ends c.find.new.self _ c.find.result c.find.ensures.ran
    (YieldsList-from_first placed_line left_lines _ c.from_place.ensures) (λ x b q k. search (rules, tests)) in
    let r = continued_found c.args.text.now c.args.from c.find.result c.map_or.result c.requires e (search rules) in
    record { value = r.0; within = r.1 }
