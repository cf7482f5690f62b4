-- The first bad line is the line at fault.
use Rattle.std.proofs.Common.{rules, tests}
use Rattle.std.proofs.lemmas.Iterator.Search.{find_from_yields_List}
use Rattle.std.proofs.lemmas.Iterator.Consumers.{YieldsList-from_first}
use Rattle.fields.specs.Lines.{lines}
use Rattle.fields.specs.Faults.{bad_line}
use Rattle.fields.specs.Placed.{placed_line, left_lines}
use Rattle.fields.proofs.Reading.{fault_found}
use Rattle.fields.proofs.faults.line_fault.Goals as goal

pub returns : goal.returns
returns c =
    let e =
    find_from_yields_List bad_line c.find.new.self _ c.find.result c.find.ensures.ran
    (YieldsList-from_first placed_line left_lines _ c.from_place.ensures) (λ x b q k. search (rules, tests)) in
    fault_found (lines c.args.text.now) c.find.result c.map.result e (search (rules))
