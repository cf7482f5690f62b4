-- The line found is the first that begins a field.
use Rattle.std.proofs.Common.{◌∙◌, None, ap, sym, rules, tests}
use Rattle.std.proofs.lemmas.Iterator.Search.{find_from_yields_List}
use Rattle.std.proofs.lemmas.Iterator.Consumers.{YieldsList-from_first}
use Rattle.std.specs.Option.{option_map}
use Rattle.fields.specs.Placed.{heads, placed_line, left_lines}
use Rattle.fields.proofs.Reading.{head_found, head_at}
use Rattle.fields.proofs.walk.next_head.Goals as goal

pub returns-in_err-line : goal.returns-in_err-line
returns-in_err-line c =
    let e =
    find_from_yields_List heads c.find.new.self _ c.find.result c.find.ensures.ran
    (YieldsList-from_first placed_line left_lines _ c.from_place.ensures) (λ x b q k. search (rules, tests)) in
    rw c.from_residual.ensures (head_found c.args.text.now c.args.at None (sym (ap (option_map placed_line) c.in_err-line.was) ∙ e))

pub returns : goal.returns
returns c =
    let e =
    find_from_yields_List heads c.find.new.self _ c.find.result c.find.ensures.ran
    (YieldsList-from_first placed_line left_lines _ c.from_place.ensures) (λ x b q k. search (rules, tests)) in
    head_at c.args.text.now c.args.at c.in_ok-line.line c.in_ok-line-2.field-0 c.in_ok-header.field-0
    (sym (ap (option_map placed_line) c.in_ok-line.was) ∙ e) c.in_ok-line-2.was c.header.ensures.value c.in_ok-header.was c.header.ensures.within
