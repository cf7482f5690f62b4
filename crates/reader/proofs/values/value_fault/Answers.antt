-- The first field that does not fit has the first value at fault.
use Rattle.std.proofs.Common.{not, find, rules, tests, ◌∙◌, ap}
use Rattle.std.proofs.lemmas.Iterator.Search.{find_from_yields_List}
use Rattle.fields.proofs.Chains.{fields_yield}
use Rattle.fields.specs.declared.walk.Field.{Field}
use Rattle.fields.specs.Fields.{fields}
use Rattle.reader.specs.Values.{field_fits}
use Rattle.reader.proofs.Faulting.{value_found}
use Rattle.reader.proofs.values.value_fault.Goals as goal

pub returns : goal.returns
returns g c =
    let rows = g.S.Sheet.rows c.args.sheet.now in
    let codes = g.S.Sheet.codes c.args.sheet.now in
    let unfit = λ (f : Field). not (field_fits rows codes c.args.text.now f) in
    let e =
    find_from_yields_List unfit c.find.new.self _ c.find.result c.find.ensures.ran (fields_yield _) (λ x b q k. search (rules, tests)) in
    value_found rows codes c.args.text.now (fields c.args.text.now) c.find.result c.map.result (e ∙ ap (find unfit) c.of.ensures.all) (search rules)
