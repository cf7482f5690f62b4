use Rattle.std.proofs.Common.{◌≡◌, ℕ, ◌∙◌, option_map, find, rules, tests}
use Rattle.std.proofs.lemmas.Iterator.Consumers.{YieldsList-from_first}
use Rattle.std.proofs.lemmas.Iterator.Search.{find_from_yields_List}
use Rattle.sheet.specs.Rows.{Row}
use Rattle.sheet.specs.Coming.{numbered, coming, number_and_row}
use Rattle.sheet.specs.Keys.{key_from, row_has, find_row}
use Rattle.sheet.proofs.Testing.{rightly_found, tested}
use Rattle.sheet.proofs.Walking.{numbered_found, numbered_told}
use Rattle.sheet.proofs.keys.find_row.Goals as goal

pub returns : goal.returns
returns g c =
    let rows = g.S.Sheet.rows c.args.sheet.now in
    let key = key_from c.args.key in
    let e : option_map number_and_row c.find.result ≡ find (λ (p : ℕ × Row). row_has p.1 key) (numbered 0 rows) =
    find_from_yields_List (λ (p : ℕ × Row). row_has p.1 key) c.find.new.self _ c.find.result c.find.ensures.ran
    (YieldsList-from_first number_and_row (coming g.S.Sheet.rows) (numbered 0 rows) c.of.ensures.all) (λ x b q k. search (rules, tests)) in
    let m : c.map.result ≡ find_row rows key =
    numbered_told c.find.result c.map.result _ e (search rules) ∙ numbered_found (λ r. row_has r key) 0 rows in
    record { value = m; found = rightly_found rows (g.S.Sheet.lawful c.args.sheet.now) key _ m; law = tested }
