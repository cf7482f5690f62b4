-- The first entry that is not good is the entry at fault.
use Rattle.std.proofs.Common.{not, ◌∙◌, rules, tests}
use Rattle.std.proofs.lemmas.Iterator.{YieldsList-from_slice}
use Rattle.std.proofs.lemmas.Iterator.Adapters.{position_from-zero}
use Rattle.std.proofs.lemmas.Iterator.Search.{position_from_yields_List}
use Rattle.reader.specs.declared.table.Entry.{Entry}
use Rattle.writer.specs.Entries.{good_entry}
use Rattle.writer.proofs.Asked.{entry_by}
use Rattle.writer.proofs.entries.entry_fault.Goals as goal

pub returns : goal.returns
returns g c =
    let rows = g.S.Sheet.rows c.args.sheet.now in
    let bytes = c.args.bytes.now in
    let bad = λ (e : Entry). not (good_entry rows bytes e) in
    position_from_yields_List bad c.position.new.self _ c.position.result c.position.ensures.ran
    (YieldsList-from_slice c.args.entries.now cc) (λ x b q k. search (rules, tests))
    ∙ position_from-zero bad c.args.entries.now ∙ entry_by rows bytes 0 c.args.entries.now
