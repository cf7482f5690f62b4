-- Each turn writes one entry more.
use Rattle.std.proofs.Common.{sym, ◌∙◌, arith}
use Rattle.fields.specs.Coming.{coming}
use Rattle.reader.specs.Tables.{entry_of}
use Rattle.reader.proofs.Filling.{turn_more, full}
use Rattle.reader.proofs.table.fill.Goals as goal

pub loop-entry-preserved : goal.loop-entry-preserved
loop-entry-preserved g c =
    c.loop-entry.invariant
    ∙ turn_more (entry_of (g.S.Sheet.rows c.args.sheet.now) c.args.text.now) (coming c.loop-entry.fields) (coming c.next.new.self)
    c.in-Some.field c.entry_of.result c.loop-entry.table c.loop-entry.entry-index c.in-Some.ensures.steps c.entry_of.ensures (omega arith)

pub returns : goal.returns
returns g c = sym (c.loop-entry.invariant ∙ full _ c.loop-entry.table c.loop-entry.entry-index (omega arith))
