-- Where there is no room for an entry, there is none for all.
use Rattle.std.proofs.lemmas.Result.{err_from_is_err_and}
use Rattle.writer.proofs.Spelt.{turn_full}
use Rattle.writer.proofs.spelling.put_entries.Goals as goal

pub returns-in_err-put_entry : goal.returns-in_err-put_entry
returns-in_err-put_entry g c =
    let p = err_from_is_err_and c.from_residual.result c.from_residual.ensures.1 in
    rw p.1
    (turn_full (g.S.Sheet.rows c.args.sheet.now) c.args.bytes.now c.args.entries.now c.loop-entry.entry-index _
    c.args.scratch.now.items c.loop-entry.scratch.items c.loop-entry-test.true c.loop-entry.invariant c.in_err-put_entry.ensures)
