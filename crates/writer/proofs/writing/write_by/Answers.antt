-- The outcome is the verdict, of which the laws hold.
use Rattle.writer.proofs.Finished.{writes as has_written}
use Rattle.writer.proofs.writing.write_by.Goals as goal

pub returns : goal.returns
returns g c =
    has_written (g.S.Sheet.rows c.args.sheet.now) (g.S.Sheet.lawful c.args.sheet.now) c.args.bytes.now
    (g.S.Sheet.codes c.args.sheet.now) c.args.entries.now c.args.out.now _ c.write_guarded.result
    (record { value = c.write_guarded.ensures.value; output = c.write_guarded.ensures.output })
