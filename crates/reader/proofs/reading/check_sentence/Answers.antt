-- The first fault is the verdict, of which the law holds.
use Rattle.reader.proofs.Verdicts.{sentence_checked}
use Rattle.reader.proofs.reading.check_sentence.Goals as goal

pub returns : goal.returns
returns g c =
    sentence_checked (g.S.Sheet.rows c.args.sheet.now) (g.S.Sheet.lawful c.args.sheet.now) (g.S.Sheet.codes c.args.sheet.now)
    c.args.text.now c.first_fault.result c.first_fault.ensures
