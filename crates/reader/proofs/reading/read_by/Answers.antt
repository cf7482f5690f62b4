-- Refused, the table is as found; read, it is filled.
use Rattle.std.proofs.Common.{refl}
use Rattle.std.proofs.lemmas.Result.{err_from_is_err_and}
use Rattle.reader.proofs.Tables.{reads as has_read}
use Rattle.reader.proofs.reading.read_by.Goals as goal

pub returns-in_err-count : goal.returns-in_err-count
returns-in_err-count g c =
    let p = err_from_is_err_and c.from_residual.result c.from_residual.ensures.1 in
    rw (p.1, p.2)
    (has_read (g.S.Sheet.rows c.args.sheet.now) (g.S.Sheet.lawful c.args.sheet.now) c.args.text.now
    (g.S.Sheet.codes c.args.sheet.now) _ _ _ c.in_err-count.ensures refl)

pub returns : goal.returns
returns g c =
    has_read (g.S.Sheet.rows c.args.sheet.now) (g.S.Sheet.lawful c.args.sheet.now) c.args.text.now
    (g.S.Sheet.codes c.args.sheet.now) _ _ _ c.in_ok-count.ensures c.fill.ensures
