-- What is read is the sentence's table; written again it gives the sentence, or the output is too short for it.
use Rattle.std.proofs.Common.{rules}
use Rattle.std.proofs.lemmas.Result.{err_from_is_err_and}
use Rattle.writer.proofs.Refiled.{unread, unwritten, rewritten}
use Rattle.writer.proofs.filing.refile_by.Goals as goal

pub returns-in_err-count : goal.returns-in_err-count
returns-in_err-count g c =
    let p = err_from_is_err_and c.from_residual.result c.from_residual.ensures.1 in
    rw (p.1, p.2)
    (unread (g.S.Sheet.rows c.args.sheet.now) (g.S.Sheet.lawful c.args.sheet.now) (g.S.Sheet.codes c.args.sheet.now)
    c.args.text.now c.args.table.now c.args.out.now c.read_by.new.table _ c.in_err-count.field-0.0
    c.in_err-count.ensures (search rules))

pub returns-in_err-len : goal.returns-in_err-len
returns-in_err-len g c =
    let p = err_from_is_err_and c.from_residual-in_err-len.result c.from_residual-in_err-len.ensures.1 in
    let o = c.over-output.ensures in
    rw (p.1, p.2)
    (unwritten (g.S.Sheet.rows c.args.sheet.now) (g.S.Sheet.lawful c.args.sheet.now) (g.S.Sheet.codes c.args.sheet.now)
    c.args.text.now c.args.table.now c.args.out.now c.read_by.new.table c.in_ok-count.count c.write_by.new.out _
    c.in_err-len.field-0.0 c.in_ok-count.ensures (rw o.bytes at c.in_err-len.ensures) (search rules))

pub returns : goal.returns
returns g c =
    rewritten (g.S.Sheet.rows c.args.sheet.now) (g.S.Sheet.lawful c.args.sheet.now) (g.S.Sheet.codes c.args.sheet.now)
    c.args.text.now c.args.table.now c.args.out.now c.read_by.new.table c.in_ok-count.count c.write_by.new.out _
    c.in_ok-len.len c.in_ok-count.ensures (rw c.over-output.ensures.bytes at c.in_ok-len.ensures) (search rules)
