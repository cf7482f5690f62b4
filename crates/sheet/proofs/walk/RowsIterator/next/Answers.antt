use Rattle.std.proofs.Common.{arith}
use Rattle.sheet.specs.Rows.{row_of}
use Rattle.sheet.proofs.Walking.{row_small}
use Rattle.sheet.proofs.walk.RowsIterator.next.Goals as goal

pub overflow_add-self : goal.overflow_add-self
overflow_add-self g c =
    let s = row_small (g.S.Sheet.rows c.args.self.now.sheet.now) (g.S.Sheet.lawful c.args.self.now.sheet.now) c.args.self.now.at (row_of c.in_ok-row.row) c.in_ok-row.ensures.means in
    omega arith
