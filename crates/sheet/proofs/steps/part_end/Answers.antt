use Rattle.std.proofs.Common.{arith}
use Rattle.sheet.proofs.Scans.{row_within}
use Rattle.sheet.proofs.Walking.{row_small}
use Rattle.sheet.proofs.steps.part_end.Goals as goal

pub overflow_add-first : goal.overflow_add-first
overflow_add-first g c =
    let s = row_small (g.S.Sheet.rows c.args.sheet.now) (g.S.Sheet.lawful c.args.sheet.now) _ _ c.in-Some-Open.ensures.means in
    omega arith

pub block_end-requires : goal.block_end-requires
block_end-requires g c = let s = row_within (g.S.Sheet.rows c.args.sheet.now) _ _ c.in-Some-Open.ensures.means in omega arith
