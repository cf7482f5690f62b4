use Rattle.std.proofs.Common.{◌≡◌, ◌+◌, ◌≤◌, drop, length}
use Rattle.sheet.specs.Coming.{coming}
use Rattle.sheet.specs.Steps.{closing}
use Rattle.sheet.proofs.Searches.{closes}
use Rattle.sheet.proofs.steps.block_end.Given as goal

-- the search of what is left answers as the whole
abbrev pub invariant-loop-i : goal.invariant-loop-i
invariant-loop-i g l =
    let rows = g.S.Sheet.rows l.sheet in
    let left = coming g.S.Sheet.rows l.i-iterator in
    (goal.iterator-loop-i g).can_next l.i-iterator × (goal.iterator-loop-i g).is_finite l.i-iterator
    × (closing 0 (drop l.from rows) l.from ≡ closes l.depth left (length rows)) × (l.depth + length left ≤ 64)
