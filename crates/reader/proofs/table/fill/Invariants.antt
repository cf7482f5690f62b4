use Rattle.std.proofs.Common.{◌≡◌, ◌++◌, map, take, drop}
use Rattle.fields.specs.Coming.{coming}
use Rattle.reader.specs.Tables.{entry_of, table_of, filled}
use Rattle.reader.proofs.table.fill.Given as goal

-- the entries so far are written, and those of the fields that are left are still to be
abbrev pub invariant-loop-entry : goal.invariant-loop-entry
invariant-loop-entry g l =
    let rows = g.S.Sheet.rows l.sheet in
    filled (table_of rows l.text) l.fn.table
    ≡ take l.entry-index l.table ++ filled (map (entry_of rows l.text) (coming l.fields)) (drop l.entry-index l.table)
