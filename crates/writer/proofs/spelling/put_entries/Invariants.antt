use Rattle.std.proofs.Common.{◌≡◌, ◌++◌, drop}
use Rattle.writer.specs.Spelling.{spelled_text}
use Rattle.writer.proofs.spelling.put_entries.Given as goal

-- what is spelled, and what is left to spell
abbrev pub invariant-loop-entry : goal.invariant-loop-entry
invariant-loop-entry g l =
    let rows = g.S.Sheet.rows l.sheet in
    l.fn.scratch.items ++ spelled_text rows l.bytes l.entries
    ≡ l.scratch.items ++ spelled_text rows l.bytes (drop l.entry-index l.entries)
