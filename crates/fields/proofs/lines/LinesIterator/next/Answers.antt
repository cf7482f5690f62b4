-- A line is the first of those that are left.
use Rattle.std.proofs.Common.{◌≡◌, ◌∷◌, rules}
use Rattle.fields.specs.Placed.{placed_line, left_lines}
use Rattle.fields.proofs.Reading.{placed_on, placed_rest}
use Rattle.fields.proofs.lines.LinesIterator.next.Goals as goal
use Rattle.fields.proofs.lines.LinesIterator.next.Goals.{in-Some, in-None}

pub returns-clause-steps : goal.returns-clause-steps
returns-clause-steps c =
    elim c.match-bytes.branch [
      | in-Some w ↦ rw (w.in-Some.is, w.self-is) (placed_on _ _ _ w.in-Some.ensures)
      | in-None w ↦ rw (w.in-None.is, w.self-is) (placed_rest _ _ c.if-self.false w.in-None.ensures)
    ]

pub returns-clause-goes : goal.returns-clause-goes
returns-clause-goes c = let e : left_lines c.args.self.now ≡ placed_line (record { start = c.args.self.now.at; bytes = c.line_at-bytes.result }) ∷ left_lines (record { text = c.args.self.now.text; at = c.match-bytes.self }) = returns-clause-steps c in search rules
