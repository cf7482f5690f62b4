use Rattle.std.proofs.Common.{◌≡◌, ◌-◌}
use Rattle.format.specs.Simple.{is_lines}
use Rattle.format.proofs.simple.is_lines.Given as goal

-- the lines from here on are as right as all
abbrev pub invariant-loop-line : goal.invariant-loop-line
invariant-loop-line g l = let chars = g.T.Text.chars in is_lines (l.most - l._line) (chars l.lines) ≡ is_lines l.most (chars l.fn.text)
