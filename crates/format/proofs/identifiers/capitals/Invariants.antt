use Rattle.std.proofs.Common.{◌≡◌, ◌-◌, take, length}
use Rattle.format.specs.Identifier.{read_capitals}
use Rattle.format.proofs.IdentifierLaws.{glued}
use Rattle.format.proofs.identifiers.capitals.Given as goal

-- what is left gives, behind the letters so far, what the whole gives
abbrev pub invariant-loop-letter : goal.invariant-loop-letter
invariant-loop-letter g l =
    let chars = g.T.Text.chars in
    (glued (take l.letter-index l.letter-items) (read_capitals (g.row.N - l.letter-index) (chars l.rest)) ≡ read_capitals g.row.N (chars l.fn.text))
    × (length l.letter-items ≡ g.row.N)
