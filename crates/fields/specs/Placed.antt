-- The lines of a text with their places, as they are gone through. Assumes nothing.
use Rattle.std.specs.Prelude.{ℕ, ◌+◌, Bool, true, List, [], ◌∷◌, length, drop, is_some, Some, None, Option}
use Rattle.std.specs.Option.{option_map}
use Rattle.fields.specs.declared.headers.Header.{Header}
use Rattle.fields.specs.declared.lines.Line.{Line}
use Rattle.fields.specs.declared.lines.Lines.{Lines as Walk}
use Rattle.fields.specs.Lines.{Lines, rest, line, lines}
use Rattle.fields.specs.Headers.{header}

-- where a line starts, and the line; None where no CR LF ends it
abbrev pub Place : Type 0
Place = ℕ × Option (List ℕ)

abbrev pub placed_line : Line → Place
placed_line l = (l.start, option_map (λ x. x.now) l.bytes)

-- what no CR LF ends is a last line, unless it is empty
abbrev pub unended : ℕ → List ℕ → List Place
unended at [] = []
unended at (c ∷ cs) = (at, None) ∷ []

abbrev pub placed : ℕ → Lines → List Place
placed at (rest r) = unended at r
placed at (line l ls) = (at, Some l) ∷ placed (at + (length l + 2)) ls

-- those that are left
abbrev pub left_lines : Walk → List Place
left_lines w = placed w.at (lines (drop w.at w.text.now))

abbrev pub header_of : Option (List ℕ) → Option Header
header_of None = None
header_of (Some l) = header l

abbrev pub header_in : Place → Option Header
header_in p = header_of p.1

-- does a field begin with the line? It is ended and has a header.
abbrev pub heads : Place → Bool
heads p = is_some (header_in p)

-- does a field not go on with the line? It has a header, or no CR LF ends it.
abbrev pub ends_at : Option (List ℕ) → Bool
ends_at None = true
ends_at (Some l) = is_some (header l)

abbrev pub ends : Place → Bool
ends p = ends_at p.1
