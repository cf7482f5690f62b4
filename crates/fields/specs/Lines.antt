-- The lines of a text. Assumes nothing.
use Rattle.std.specs.Prelude.{◌≡◌, ℕ, ◌+◌, ◌≤◌, Bool, cond, ◌&&◌, List, [], ◌∷◌, length, drop, ◌==◌, slice_index}
use Rattle.fields.specs.Characters.{begins}

-- A text in lines: lines that CR LF ends, one behind the other, and then what no CR LF ends.
pub data Lines : Type 0 where
  rest : List ℕ → Lines
  line : List ℕ → Lines → Lines

-- one more byte in front of the first line
abbrev pub ahead : ℕ → Lines → Lines
ahead c (rest r) = rest (c ∷ r)
ahead c (line l ls) = line (c ∷ l) ls

abbrev pub tail : List ℕ → List ℕ
tail [] = []
tail (c ∷ cs) = cs

-- one byte less
abbrev pub behind : Lines → Lines
behind (rest r) = rest (tail r)
behind (line l ls) = line (tail l) ls

-- does a CR LF stand here?
abbrev pub breaks : ℕ → List ℕ → Bool
breaks c cs = c == 13 && begins 10 cs

abbrev pub lines : List ℕ → Lines
lines [] = rest []
lines (c ∷ cs) = cond (breaks c cs) (line [] (behind (lines cs))) (ahead c (lines cs))

-- do CR and LF stand at place k?
abbrev pub break_at : List ℕ → ℕ → Bool
break_at t k = slice_index t k == 13 && slice_index t (k + 1) == 10

-- l and CR LF stand at `start`, and are the first line there
pub record LineAt (text : List ℕ) (start : ℕ) (l : List ℕ) : Type 0 where
  pub within : start + (length l + 2) ≤ length text
  pub cut : lines (drop start text) ≡ line l (lines (drop (start + (length l + 2)) text))
