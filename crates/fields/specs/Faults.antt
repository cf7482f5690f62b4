-- The questions about length, characters and lines, and the first that a text fails. Assumes nothing.
use Rattle.std.specs.Prelude.{ℕ, suc, ◌+◌, ◌-◌, Bool, true, false, cond, not, ◌&&◌, ◌||◌, List, [], ◌∷◌, length, is_some, Some, None, Ok, Err, Option, Result, ◌==◌, nat_le, nat_lt, slice_index}
use Rattle.fields.specs.declared.faults.TextFault.{TextFault}
use Rattle.fields.specs.declared.faults.TextFault.TheVariants.{Length, Character, Line}
use Rattle.fields.specs.Characters.{set_x, begins}
use Rattle.fields.specs.Lines.{Lines, rest, line, lines, break_at}
use Rattle.fields.specs.Headers.{header}
use Rattle.fields.specs.Placed.{Place}

-- 1 to 10,000 bytes
abbrev pub good_length : List ℕ → Bool
good_length text = nat_le 1 (length text) && nat_le (length text) 10000

-- a byte of set x, or a CR and LF directly together: `before` and `next` are the bytes before c and behind it, 0 where there is none
abbrev pub good_byte : ℕ → ℕ → ℕ → Bool
good_byte before c next = set_x c || ((c == 13 && next == 10) || (c == 10 && before == 13))

-- the same, told by a byte's place: is it no such byte?
unfoldable pub bad_at : List ℕ → ℕ → Bool
bad_at text k = not (set_x (slice_index text k) || (break_at text k || (nat_lt 0 k && break_at text (k - 1))))

-- the place of the first other byte of what stands at `at` behind the byte `before`
abbrev pub alphabet_from : ℕ → ℕ → List ℕ → Option ℕ
alphabet_from before at [] = None
alphabet_from before at (c ∷ cs) = cond (good_byte before c (slice_index cs 0)) (alphabet_from c (suc at) cs) (Some at)

abbrev pub alphabet_fault : List ℕ → Option ℕ
alphabet_fault text = alphabet_from 0 0 text

abbrev pub empty : List ℕ → Bool
empty [] = true
empty (c ∷ cs) = false

-- not empty, not begun by '-', its header right if it begins with a colon, and the first begins with one
abbrev pub good_line : Bool → List ℕ → Bool
good_line first l = not (empty l) && (not (begins 45 l) && cond (begins 58 l) (is_some (header l)) (not first))

-- is it a bad line? No CR LF ends it, or it is not good.
abbrev pub bad : ℕ → Option (List ℕ) → Bool
bad at None = true
bad at (Some l) = not (good_line (at == 0) l)

abbrev pub bad_line : Place → Bool
bad_line p = bad p.0 p.1

-- where the first bad line of what stands at `at` starts
abbrev pub line_from : Bool → ℕ → Lines → Option ℕ
line_from first at (rest r) = cond (empty r) None (Some at)
line_from first at (line l ls) = cond (good_line first l) (line_from false (at + (length l + 2)) ls) (Some at)

abbrev pub line_fault : List ℕ → Option ℕ
line_fault text = line_from true 0 (lines text)

-- a place where there is one, given the fault that stands for it
abbrev pub fault_at : (ℕ → TextFault) → Option ℕ → Result (Unit {0}) TextFault → Result (Unit {0}) TextFault
fault_at fault None otherwise = otherwise
fault_at fault (Some at) otherwise = Err (fault at)

-- the first of the three questions that the text fails, with its place
abbrev pub text_verdict : List ℕ → Result (Unit {0}) TextFault
text_verdict text =
    cond (good_length text) (fault_at Character (alphabet_fault text) (fault_at Line (line_fault text) (Ok tt))) (Err Length)

-- the number of the question that a fault answers no
abbrev pub question_of : TextFault → ℕ
question_of Length = 2
question_of (Character at) = 3
question_of (Line start) = 4

-- and the place, 0 where none stands
abbrev pub place_of : TextFault → ℕ
place_of Length = 0
place_of (Character at) = at
place_of (Line start) = start
