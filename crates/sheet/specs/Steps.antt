-- Which row may follow which: what a reader asks of a sheet's rows. Assumes nothing.
use Rattle.std.specs.Prelude.{◌≡◌, ℕ, zero, suc, Bool, true, false, cond, ◌&&◌, ◌||◌, List, [], ◌∷◌, length, drop, Some, None, Option, ◌==◌, nat_lt}
use Rattle.sheet.specs.Rows.{Row}
use Rattle.sheet.specs.Rows.Row.{Open, Close, Field}
use Rattle.sheet.specs.Marks.{may_miss, may_repeat}

-- the number of the row that closes the block whose rows, from number k, these are; d blocks are open in it
abbrev pub closing : ℕ → List Row → ℕ → ℕ
closing d [] k = k
closing d (Open m n ∷ rs) k = closing (suc d) rs (suc k)
closing zero (Close n ∷ rs) k = k
closing (suc d) (Close n ∷ rs) k = closing d rs (suc k)
closing d (Field f ∷ rs) k = closing d rs (suc k)

-- the number of the last row of the part that begins these rows, which start at k
abbrev pub ends : List Row → ℕ → ℕ
ends [] k = k
ends (Open m n ∷ rs) k = closing zero rs (suc k)
ends (Close n ∷ rs) k = k
ends (Field f ∷ rs) k = k

-- may the part that begins these rows stand again?
abbrev pub repeats : List Row → Bool
repeats [] = false
repeats (Open m n ∷ rs) = may_repeat m
repeats (Close n ∷ rs) = false
repeats (Field f ∷ rs) = may_repeat f.mark

-- from the first of these rows, which start at number k, can row x come next? What may be missed is passed over, and a
-- closing row stops the search. d blocks that are passed over are still open. The end of the text is the row behind the last.
abbrev pub reach : ℕ → List Row → ℕ → ℕ → Bool
reach d [] k x = k == x
reach zero (Open m n ∷ rs) k x = k == x || (may_miss m && reach (suc zero) rs (suc k) x)
reach (suc d) (Open m n ∷ rs) k x = reach (suc (suc d)) rs (suc k) x
reach zero (Close n ∷ rs) k x = k == x
reach (suc d) (Close n ∷ rs) k x = reach d rs (suc k) x
reach zero (Field f ∷ rs) k x = k == x || (may_miss f.mark && reach zero rs (suc k) x)
reach (suc d) (Field f ∷ rs) k x = reach (suc d) rs (suc k) x

-- how many blocks are open behind a row that is passed over, where d are before it; none where it may not be passed over
abbrev pub passing : ℕ → Row → Option ℕ
passing zero (Open m n) = cond (may_miss m) (Some 1) None
passing (suc d) (Open m n) = Some (suc (suc d))
passing zero (Close n) = None
passing (suc d) (Close n) = Some d
passing zero (Field f) = cond (may_miss f.mark) (Some 0) None
passing (suc d) (Field f) = Some (suc d)

-- can row x come next, from the place before row k?
abbrev pub scan : List Row → ℕ → ℕ → Bool
scan rows k x = reach zero (drop k rows) k x

-- does row `last` end the part that row x begins, and may that part stand again?
abbrev pub again : List Row → ℕ → ℕ → Bool
again rows last x = repeats (drop x rows) && ends (drop x rows) x == last

abbrev pub step : List Row → ℕ → ℕ → Bool
step rows last x = scan rows (suc last) x || again rows last x

-- may row x come next, where `last` is the row read last, if any?
abbrev pub follows : List Row → Option ℕ → ℕ → Bool
follows rows None x = nat_lt x (length rows) && scan rows zero x
follows rows (Some l) x = nat_lt x (length rows) && (nat_lt l (length rows) && step rows l x)

-- may the text end there?
abbrev pub may_end : List Row → Option ℕ → Bool
may_end rows None = scan rows zero (length rows)
may_end rows (Some l) = nat_lt l (length rows) && scan rows (suc l) (length rows)

-- every step of the text is allowed
abbrev pub Walks : List Row → Option ℕ → List ℕ → Type 0
Walks rows last [] = Unit {0}
Walks rows last (x ∷ w) = (follows rows last x ≡ true) × Walks rows (Some x) w

-- and so is its end
abbrev pub Reads : List Row → Option ℕ → List ℕ → Type 0
Reads rows last [] = may_end rows last ≡ true
Reads rows last (x ∷ w) = (follows rows last x ≡ true) × Reads rows (Some x) w
