-- A quantity of shares: how it is spelled, and how it is read. Assumes nothing.
use Rattle.std.specs.Prelude.{ℕ, ◌≤◌, cond, ◌&&◌, List, ◌++◌, Some, None, codes, decimal, Option, nat_le}
use Rattle.format.specs.Numbers.{number}
use Rattle.format.specs.Texts.{and_then, after_word, is_end}

-- a quantity: a whole number from 1 to 100,000,000,000
abbrev pub InQuantity : ℕ → Type 0
InQuantity n = (1 ≤ n) × (n ≤ 100000000000)

-- `UNIT/`, the number in decimal digits, a comma
abbrev pub quantity_text : ℕ → List ℕ
quantity_text n = codes "UNIT/" ++ (decimal n ++ codes ",")

-- reading it: `UNIT/`, a number of at most 12 digits, a comma, the end; and the number is not too large
abbrev pub quantity_done : ℕ → List ℕ → Option ℕ
quantity_done n u = cond (is_end u && nat_le n 100000000000) (Some n) None

abbrev pub quantity_ends : ℕ × List ℕ → Option ℕ
quantity_ends p = and_then (after_word (codes ",") p.1) (quantity_done p.0)

abbrev pub quantity_number : List ℕ → Option ℕ
quantity_number t = and_then (number 12 t) quantity_ends

abbrev pub read_quantity : List ℕ → Option ℕ
read_quantity s = and_then (after_word (codes "UNIT/") s) quantity_number
