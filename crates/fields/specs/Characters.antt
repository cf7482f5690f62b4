-- The classes of characters, by their codes. Assumes nothing.
use Rattle.std.specs.Prelude.{ℕ, Bool, false, ◌&&◌, ◌||◌, List, [], ◌∷◌, codes, ◌==◌, nat_le}

abbrev pub between : ℕ → ℕ → ℕ → Bool
between a b c = nat_le a c && nat_le c b

abbrev pub small : ℕ → Bool
small c = between 97 122 c

abbrev pub capital : ℕ → Bool
capital c = between 65 90 c

abbrev pub digit : ℕ → Bool
digit c = between 48 57 c

abbrev pub one_of : List ℕ → ℕ → Bool
one_of [] c = false
one_of (x ∷ xs) c = c == x || one_of xs c

abbrev pub alphanumeric : ℕ → Bool
alphanumeric c = capital c || digit c

-- set x: letters, digits, the space and ten marks
abbrev pub set_x : ℕ → Bool
set_x c = small c || (capital c || (digit c || one_of (codes " /-?:().,'+") c))

-- does a text begin with this byte?
abbrev pub begins : ℕ → List ℕ → Bool
begins b [] = false
begins b (c ∷ cs) = c == b
