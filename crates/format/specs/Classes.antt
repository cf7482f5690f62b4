-- The classes of characters that a run may be of. Assumes nothing.
use Rattle.std.specs.Prelude.{ℕ, Bool}
use Rattle.fields.specs.Characters.{between, digit, capital, alphanumeric, set_x}
use Rattle.format.specs.declared.runs.Class.{Class}
use Rattle.format.specs.declared.runs.Class.TheVariants.{Leading, Digit, Capital, Alphanumeric, SetX}

abbrev pub is_in : Class → ℕ → Bool
is_in Leading = between 49 57
is_in Digit = digit
is_in Capital = capital
is_in Alphanumeric = alphanumeric
is_in SetX = set_x
