-- The order of texts. Assumes nothing.
use Rattle.std.specs.Prelude.{ℕ, List}
use Rattle.std.specs.declared.cmp.Ordering.{Ordering}
use Rattle.std.specs.Cmp.Lexicographic.{slice_cmp}
use Rattle.std.specs.Ordering.{nat_cmp}

-- by the first byte in which two texts differ, a text before its continuations
abbrev pub order : List ℕ → List ℕ → Ordering
order a b = slice_cmp nat_cmp a b
