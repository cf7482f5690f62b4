-- Short texts. Assumes nothing.
use Rattle.std.specs.Prelude.{ℕ, List}
use Rattle.short.specs.Short.{Short}

-- the characters of a text that is kept
abbrev pub text_of : Short ℕ → List ℕ
text_of t = t.items
