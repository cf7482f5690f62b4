-- Functions from texts, changed at one of them. Assumes nothing.
use Rattle.std.specs.Prelude.{ℕ, cond, List}
use Rattle.std.specs.Str.{bytes_eq}

-- what f gives, but for the text k, where it is x
abbrev pub put : {A : Type 0} → (List ℕ → A) → List ℕ → A → List ℕ → A
put f k x q = cond (bytes_eq k q) x (f q)
