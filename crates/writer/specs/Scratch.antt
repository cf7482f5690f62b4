-- Putting a text behind what is spelled, of at most 10,000 bytes. Assumes nothing.
use Rattle.std.specs.Prelude.{◌≡◌, ℕ, ◌+◌, ◌<◌, List, ◌++◌, length, Ok, Err, Result}
use Rattle.short.specs.declared.short.Full.{Full}

-- more is put behind what stood before; or there is no room for both
abbrev pub Puts : List ℕ → List ℕ → List ℕ → Result (Unit {0}) Full → Type 0
Puts before more after (Err e) = 10000 < length before + length more
Puts before more after (Ok u) = after ≡ before ++ more
