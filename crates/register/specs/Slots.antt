-- Slots that a caller lends, the first of them used. Assumes nothing.
use Rattle.std.specs.Prelude.{ℕ, min, List, length, take}
use Rattle.register.specs.declared.slots.Slots.{Slots}
use Rattle.register.specs.Pairs.{Pair}

-- the pairs in the used slots
abbrev pub held : Slots → List Pair
held s = take s.used s.slots.now

-- as many pairs as there are slots, and at most 1,024
abbrev pub room_in : Slots → ℕ
room_in s = min (length s.slots.now) 1024
