-- What slots show of what they hold. Assumes nothing.
use Rattle.std.specs.Prelude.{◌≤◌, length}
use Rattle.std.proofs.Common.{arith, length-take}
use Rattle.register.specs.declared.slots.Slots.{Slots}
use Rattle.register.specs.Slots.{held, room_in}

-- no more pairs than there is room for
pub held_within : (s : Slots) → length (held s) ≤ room_in s
held_within s = let h = s.within in omega (arith, length-take s.used s.slots.now)

-- room for at most 1,024
pub room_bounded : (s : Slots) → room_in s ≤ 1024
room_bounded s = omega arith
