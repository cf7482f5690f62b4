-- What holds of the votes that a message keeps. Assumes nothing.
use Rattle.std.specs.Prelude.{◌≡◌, min, length}
use Rattle.message.specs.Said.{Said}
use Rattle.message.specs.Said.Said.{instructs, reports}

-- an instruction keeps all its votes up to the 64th
abbrev pub Kept : Said → Type 0
Kept (instructs m) = length m.votes ≡ min m.count 64
Kept (reports s) = Unit {0}
