-- What a text is heard to say, as the message of a number. Assumes nothing.
use Rattle.std.specs.Prelude.{◌≡◌, ℕ, List, Some, Ok, Err, Result}
use Rattle.reader.specs.declared.faults.ReadingFault.{ReadingFault}
use Rattle.message.specs.Said.{Said}
use Rattle.message.specs.Messages.{said, verdict}

-- what the message says, where the text is read into a table of so many entries; else the first question about the text that is answered no
abbrev pub Heard : ℕ → List ℕ → ℕ → Result Said ReadingFault → Type 0
Heard number text room (Ok m) = (n : ℕ) × (verdict number text room ≡ Ok n) × (said number text ≡ Some m)
Heard number text room (Err f) = verdict number text room ≡ Err f
