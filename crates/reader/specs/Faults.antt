-- The number and the place of each fault of a reading. Assumes nothing.
use Rattle.std.specs.Prelude.{ℕ}
use Rattle.fields.specs.declared.faults.TextFault.{TextFault}
use Rattle.fields.specs.declared.faults.TextFault.TheVariants as TF
use Rattle.reader.specs.declared.faults.ReadingFault.{ReadingFault}
use Rattle.reader.specs.declared.faults.ReadingFault.TheVariants.{MessageNumber, Length, Character, Line, Order, Value, Table}

-- the number of the question that is answered no
abbrev pub number_of : ReadingFault → ℕ
number_of MessageNumber = 1
number_of Length = 2
number_of (Character at) = 3
number_of (Line start) = 4
number_of (Order start) = 5
number_of (Value start) = 6
number_of (Table len) = 7

-- the place where it is, 0 where none stands
abbrev pub place_of : ReadingFault → ℕ
place_of MessageNumber = 0
place_of Length = 0
place_of (Character at) = at
place_of (Line start) = start
place_of (Order start) = start
place_of (Value start) = start
place_of (Table len) = len

-- a fault of the text is the reading's
abbrev pub of_text : TextFault → ReadingFault
of_text TF.Length = Length
of_text (TF.Character at) = Character at
of_text (TF.Line start) = Line start
