-- The number and the place of each fault of a writing. Assumes nothing.
use Rattle.std.specs.Prelude.{ℕ}
use Rattle.reader.specs.declared.faults.ReadingFault.{ReadingFault}
use Rattle.reader.specs.declared.faults.ReadingFault.TheVariants as RF
use Rattle.writer.specs.declared.faults.WritingFault.{WritingFault}
use Rattle.writer.specs.declared.faults.WritingFault.TheVariants.{MessageNumber, Entry, Length, Character, Line, Order, Value, Output}

-- the number of the question that is answered no
abbrev pub number_of : WritingFault → ℕ
number_of MessageNumber = 1
number_of (Entry index) = 8
number_of Length = 2
number_of (Character at) = 3
number_of (Line start) = 4
number_of (Order start) = 5
number_of (Value start) = 6
number_of Output = 9

-- the place where it is, 0 where none stands
abbrev pub place_of : WritingFault → ℕ
place_of MessageNumber = 0
place_of (Entry index) = index
place_of Length = 0
place_of (Character at) = at
place_of (Line start) = start
place_of (Order start) = start
place_of (Value start) = start
place_of Output = 0

-- a fault of the text spelled is the writing's. The check of a text never answers the first or the last of these.
abbrev pub of_reading : ReadingFault → WritingFault
of_reading RF.MessageNumber = MessageNumber
of_reading RF.Length = Length
of_reading (RF.Character at) = Character at
of_reading (RF.Line start) = Line start
of_reading (RF.Order start) = Order start
of_reading (RF.Value start) = Value start
of_reading (RF.Table len) = Output
