-- What reading answers. Assumes nothing.
use Rattle.std.specs.Prelude.{ℕ, Bool, cond, List, length, Some, None, Ok, Err, Option, Result, nat_le}
use Rattle.fields.specs.declared.faults.TextFault.{TextFault}
use Rattle.fields.specs.declared.headers.Qualifier.{Qualifier}
use Rattle.fields.specs.Faults.{text_verdict}
use Rattle.fields.specs.Fields.{fields}
use Rattle.sheet.specs.Rows.{Row}
use Rattle.sheet.specs.Order.{order_fault}
use Rattle.reader.specs.declared.faults.ReadingFault.{ReadingFault}
use Rattle.reader.specs.declared.faults.ReadingFault.TheVariants.{Order, Value, Table}
use Rattle.reader.specs.declared.table.Entry.{Entry}
use Rattle.reader.specs.Faults.{of_text}
use Rattle.reader.specs.Values.{value_fault}
use Rattle.reader.specs.Tables.{table_of, filled}

-- which codes a row has under a qualifier
abbrev pub Codes : Type 0
Codes = ℕ → Option Qualifier → List ℕ → Bool

-- a fault at a place, where there is one
abbrev pub fault_at : {A : Type 0} → (ℕ → ReadingFault) → Option ℕ → Result A ReadingFault → Result A ReadingFault
fault_at fault None otherwise = otherwise
fault_at fault (Some place) otherwise = Err (fault place)

-- a fault of the text goes before any other
abbrev pub after_text : {A : Type 0} → Result (Unit {0}) TextFault → Result A ReadingFault → Result A ReadingFault
after_text (Ok u) otherwise = otherwise
after_text (Err e) otherwise = Err (of_text e)

-- the first of the questions about length, characters, lines, order and values that the text fails
abbrev pub sentence_verdict : List Row → Codes → List ℕ → Result (Unit {0}) ReadingFault
sentence_verdict rows codes text =
    after_text (text_verdict text) (fault_at Order (order_fault rows text) (fault_at Value (value_fault rows codes text) (Ok tt)))

-- and of those the last: has the table, with room for so many, an entry for each field?
abbrev pub room_verdict : ℕ → List ℕ → Result (Unit {0}) ReadingFault → Result ℕ ReadingFault
room_verdict room text (Ok u) = cond (nat_le (length (fields text)) room) (Ok (length (fields text))) (Err (Table (length text)))
room_verdict room text (Err e) = Err e

-- what reading answers: the number of fields, or the first fault
abbrev pub read_verdict : List Row → Codes → List ℕ → ℕ → Result ℕ ReadingFault
read_verdict rows codes text room = room_verdict room text (sentence_verdict rows codes text)

-- and what the table holds then: a refused reading leaves it as found
abbrev pub table_after : List Row → List ℕ → List Entry → Result ℕ ReadingFault → List Entry
table_after rows text table (Ok n) = filled (table_of rows text) table
table_after rows text table (Err e) = table
