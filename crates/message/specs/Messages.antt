-- What a text says as the message of a number, and what reading it answers and leaves. Assumes nothing.
use Rattle.std.specs.Prelude.{◌≡◌, ℕ, List, length, Some, None, Ok, Err, Option, Result}
use Rattle.std.specs.Option.{option_map}
use Rattle.format.specs.Texts.{and_then}
use Rattle.sheets.specs.declared.standard.StandardSheet.{StandardSheet}
use Rattle.sheets.specs.declared.standard.StandardSheet.TheVariants.{Mt565, Mt567}
use Rattle.sheets.specs.Standards.{sheet_of, rows_of, codes_of}
use Rattle.reader.specs.declared.faults.ReadingFault.{ReadingFault}
use Rattle.reader.specs.declared.faults.ReadingFault.TheVariants.{MessageNumber}
use Rattle.reader.specs.declared.table.Entry.{Entry}
use Rattle.reader.specs.Reading.{read_verdict, table_after}
use Rattle.reader.specs.Tables.{table_of}
use Rattle.message.specs.declared.message.Message.{Message}
use Rattle.message.specs.Instructing.{instruction_in}
use Rattle.message.specs.Reporting.{status_in}
use Rattle.message.specs.Said.{Said, said_by}
use Rattle.message.specs.Said.Said.{instructs, reports}

-- what a text says by a sheet and a field table
abbrev pub said_from : StandardSheet → List ℕ → List Entry → Option Said
said_from Mt565 text es = option_map instructs (instruction_in text es)
said_from Mt567 text es = option_map reports (status_in text es)

-- what a text says as the message of a number, by its own field table; nothing, where the number has no sheet
abbrev pub said : ℕ → List ℕ → Option Said
said number text = and_then (sheet_of number) (λ s. said_from s text (table_of (rows_of s) text))

-- what reading it answers, with room for so many fields
abbrev pub verdict_by : Option StandardSheet → List ℕ → ℕ → Result ℕ ReadingFault
verdict_by None text room = Err MessageNumber
verdict_by (Some s) text room = read_verdict (rows_of s) (codes_of s) text room

abbrev pub verdict : ℕ → List ℕ → ℕ → Result ℕ ReadingFault
verdict number text room = verdict_by (sheet_of number) text room

-- and what the table holds then: as found, where the text is refused or the number has no sheet
abbrev pub table_by : Option StandardSheet → List ℕ → List Entry → List Entry
table_by None text table = table
table_by (Some s) text table = table_after (rows_of s) text table (verdict_by (Some s) text (length table))

abbrev pub table_left : ℕ → List ℕ → List Entry → List Entry
table_left number text table = table_by (sheet_of number) text table

-- a message is answered where the text is read, and it is what the text says; else the fault with which the text is refused
abbrev pub MessageRead : ℕ → List ℕ → ℕ → Result Message ReadingFault → Type 0
MessageRead number text room (Ok m) = (n : ℕ) × (verdict number text room ≡ Ok n) × (said number text ≡ Some (said_by m))
MessageRead number text room (Err f) = verdict number text room ≡ Err f
