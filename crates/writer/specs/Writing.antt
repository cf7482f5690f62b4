-- What writing answers, and what the output holds then. Assumes nothing.
use Rattle.std.specs.Prelude.{◌≡◌, ℕ, cond, List, ◌++◌, length, drop, replicate, Some, None, Ok, Err, Option, Result, nat_le}
use Rattle.sheet.specs.Rows.{Row}
use Rattle.reader.specs.declared.faults.ReadingFault.{ReadingFault}
use Rattle.reader.specs.declared.table.Entry.{Entry as TableEntry}
use Rattle.reader.specs.Reading.{Codes, sentence_verdict}
use Rattle.writer.specs.declared.faults.WritingFault.{WritingFault}
use Rattle.writer.specs.declared.faults.WritingFault.TheVariants.{Entry, Output}
use Rattle.short.specs.Short.{Short}
use Rattle.writer.specs.Faults.{of_reading}
use Rattle.writer.specs.Entries.{entry_fault}
use Rattle.writer.specs.Spelling.{spelled_text}

-- an entry that cannot be spelled is a fault
abbrev pub entries_verdict : Option ℕ → Result (Unit {0}) WritingFault
entries_verdict None = Ok tt
entries_verdict (Some k) = Err (Entry k)

-- a fault of an entry goes before one of the text spelled
abbrev pub after_entries : Option ℕ → Result (Unit {0}) ReadingFault → Result (Unit {0}) WritingFault
after_entries (Some k) sentence = Err (Entry k)
after_entries None (Ok u) = Ok u
after_entries None (Err e) = Err (of_reading e)

-- the first of the questions about the entries and the text they spell that is answered no
abbrev pub spell_verdict : List Row → Codes → List TableEntry → List ℕ → Result (Unit {0}) WritingFault
spell_verdict rows codes entries bytes =
    after_entries (entry_fault rows bytes entries) (sentence_verdict rows codes (spelled_text rows bytes entries))

-- so it is answered; and where all are answered yes, the text stands in the scratch
abbrev pub Spells : List Row → Codes → List TableEntry → List ℕ → Result (Short ℕ) WritingFault → Type 0
Spells rows codes entries bytes (Ok scratch) =
    (Ok tt ≡ spell_verdict rows codes entries bytes) × (scratch.items ≡ spelled_text rows bytes entries)
Spells rows codes entries bytes (Err e) = Err e ≡ spell_verdict rows codes entries bytes

-- and the last: does an output of so many bytes hold a text of this length?
abbrev pub room_verdict : ℕ → ℕ → Result ℕ WritingFault
room_verdict room len = cond (nat_le len room) (Ok len) (Err Output)

abbrev pub after_spelling : ℕ → ℕ → Result (Unit {0}) WritingFault → Result ℕ WritingFault
after_spelling room len (Ok u) = room_verdict room len
after_spelling room len (Err e) = Err e

-- what writing answers: the length of the text, or the first fault
abbrev pub write_verdict : List Row → Codes → List TableEntry → List ℕ → ℕ → Result ℕ WritingFault
write_verdict rows codes entries bytes room =
    after_spelling room (length (spelled_text rows bytes entries)) (spell_verdict rows codes entries bytes)

-- and what the output holds then: the text and behind it what stood there; zeros throughout where no text was finished
abbrev pub output_after : {E : Type 0} → List ℕ → List ℕ → Result ℕ E → List ℕ
output_after text out (Ok n) = text ++ drop (length text) out
output_after text out (Err e) = replicate (length out) 0
