-- Filing a text that was read: it is written again from the table that reading found. Assumes nothing.
use Rattle.std.specs.Prelude.{◌≡◌, ℕ, ◌<◌, ◌≤◌, cond, List, ◌++◌, length, take, drop, Ok, Err, Result, nat_le}
use Rattle.fields.specs.Fields.{fields}
use Rattle.sheet.specs.Rows.{Row}
use Rattle.reader.specs.declared.faults.ReadingFault.{ReadingFault}
use Rattle.reader.specs.declared.table.Entry.{Entry}
use Rattle.reader.specs.Reading.{Codes, read_verdict, table_after}
use Rattle.reader.specs.Tables.{table_of}
use Rattle.reader.specs.Laws.{TextSentence}
use Rattle.writer.specs.declared.faults.WritingFault.{WritingFault}
use Rattle.writer.specs.declared.faults.WritingFault.TheVariants.{Output}
use Rattle.writer.specs.declared.filing.FilingFault.{FilingFault}
use Rattle.writer.specs.declared.filing.FilingFault.TheVariants.{Reading, Writing}
use Rattle.writer.specs.Spelling.{spelled_text}
use Rattle.writer.specs.Writing.{room_verdict, write_verdict, output_after}
use Rattle.writer.specs.Laws.{AllGood}

-- what filing answers, by what reading answers: the length of the text, or that an output of so many bytes does not hold it
abbrev pub file_verdict : ℕ → ℕ → Result ℕ ReadingFault → Result ℕ FilingFault
file_verdict room len (Ok n) = cond (nat_le len room) (Ok len) (Err (Writing Output))
file_verdict room len (Err e) = Err (Reading e)

-- A sentence's table is made of good entries, and spells the sentence: writing it fails for want of room alone.
pub record Inverse (rows : List Row) (codes : Codes) (text : List ℕ) : Type 0 where
  pub good : AllGood rows text (table_of rows text)
  pub same : spelled_text rows text (table_of rows text) ≡ text
  pub written : (room : ℕ) → write_verdict rows codes (table_of rows text) text room ≡ room_verdict room (length text)

-- What filing a text, over a table and an output, answers and leaves.
pub record Refiles (rows : List Row) (codes : Codes) (text : List ℕ) (table entries : List Entry) (out after : List ℕ) (r : Result ℕ FilingFault) : Type 0 where
  -- the outcome: the answer, every entry of the table and every byte of the output
  pub value : r ≡ file_verdict (length out) (length text) (read_verdict rows codes text (length table))
  pub table_after : entries ≡ table_after rows text table (read_verdict rows codes text (length table))
  pub output : after ≡ output_after text out r
  -- writing the table of a sentence gives the sentence
  pub inverse : TextSentence rows codes text → Inverse rows codes text
  -- every sentence is filed unchanged, given room in the table and in the output
  pub files : TextSentence rows codes text → length (fields text) ≤ length table → length text ≤ length out
      → (r ≡ Ok (length text)) × (after ≡ text ++ drop (length text) out)
  -- whatever is filed is the text, and a sentence
  pub filed : (n : ℕ) → r ≡ Ok n → TextSentence rows codes text × (n ≡ length text) × (take n after ≡ text)
  -- once the text is read, only the output can be too short for it
  pub only_room : (f : WritingFault) → r ≡ Err (Writing f) → TextSentence rows codes text × (f ≡ Output) × (length out < length text)
