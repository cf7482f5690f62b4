-- What writing answers and leaves, step by step. Assumes nothing.
use Rattle.std.proofs.Common.{◌≡◌, ℕ, List, length, Result}
use Rattle.sheet.specs.Rows.{Row}
use Rattle.reader.specs.declared.table.Entry.{Entry as TableEntry}
use Rattle.reader.specs.Reading.{Codes}
use Rattle.writer.specs.declared.faults.WritingFault.{WritingFault}
use Rattle.writer.specs.Spelling.{spelled_text}
use Rattle.writer.specs.Writing.{write_verdict, output_after}

module _ (rows : List Row) (codes : Codes) (entries : List TableEntry) (bytes : List ℕ) where
  -- the two halves of an outcome
  pub record Outcome (out after : List ℕ) (r : Result ℕ WritingFault) : Type 0 where
    pub value : r ≡ write_verdict rows codes entries bytes (length out)
    pub output : after ≡ output_after (spelled_text rows bytes entries) out r
