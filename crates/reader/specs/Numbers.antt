-- Reading the message of a number. Assumes nothing.
use Rattle.std.specs.Prelude.{◌≡◌, ℕ, List, Some, None, Err, Option, Result}
use Rattle.sheets.specs.declared.standard.StandardSheet.{StandardSheet}
use Rattle.sheets.specs.Standards.{rows_of, codes_of}
use Rattle.reader.specs.declared.faults.ReadingFault.{ReadingFault}
use Rattle.reader.specs.declared.faults.ReadingFault.TheVariants.{MessageNumber}
use Rattle.reader.specs.declared.table.Entry.{Entry}
use Rattle.reader.specs.Laws.{Reads}

-- a number that has no sheet is refused, and the table is as found; any other is read by its sheet
abbrev pub ReadsNumbered : Option StandardSheet → List ℕ → (table after : List Entry) → Result ℕ ReadingFault → Type 0
ReadsNumbered None text table after r = (r ≡ Err MessageNumber) × (after ≡ table)
ReadsNumbered (Some s) text table after r = Reads (rows_of s) (codes_of s) text table after r
