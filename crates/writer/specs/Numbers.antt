-- Writing and filing the message of a number. Assumes nothing.
use Rattle.std.specs.Prelude.{◌≡◌, ℕ, List, length, replicate, Some, None, Err, Option, Result}
use Rattle.sheets.specs.declared.standard.StandardSheet.{StandardSheet}
use Rattle.sheets.specs.Standards.{rows_of, codes_of}
use Rattle.reader.specs.declared.faults.ReadingFault.TheVariants as RF
use Rattle.reader.specs.declared.table.Entry.{Entry}
use Rattle.writer.specs.declared.faults.WritingFault.{WritingFault}
use Rattle.writer.specs.declared.faults.WritingFault.TheVariants.{MessageNumber}
use Rattle.writer.specs.declared.filing.FilingFault.{FilingFault}
use Rattle.writer.specs.declared.filing.FilingFault.TheVariants.{Reading}
use Rattle.writer.specs.Laws.{Writes}
use Rattle.writer.specs.Filing.{Refiles}

-- a number that has no sheet is refused, and the output is zeros throughout; any other is written by its sheet
abbrev pub WritesNumbered : Option StandardSheet → List Entry → (bytes out after : List ℕ) → Result ℕ WritingFault → Type 0
WritesNumbered None entries bytes out after r = (r ≡ Err MessageNumber) × (after ≡ replicate (length out) 0)
WritesNumbered (Some s) entries bytes out after r = Writes (rows_of s) (codes_of s) entries bytes out after r

-- the same of filing, which leaves the table as found then
abbrev pub RefilesNumbered : Option StandardSheet → List ℕ → (table entries : List Entry) → (out after : List ℕ) → Result ℕ FilingFault → Type 0
RefilesNumbered None text table entries out after r =
    (r ≡ Err (Reading RF.MessageNumber)) × (entries ≡ table) × (after ≡ replicate (length out) 0)
RefilesNumbered (Some s) text table entries out after r = Refiles (rows_of s) (codes_of s) text table entries out after r
