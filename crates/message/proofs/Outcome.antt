-- A text that is read says something, by the entries that reading finds. Assumes nothing.
use Rattle.std.proofs.Common.{◌≡◌, ℕ, true, List, length, take, is_some, Some, None, Ok, Err, Option, Result, sym, refl, ap, ◌∙◌}
use Rattle.std.specs.Option.{option_map}
use Rattle.fields.specs.declared.faults.TextFault.{TextFault}
use Rattle.fields.specs.Faults.{text_verdict}
use Rattle.format.specs.Texts.{and_then}
use Rattle.sheet.specs.Rows.{Row}
use Rattle.sheet.specs.Order.{order_fault}
use Rattle.sheets.specs.declared.standard.StandardSheet.{StandardSheet}
use Rattle.sheets.specs.declared.standard.StandardSheet.TheVariants.{Mt565, Mt567}
use Rattle.sheets.specs.Lawful.{all_lawful}
use Rattle.sheets.specs.Standards.{sheet_of, rows_of, codes_of}
use Rattle.reader.specs.declared.faults.ReadingFault.TheVariants.{MessageNumber, Order, Value}
use Rattle.reader.specs.declared.table.Entry.{Entry}
use Rattle.reader.specs.Numbers.{ReadsNumbered}
use Rattle.reader.specs.Reading.{Codes, fault_at, after_text, room_verdict, read_verdict, table_after}
use Rattle.reader.specs.Tables.{table_of}
use Rattle.reader.specs.Values.{value_fault}
use Rattle.reader.proofs.Tables.{table_only}
use Rattle.message.specs.declared.message.Message.{Message}
use Rattle.message.specs.Said.{said_by}
use Rattle.message.specs.Messages.{said_from, said, verdict_by, verdict, table_by, table_left}
use Rattle.message.proofs.Decoding.{mapped_there}
use Rattle.message.proofs.Instructed.{instruction_there}
use Rattle.message.proofs.Never.{err_ok}
use Rattle.message.proofs.Reported.{status_there}

-- a text that is read has a good order and good values
passed : (rows : List Row) (codes : Codes) (text : List ℕ) (room n : ℕ) → read_verdict rows codes text room ≡ Ok n
    → (order_fault rows text ≡ None) × (value_fault rows codes text ≡ None)
passed rows codes text room n e = by (text_verdict text) (order_fault rows text) (value_fault rows codes text) refl refl e
  where
    by : (t : Result (Unit {0}) TextFault) (o v : Option ℕ) → order_fault rows text ≡ o → value_fault rows codes text ≡ v
        → room_verdict room text (after_text t (fault_at Order o (fault_at Value v (Ok tt)))) ≡ Ok n
        → (order_fault rows text ≡ None) × (value_fault rows codes text ≡ None)
    by (Err f) o v p q e = err_ok n _ e
    by (Ok u) (Some at) v p q e = err_ok n _ e
    by (Ok u) None (Some at) p q e = err_ok n _ e
    by (Ok u) None None p q e = (p, q)

-- by its sheet, it says something
said_there : (s : StandardSheet) (text : List ℕ) (room n : ℕ) → read_verdict (rows_of s) (codes_of s) text room ≡ Ok n
    → is_some (said_from s text (table_of (rows_of s) text)) ≡ true
said_there Mt565 text room n e =
    let p = passed (rows_of Mt565) (codes_of Mt565) text room n e in mapped_there _ _ (instruction_there text p.0 p.1)
said_there Mt567 text room n e =
    let p = passed (rows_of Mt567) (codes_of Mt567) text room n e in mapped_there _ _ (status_there text p.0 p.1)

pub said_something : (o : Option Message) → is_some (option_map said_by o) ≡ true → is_some o ≡ true
said_something None h = h
said_something (Some m) h = refl

-- what is known where a text is read: the verdict, the table, and that what the entries found say is what the text says, which is something
pub record Read (number : ℕ) (text : List ℕ) (table after : List Entry) (n : ℕ) : Type 0 where
  pub value : verdict number text (length table) ≡ Ok n
  pub entries : after ≡ table_left number text table
  pub same : and_then (sheet_of number) (λ s. said_from s text (take n after)) ≡ said number text
  pub there : is_some (said number text) ≡ true

pub has_read : (number : ℕ) (text : List ℕ) (table after : List Entry) (n : ℕ) → ReadsNumbered (sheet_of number) text table after (Ok n)
    → Read number text table after n
has_read number text table after n h =
    let b = by (sheet_of number) h in record { value = b.0; entries = b.1; same = b.2; there = b.3 }
  where
    by : (o : Option StandardSheet) → ReadsNumbered o text table after (Ok n)
        → (verdict_by o text (length table) ≡ Ok n) × (after ≡ table_by o text table)
        × (and_then o (λ s. said_from s text (take n after)) ≡ and_then o (λ s. said_from s text (table_of (rows_of s) text)))
        × (is_some (and_then o (λ s. said_from s text (table_of (rows_of s) text))) ≡ true)
    by None h = err_ok n MessageNumber (sym h.0)
    by (Some s) h =
        let e : verdict_by (Some s) text (length table) ≡ Ok n = sym h.value in (
          e,
          h.entries ∙ ap (table_after (rows_of s) text table) h.value,
          ap (said_from s text) (table_only (rows_of s) (all_lawful s) text (take n after) (h.allowed n refl)),
          said_there s text (length table) n e,
        )
