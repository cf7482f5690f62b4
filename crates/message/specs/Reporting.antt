-- What the text of a status says, by its field table. Assumes nothing.
use Rattle.std.specs.Prelude.{ℕ, Bool, true, cond, ◌&&◌, List, [], ◌∷◌, take, Some, None, codes, Option, ◌==◌}
use Rattle.std.specs.Borrow.{Bor}
use Rattle.std.specs.Str.{bytes_eq}
use Rattle.format.specs.Texts.{and_then, or_else, stands_for}
use Rattle.reader.specs.declared.table.Entry.{Entry}
use Rattle.reader.specs.Values.{content_of}
use Rattle.sheets.specs.Tables.{rows567}
use Rattle.sheets.specs.Words.{qualifier}
use Rattle.message.specs.declared.status.Process.{Process}
use Rattle.message.specs.declared.status.Process.TheVariants.{Instruction, Cancellation}
use Rattle.message.specs.declared.status.StatusCode.{StatusCode}
use Rattle.message.specs.declared.status.StatusCode.TheVariants.{Cancelled, CancellationPending, DefaultAction, Accepted, Pending, Rejected, StandingInstruction}
use Rattle.message.specs.Rows.{row_of, in567}
use Rattle.message.specs.Said.{SaidStatus}
use Rattle.message.specs.Values.{value_at, values_of, value_of, reference_in}

-- 23G: what the status is of
abbrev pub function_of : List ℕ → Option Process
function_of v = cond (bytes_eq v (codes "INST")) (Some Instruction) (cond (bytes_eq v (codes "CAST")) (Some Cancellation) None)

abbrev pub function_in : List ℕ → List Entry → Option Process
function_in text es = and_then (value_of text es (row_of rows567 "23G" None)) function_of

-- 25D: the process, by the qualifier, and the code behind it
abbrev pub process_of : List ℕ → Option (Process × List ℕ)
process_of v =
    or_else (stands_for Instruction (content_of (Some (qualifier "IPRC")) v)) (stands_for Cancellation (content_of (Some (qualifier "CPRC")) v))

-- a code that is held by a reference
abbrev pub held_process : Process × Bor (List ℕ) → Process × List ℕ
held_process p = (p.0, p.1.now)

abbrev pub process_in : List ℕ → List Entry → Option (Process × List ℕ)
process_in text es = and_then (value_of text es (in567 "25D" "IPRC").row) process_of

-- what the code says
abbrev pub code_of : List ℕ → Option StatusCode
code_of c =
    cond (bytes_eq c (codes "CAND")) (Some Cancelled)
    (cond (bytes_eq c (codes "CANP")) (Some CancellationPending)
    (cond (bytes_eq c (codes "DFLA")) (Some DefaultAction)
    (cond (bytes_eq c (codes "PACK")) (Some Accepted)
    (cond (bytes_eq c (codes "PEND")) (Some Pending)
    (cond (bytes_eq c (codes "REJT")) (Some Rejected)
    (cond (bytes_eq c (codes "STIN")) (Some StandingInstruction) None))))))

-- 24B: is the qualifier of each of the values the code?
abbrev pub all_under : List ℕ → List (List ℕ) → Bool
all_under code [] = true
all_under code (v ∷ vs) = bytes_eq (take 4 v) code && all_under code vs

-- the same of an entry, if it is of 24B; and of all entries
abbrev pub entry_under : List ℕ → List ℕ → Entry → Bool
entry_under text code e = cond (e.row == (in567 "24B" "PEND").row) (bytes_eq (take 4 (value_at text e)) code) true

abbrev pub agree_in : List ℕ → List Entry → List ℕ → Bool
agree_in text es code = all_under code (values_of text es (in567 "24B" "PEND").row)

-- all parts, one after the other; nothing, where one of them cannot be read
abbrev pub status_in : List ℕ → List Entry → Option SaidStatus
status_in text es =
    and_then (reference_in text es (in567 "20C" "CORP")) (λ event.
    and_then (function_in text es) (λ function.
    and_then (reference_in text es (in567 "20C" "RELA")) (λ related.
    and_then (process_in text es) (λ status.
    and_then (code_of status.1) (λ code.
    Some (record {
      event = event;
      function = function;
      related = related;
      process = status.0;
      code = code;
      agree = agree_in text es status.1;
    }))))))
