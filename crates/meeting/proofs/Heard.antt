-- What is heard is what the text says, and all its votes up to the 64th are kept.
use Rattle.std.proofs.Common.{◌≡◌, ℕ, min, List, length, Some, None, Ok, Option, sym, refl, ap, ◌∙◌, arith, length-take}
use Rattle.std.specs.Option.{option_map}
use Rattle.format.specs.declared.votes.VoteText.{VoteText}
use Rattle.format.specs.Texts.{and_then}
use Rattle.reader.specs.declared.table.Entry.{Entry}
use Rattle.reader.specs.Tables.{table_of}
use Rattle.sheets.specs.declared.standard.StandardSheet.{StandardSheet}
use Rattle.sheets.specs.declared.standard.StandardSheet.TheVariants.{Mt565, Mt567}
use Rattle.sheets.specs.Standards.{sheet_of, rows_of}
use Rattle.message.specs.declared.instruction.Function.{Function}
use Rattle.message.specs.Instructions.{RightsText}
use Rattle.message.specs.Rows.{in565}
use Rattle.message.specs.Values.{values_of, reference_in, text_in, quantity_in}
use Rattle.message.specs.Voting.{votes_of, counted, votes_in}
use Rattle.message.specs.Instructing.{function_in, previous_in, isin_in, rights_in, instruction_in}
use Rattle.message.specs.Reporting.{status_in}
use Rattle.message.specs.Said.{Said, SaidInstruction, SaidStatus}
use Rattle.message.specs.Said.Said.{instructs, reports}
use Rattle.message.specs.Messages.{said_from, said}
use Rattle.meeting.specs.Kept.{Kept}
use Rattle.meeting.specs.Hearing.{Heard}

pub heard_said : (number : ℕ) (text : List ℕ) (room : ℕ) (m : Said) → Heard number text room (Ok m) → said number text ≡ Some m
heard_said number text room m h = h.2

-- the votes of an instruction are those that its parts have
votes_in_lem : (a : Option (List ℕ)) (b : Option (List ℕ)) (c : Option Function) (d : Option (Option (List ℕ))) (e : Option (List ℕ)) (f : Option (List ℕ)) (g : Option ℕ) (h : Option (List ℕ)) (i : Option ℕ) (v : Option (List VoteText × ℕ)) (r : Option RightsText) (m : SaidInstruction)
    → and_then a (λ event. and_then b (λ reference. and_then c (λ function. and_then d (λ previous. and_then e (λ isin. and_then f (λ account. and_then g (λ holding. and_then h (λ option. and_then i (λ quantity. and_then v (λ votes. Some (record { event = event; reference = reference; function = function; previous = previous; isin = isin; account = account; rights = r; holding = holding; option = option; quantity = quantity; votes = votes.0; count = votes.1 })))))))))))
    ≡ Some m → (w : List VoteText × ℕ) × (v ≡ Some w) × (m.votes ≡ w.0) × (m.count ≡ w.1)
votes_in_lem None b c d e f g h i v r m k = let z : ◌≡◌ {A = ℕ} 0 1 = cc in absurd (omega arith)
votes_in_lem (Some a) None c d e f g h i v r m k = let z : ◌≡◌ {A = ℕ} 0 1 = cc in absurd (omega arith)
votes_in_lem (Some a) (Some b) None d e f g h i v r m k = let z : ◌≡◌ {A = ℕ} 0 1 = cc in absurd (omega arith)
votes_in_lem (Some a) (Some b) (Some c) None e f g h i v r m k = let z : ◌≡◌ {A = ℕ} 0 1 = cc in absurd (omega arith)
votes_in_lem (Some a) (Some b) (Some c) (Some d) None f g h i v r m k = let z : ◌≡◌ {A = ℕ} 0 1 = cc in absurd (omega arith)
votes_in_lem (Some a) (Some b) (Some c) (Some d) (Some e) None g h i v r m k = let z : ◌≡◌ {A = ℕ} 0 1 = cc in absurd (omega arith)
votes_in_lem (Some a) (Some b) (Some c) (Some d) (Some e) (Some f) None h i v r m k = let z : ◌≡◌ {A = ℕ} 0 1 = cc in absurd (omega arith)
votes_in_lem (Some a) (Some b) (Some c) (Some d) (Some e) (Some f) (Some g) None i v r m k = let z : ◌≡◌ {A = ℕ} 0 1 = cc in absurd (omega arith)
votes_in_lem (Some a) (Some b) (Some c) (Some d) (Some e) (Some f) (Some g) (Some h) None v r m k = let z : ◌≡◌ {A = ℕ} 0 1 = cc in absurd (omega arith)
votes_in_lem (Some a) (Some b) (Some c) (Some d) (Some e) (Some f) (Some g) (Some h) (Some i) None r m k = let z : ◌≡◌ {A = ℕ} 0 1 = cc in absurd (omega arith)
votes_in_lem (Some a) (Some b) (Some c) (Some d) (Some e) (Some f) (Some g) (Some h) (Some i) (Some w) r m k =
    let s : SaidInstruction = record { event = a; reference = b; function = c; previous = d; isin = e; account = f; rights = r; holding = g; option = h; quantity = i; votes = w.0; count = w.1 } in
    let same : s ≡ m = cc in
    (w, refl, ap (λ (x : SaidInstruction). x.votes) (sym same), ap (λ (x : SaidInstruction). x.count) (sym same))

kept_counted : (o : Option (List VoteText)) (w : List VoteText × ℕ) → option_map counted o ≡ Some w → length w.0 ≡ min w.1 64
kept_counted None w e = let z : ◌≡◌ {A = ℕ} 0 1 = cc in absurd (omega arith)
kept_counted (Some ws) w e =
    let same : counted ws ≡ w = cc in
    ap (λ (x : List VoteText × ℕ). length x.0) (sym same) ∙ length-take 64 ws ∙ (let z : min 64 (length ws) ≡ min (length ws) 64 = omega arith in z) ∙ ap (λ (x : List VoteText × ℕ). min x.1 64) same

kept_instruction : (text : List ℕ) (es : List Entry) (m : SaidInstruction) → instruction_in text es ≡ Some m → length m.votes ≡ min m.count 64
kept_instruction text es m e =
    let p = votes_in_lem (reference_in text es (in565 "20C" "CORP")) (reference_in text es (in565 "20C" "SEME")) (function_in text es) (previous_in text es) (isin_in text es) (text_in text es (in565 "97A" "SAFE")) (quantity_in text es (in565 "36B" "OWND")) (text_in text es (in565 "13A" "CAON")) (quantity_in text es (in565 "36B" "QINS")) (votes_in text es) (rights_in text es) m e in
    let k = kept_counted (votes_of (values_of text es (in565 "70E" "INST").row)) p.0 p.1 in
    ap length p.2 ∙ k ∙ ap (λ (n : ℕ). min n 64) (sym p.3)

-- what is said is an instruction, or a status
from_instruction : (o : Option SaidInstruction) (m : Said) → option_map instructs o ≡ Some m → ((i : SaidInstruction) → o ≡ Some i → length i.votes ≡ min i.count 64) → Kept m
from_instruction None m e h = let z : ◌≡◌ {A = ℕ} 0 1 = cc in absurd (omega arith)
from_instruction (Some i) (instructs j) e h =
    let same : i ≡ j = cc in
    ap (λ (x : SaidInstruction). length x.votes) (sym same) ∙ h i refl ∙ ap (λ (x : SaidInstruction). min x.count 64) same
from_instruction (Some i) (reports s) e h = tt

from_status : (o : Option SaidStatus) (m : Said) → option_map reports o ≡ Some m → Kept m
from_status None m e = let z : ◌≡◌ {A = ℕ} 0 1 = cc in absurd (omega arith)
from_status (Some s) (instructs j) e = let z : ◌≡◌ {A = ℕ} 0 1 = cc in absurd (omega arith)
from_status (Some s) (reports t) e = tt

kept_from : (o : Option StandardSheet) (text : List ℕ) (m : Said) → and_then o (λ s. said_from s text (table_of (rows_of s) text)) ≡ Some m → Kept m
kept_from None text m e = let z : ◌≡◌ {A = ℕ} 0 1 = cc in absurd (omega arith)
kept_from (Some Mt565) text m e = from_instruction (instruction_in text (table_of (rows_of Mt565) text)) m e (kept_instruction text (table_of (rows_of Mt565) text))
kept_from (Some Mt567) text m e = from_status (status_in text (table_of (rows_of Mt567) text)) m e

pub kept : (number : ℕ) (text : List ℕ) (room : ℕ) (m : Said) → Heard number text room (Ok m) → Kept m
kept number text room m h = kept_from (sheet_of number) text m h.2
