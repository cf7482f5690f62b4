-- The questions put to a message by itself, and what it orders. Assumes nothing.
use Rattle.std.specs.Prelude.{◌≡◌, ℕ, ◌≤◌, Bool, true, false, cond, ◌&&◌, List, [], ◌∷◌, Some, None, Option, ◌==◌, nat_le}
use Rattle.std.specs.Option.{option_map}
use Rattle.std.specs.Str.{bytes_eq}
use Rattle.message.specs.Instructions.{RightsText}
use Rattle.message.specs.declared.instruction.Function.{Function}
use Rattle.message.specs.declared.instruction.Function.TheVariants.{New, Cancel}
use Rattle.message.specs.declared.status.Process.{Process}
use Rattle.message.specs.declared.status.Process.TheVariants.{Instruction, Cancellation}
use Rattle.message.specs.Said.{Said, SaidInstruction, SaidStatus}
use Rattle.message.specs.Said.Said.{instructs, reports}
use Rattle.agenda.specs.Casting.{cast_votes, bad_vote, VotesJudged}
use Rattle.agenda.specs.Sums.{unbalanced, SumsJudged}
use Rattle.book.specs.declared.faults.BookFault.{BookFault}
use Rattle.book.specs.declared.faults.BookFault.TheVariants.{Event, Content, Vote, Sum}
use Rattle.book.specs.Book.{Terms}
use Rattle.book.specs.Orders.{Ordered, Claimed}
use Rattle.book.specs.Orders.Ordered.{lodge, cancel, report}
use Rattle.book.specs.Questions.{Question, ask}
use Rattle.meeting.specs.Notices.{Notice}

-- WHAT A MESSAGE ORDERS

-- what an instruction is for: a new one, in place of that one if any; or the cancellation of that one
pub data Purpose : Type 0 where
  lodges : Option (List ℕ) → Purpose
  cancels : List ℕ → Purpose

-- a new instruction has a vote; a cancellation names the instruction that it is about, and has none
abbrev pub purpose_of : Function → Option (List ℕ) → ℕ → Option Purpose
purpose_of New previous count = cond (nat_le 1 count) (Some (lodges previous)) None
purpose_of Cancel None count = None
purpose_of Cancel (Some p) count = cond (count == 0) (Some (cancels p)) None

-- its rights identifier and its purpose, where it has one of each and the quantity is the holding
abbrev pub form_with : Bool → Option RightsText → Option Purpose → Option (RightsText × Purpose)
form_with false rights purpose = None
form_with true None purpose = None
form_with true (Some r) None = None
form_with true (Some r) (Some p) = Some (r, p)

abbrev pub form : SaidInstruction → Option (RightsText × Purpose)
form m = form_with (m.quantity == m.holding) m.rights (purpose_of m.function m.previous m.count)

-- what an instruction is lodged with, and what a cancellation claims
abbrev pub terms : SaidInstruction → RightsText → Terms
terms m r =
    record {
      reference = m.reference;
      rights = r;
      account = m.account;
      option = m.option;
      holding = m.holding;
      votes = cast_votes m.votes;
    }

abbrev pub claim : SaidInstruction → RightsText → Claimed
claim m r = record { rights = r; account = m.account; option = m.option; holding = m.holding }

abbrev pub purposed : SaidInstruction → RightsText → Purpose → Ordered
purposed m r (lodges p) = lodge (terms m r) p
purposed m r (cancels p) = cancel p (claim m r)

abbrev pub order_from : SaidInstruction → RightsText × Purpose → Ordered
order_from m f = purposed m f.0 f.1

-- what a message orders, where it says what its function asks for
abbrev pub order_of : Said → Option Ordered
order_of (instructs m) = option_map (order_from m) (form m)
order_of (reports s) = Some (report s.related s.function s.code)

-- THE QUESTIONS

-- An instruction says what its function asks for: one rights identifier; a quantity equal to the holding; as a new one a vote, as a
-- cancellation the instruction that it is about, and no vote.
pub record InForm (m : SaidInstruction) : Type 0 where
  pub rights : (r : RightsText) × (m.rights ≡ Some r)
  pub quantity : m.quantity ≡ m.holding
  pub new : m.function ≡ New → 1 ≤ m.count
  pub cancel : m.function ≡ Cancel → ((p : List ℕ) × (m.previous ≡ Some p)) × (m.count ≡ 0)

-- a status stands under the process that its function is about, and its reasons under its code
pub record StatusInForm (s : SaidStatus) : Type 0 where
  pub process : s.process ≡ s.function
  pub reasons : s.agree ≡ true

-- each vote is good; or this is the first that is not
abbrev pub votes_question : Notice → SaidInstruction → Question
votes_question n m = (
  VotesJudged n.agenda m.votes m.count None,
  λ f. (k : ℕ) × VotesJudged n.agenda m.votes m.count (Some k) × (f ≡ Vote k),
)

-- the sums hold; or this is the least question on which they do not
abbrev pub sums_question : Notice → SaidInstruction → Question
sums_question n m = (
  SumsJudged n.agenda m.holding (cast_votes m.votes) None,
  λ f. (q : ℕ) × SumsJudged n.agenda m.holding (cast_votes m.votes) (Some q) × (f ≡ Sum q),
)

-- the questions put to a message by itself, in their order
abbrev pub about_message : Notice → Said → List Question
about_message n (instructs m) =
    ask Event ((m.event ≡ n.event) × (m.isin ≡ n.isin)) ∷ ask Content (InForm m) ∷ votes_question n m ∷ sums_question n m ∷ []
about_message n (reports s) = ask Event (s.event ≡ n.event) ∷ ask Content (StatusInForm s) ∷ []

-- COMPUTED: WHY A MESSAGE IS REFUSED BY ITSELF

abbrev pub votes_fault : Option ℕ → Option ℕ → Option BookFault
votes_fault (Some k) sum = Some (Vote k)
votes_fault None (Some q) = Some (Sum q)
votes_fault None None = None

abbrev pub form_fault : Notice → SaidInstruction → Option (RightsText × Purpose) → Option BookFault
form_fault n m None = Some Content
form_fault n m (Some f) = votes_fault (bad_vote n.agenda m.votes m.count) (unbalanced n.agenda m.holding (cast_votes m.votes))

abbrev pub instruction_fault : Notice → SaidInstruction → Option BookFault
instruction_fault n m = cond (bytes_eq m.event n.event && bytes_eq m.isin n.isin) (form_fault n m (form m)) (Some Event)

abbrev pub same_process : Process → Process → Bool
same_process Instruction Instruction = true
same_process Instruction Cancellation = false
same_process Cancellation Instruction = false
same_process Cancellation Cancellation = true

abbrev pub status_fault : Notice → SaidStatus → Option BookFault
status_fault n s = cond (bytes_eq s.event n.event) (cond (same_process s.process s.function && s.agree) None (Some Content)) (Some Event)

abbrev pub message_fault : Notice → Said → Option BookFault
message_fault n (instructs m) = instruction_fault n m
message_fault n (reports s) = status_fault n s
