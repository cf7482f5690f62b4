-- Taking a message: all questions that are put to it, and what it leaves. Assumes nothing.
use Rattle.std.specs.Prelude.{◌≡◌, ℕ, List, [], ◌++◌, Some, None, Ok, Err, Option, Result}
use Rattle.reader.specs.declared.faults.ReadingFault.{ReadingFault}
use Rattle.message.specs.Said.{Said}
use Rattle.meeting.specs.Hearing.{Heard}
use Rattle.tally.specs.Scale.{Scale}
use Rattle.book.specs.declared.acting.Taken.{Taken}
use Rattle.book.specs.declared.faults.BookFault.{BookFault}
use Rattle.book.specs.declared.faults.BookFault.TheVariants.{Reading}
use Rattle.book.specs.Book.{Instruction, Situation, found}
use Rattle.book.specs.Orders.{Ordered}
use Rattle.book.specs.Questions.{Question, Outcome, questions, refusal}
use Rattle.book.specs.Verdicts.{verdict, shared_in}
use Rattle.book.specs.Storage.{Acted}
use Rattle.book.specs.Deeds.{Deed, deed, deed_of}
use Rattle.meeting.specs.Notices.{Notice}
use Rattle.meeting.specs.Messages.{about_message, message_fault, order_of}

-- the questions put to what a message orders, if it orders anything
abbrev pub about_order : (List ℕ → Option Instruction) → ℕ → ℕ → Option Ordered → List Question
about_order b standing room None = []
about_order b standing room (Some o) = questions b standing room o

-- all questions put to a message that is read, in their order
abbrev pub all_questions : {V : Type 0} → Notice → ℕ → Situation V → Said → List Question
all_questions n room s m = about_message n m ++ about_order (found s) s.view.size room (order_of m)

-- computed: the fault of the message by itself, or else that of what it orders
abbrev pub or_else : Option BookFault → Option BookFault → Option BookFault
or_else (Some f) later = Some f
or_else None later = later

abbrev pub order_fault : {V : Type 0} → ℕ → Situation V → Option Ordered → Option BookFault
order_fault room s None = None
order_fault room s (Some o) = verdict (found s) (shared_in s.records) s.view.size room o

abbrev pub take_fault : {V : Type 0} → Notice → ℕ → Situation V → Said → Option BookFault
take_fault n room s m = or_else (message_fault n m) (order_fault room s (order_of m))

-- what a taken message did
abbrev pub done : Result Taken BookFault → Result Deed BookFault
done (Ok d) = Ok (deed d)
done (Err f) = Err f

-- what a taking leaves: a refused one everything as it was, another what its message orders
abbrev pub Leaves : {V : Type 0} → Scale V → Situation V → Option Ordered → Option BookFault → Situation V → Type 0
Leaves scale s o (Some f) t = t ≡ s
Leaves scale s None None t = ⊥
Leaves scale s (Some o) None t = Acted scale s o t

-- what it answers: what its message does
abbrev pub Answers : Option Ordered → Result Deed BookFault → Type 0
Answers None (Ok d) = ⊥
Answers (Some o) (Ok d) = d ≡ deed_of o
Answers o (Err f) = Unit {0}

-- the taking of a message that is read, where there is room for so many to stand
pub record TakesMessage {V : Type 0} (scale : Scale V) (n : Notice) (room : ℕ) (s : Situation V) (m : Said) (a : Result Deed BookFault) (t : Situation V) : Type 0 where
  -- refused by this fault, if it is
  pub value : refusal a ≡ take_fault n room s m
  -- which is the first question answered no
  pub outcome : Outcome (all_questions n room s m) (refusal a)
  pub answers : Answers (order_of m) a
  pub leaves : Leaves scale s (order_of m) (refusal a) t

-- a text that is not read is refused with the reading's fault, and leaves everything as it was; another is taken as its message is
abbrev pub TakesHeard : {V : Type 0} → Scale V → Notice → ℕ → Situation V → Result Said ReadingFault → Result Deed BookFault → Situation V → Type 0
TakesHeard scale n room s (Err f) a t = (a ≡ Err (Reading f)) × (t ≡ s)
TakesHeard scale n room s (Ok m) a t = TakesMessage scale n room s m a t

-- the taking of a text, with a field table of so many entries
pub record Taking {V : Type 0} (scale : Scale V) (n : Notice) (room : ℕ) (entries : ℕ) (s : Situation V) (number : ℕ) (text : List ℕ) (a : Result Deed BookFault) (t : Situation V) : Type 0 where
  -- what is read: what the message says, or the first question about the text that is answered no
  pub heard : Result Said ReadingFault
  pub reads : Heard number text entries heard
  pub takes : TakesHeard scale n room s heard a t
