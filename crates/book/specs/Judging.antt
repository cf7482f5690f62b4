-- How an order is judged, kind by kind. Assumes nothing.
use Rattle.std.specs.Prelude.{◌≡◌, ℕ, List, length, Some, None, Ok, Err, Option, Result}
use Rattle.register.specs.declared.interface.Register as Register
use Rattle.message.specs.declared.status.Process.{Process}
use Rattle.message.specs.declared.status.StatusCode.{StatusCode}
use Rattle.book.specs.declared.faults.BookFault.{BookFault}
use Rattle.book.specs.Book.{Terms, meanings, finds_in, instructions, Records}
use Rattle.book.specs.Orders.{Claimed, Ordered}
use Rattle.book.specs.Orders.Ordered.{lodge, cancel, report}
use Rattle.book.specs.Questions.{subject}
use Rattle.book.specs.Verdicts.{verdict, shared_in}
use Rattle.book.specs.Desk.{told, room_for, record_of, Led}

-- the fault, or else the number of a record
abbrev pub answered : Option BookFault → Option ℕ → Result (Option ℕ) BookFault
answered (Some f) n = Err f
answered None n = Ok n

module _ {X : Type 0} (R : Register.Ghosts X) (r : X) (rs : Records) where
  -- why the order is refused, where as many stand as the records hold
  abbrev pub fault : Ordered → Option BookFault
  fault o = verdict (finds_in (told R r) (meanings rs)) (shared_in (meanings rs)) (length (instructions (meanings rs))) (room_for R r rs) o

  -- an order is judged: the register is led on and keeps its pairs, and the answer is the fault, or the record that the order names
  pub record Judges (o : Ordered) (a : Result (Option ℕ) BookFault) (r' : X) : Type 0 where
    pub led : Led R r r'
    pub keeps : R.ordered r → R.ordered r'
    pub same : R.ordered r → told R r' ≡ told R r
    pub answer : R.ordered r → a ≡ answered (fault o) (record_of (told R r) (subject o))

  abbrev pub JudgesLodging : Terms → Result (Option ℕ) BookFault → X → Type 0
  JudgesLodging t a r' = Judges (lodge t None) a r'

  abbrev pub JudgesReplacement : Terms → List ℕ → Result (Option ℕ) BookFault → X → Type 0
  JudgesReplacement t p a r' = Judges (lodge t (Some p)) a r'

  abbrev pub JudgesCancellation : List ℕ → Claimed → Result (Option ℕ) BookFault → X → Type 0
  JudgesCancellation q c a r' = Judges (cancel q c) a r'

  -- the code says nothing about whether a report is refused
  abbrev pub JudgesReport : List ℕ → Process → Result (Option ℕ) BookFault → X → Type 0
  JudgesReport q process a r' = (code : StatusCode) → Judges (report q process code) a r'
