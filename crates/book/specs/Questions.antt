-- The questions put to an order, over what is found standing: each as the rule says it, and the fault is the first answered no.
-- Assumes nothing.
use Rattle.std.specs.Prelude.{◌≡◌, ℕ, ◌<◌, true, false, ◌⊎◌, List, [], ◌∷◌, Some, None, Ok, Err, Option, Result, ◌≢◌}
use Rattle.message.specs.declared.status.Process.{Process}
use Rattle.message.specs.declared.status.Process.TheVariants.{Cancellation}
use Rattle.book.specs.declared.faults.BookFault.{BookFault}
use Rattle.book.specs.declared.faults.BookFault.TheVariants.{AlreadyStanding, NotStanding, CancellationAsked, Differs, RightsTaken, Full, CancellationNotAsked}
use Rattle.book.specs.States.{is_asked}
use Rattle.book.specs.Book.{Instruction}
use Rattle.book.specs.Orders.{Claimed, Ordered}
use Rattle.book.specs.Orders.Ordered.{lodge, cancel, report}

-- a question: what it is to answer yes, and what it is to answer no with this fault
abbrev pub Question : Type 1
Question = Type 0 × (BookFault → Type 0)

-- a question with one fault
abbrev pub ask : BookFault → Type 0 → Question
ask f P = (P, λ g. (P → ⊥) × (g ≡ f))

-- the refusal is by the first question, in this order, that is answered no; there is none where all are answered yes
abbrev pub Outcome : List Question → Option BookFault → Type 0
Outcome [] r = r ≡ None
Outcome (q ∷ qs) r = (q.0 × Outcome qs r) ⊎ ((f : BookFault) × q.1 f × (r ≡ Some f))

abbrev pub refusal : {A : Type 0} → Result A BookFault → Option BookFault
refusal (Ok a) = None
refusal (Err f) = Some f

-- the reference that an order names as standing: what a new instruction replaces, what is to be cancelled, what a report is about
abbrev pub subject : Ordered → Option (List ℕ)
subject (lodge t p) = p
subject (cancel q c) = Some q
subject (report q process code) = Some q

-- where there is one, it has the property
abbrev pub Of : Option (List ℕ) → (List ℕ → Type 0) → Type 0
Of None P = Unit {0}
Of (Some q) P = P q

-- where there is none, this holds
abbrev pub Unlinked : Option (List ℕ) → Type 0 → Type 0
Unlinked None P = P
Unlinked (Some q) P = Unit {0}

-- a standing instruction has the rights identifier, account, option and holding that a cancellation claims
pub record Agrees (c : Claimed) (i : Instruction) : Type 0 where
  pub rights : i.terms.rights ≡ c.rights
  pub account : i.terms.account ≡ c.account
  pub option : i.terms.option ≡ c.option
  pub holding : i.terms.holding ≡ c.holding

-- The questions, where b tells what is found standing under each reference.
module _ (b : List ℕ → Option Instruction) where
  -- what is found standing under the reference, if anything, has the property
  abbrev pub IfFound : (Instruction → Type 0) → List ℕ → Type 0
  IfFound P q = (i : Instruction) → b q ≡ Some i → P i

  abbrev pub Stands : List ℕ → Type 0
  Stands q = (i : Instruction) × (b q ≡ Some i)

  -- the reference of a new instruction does not stand
  abbrev pub Unused : Ordered → Type 0
  Unused (lodge t p) = b t.reference ≡ None
  Unused (cancel q c) = Unit {0}
  Unused (report q process code) = Unit {0}

  -- the reference that the order names stands
  abbrev pub Named : Ordered → Type 0
  Named o = Of (subject o) Stands

  -- no cancellation is asked for what is replaced or is to be cancelled
  abbrev pub Unasked : Ordered → Type 0
  Unasked (lodge t p) = Of p (IfFound (λ i. is_asked i.state ≡ false))
  Unasked (cancel q c) = IfFound (λ i. is_asked i.state ≡ false) q
  Unasked (report q process code) = Unit {0}

  -- what is replaced has the same rights identifier; what is to be cancelled agrees in that and in account, option and holding
  abbrev pub Same : Ordered → Type 0
  Same (lodge t p) = Of p (IfFound (λ i. i.terms.rights ≡ t.rights))
  Same (cancel q c) = IfFound (Agrees c) q
  Same (report q process code) = Unit {0}

  -- nothing stands under the rights identifier of a new instruction that replaces none
  abbrev pub Alone : Ordered → Type 0
  Alone (lodge t p) = Unlinked p ((q : List ℕ) → IfFound (λ i. i.terms.rights ≢ t.rights) q)
  Alone (cancel q c) = Unit {0}
  Alone (report q process code) = Unit {0}

  -- cancellation is asked for what a report on a cancellation is about
  abbrev pub AskedOf : Process → List ℕ → Type 0
  AskedOf process q = process ≡ Cancellation → IfFound (λ i. is_asked i.state ≡ true) q

  abbrev pub Asked : Ordered → Type 0
  Asked (lodge t p) = Unit {0}
  Asked (cancel q c) = Unit {0}
  Asked (report q process code) = AskedOf process q

-- for a new instruction that replaces none, fewer stand than there is room for
abbrev pub Room : ℕ → ℕ → Ordered → Type 0
Room standing room (lodge t p) = Unlinked p (standing < room)
Room standing room (cancel q c) = Unit {0}
Room standing room (report q process code) = Unit {0}

-- the questions, where so many stand and there is room for so many
abbrev pub questions : (List ℕ → Option Instruction) → ℕ → ℕ → Ordered → List Question
questions b standing room o =
    ask AlreadyStanding (Unused b o)
    ∷ ask NotStanding (Named b o)
    ∷ ask CancellationAsked (Unasked b o)
    ∷ ask Differs (Same b o)
    ∷ ask RightsTaken (Alone b o)
    ∷ ask Full (Room standing room o)
    ∷ ask CancellationNotAsked (Asked b o)
    ∷ []
