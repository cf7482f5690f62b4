-- What a taken order did. Assumes nothing.
use Rattle.std.specs.Prelude.{ℕ, List, Some, None, Option}
use Rattle.register.specs.Spelling.{spelling}
use Rattle.book.specs.declared.status.StatusEvent.{StatusEvent}
use Rattle.book.specs.declared.status.StatusEvent.TheVariants as E
use Rattle.book.specs.declared.acting.Taken.{Taken}
use Rattle.book.specs.declared.acting.Taken.TheVariants as T
use Rattle.book.specs.States.{event_of}
use Rattle.book.specs.Orders.{Ordered}
use Rattle.book.specs.Orders.Ordered.{lodge, cancel, report}

-- what was done, to which references
pub data Deed : Type 0 where
  lodged : List ℕ → Deed
  replaced : List ℕ → List ℕ → Deed
  cancellation_asked : List ℕ → Deed
  accepted : List ℕ → Deed
  rejected : List ℕ → Deed
  cancelled : List ℕ → Deed
  cancellation_refused : List ℕ → Deed
  nothing : Deed

abbrev pub lodge_deed : List ℕ → Option (List ℕ) → Deed
lodge_deed q None = lodged q
lodge_deed q (Some p) = replaced q p

abbrev pub event_deed : StatusEvent → List ℕ → Deed
event_deed E.Acceptance q = accepted q
event_deed E.Rejection q = rejected q
event_deed E.Cancellation q = cancelled q
event_deed E.Refusal q = cancellation_refused q
event_deed E.Nothing q = nothing

-- what an order does where it is taken
abbrev pub deed_of : Ordered → Deed
deed_of (lodge t p) = lodge_deed t.reference p
deed_of (cancel q c) = cancellation_asked q
deed_of (report q process code) = event_deed (event_of process code) q

-- what an answer tells
abbrev pub deed : Taken → Deed
deed (T.Lodged q) = lodged (spelling q)
deed (T.Replaced q p) = replaced (spelling q) (spelling p)
deed (T.CancellationAsked q) = cancellation_asked (spelling q)
deed (T.Accepted q) = accepted (spelling q)
deed (T.Rejected q) = rejected (spelling q)
deed (T.Cancelled q) = cancelled (spelling q)
deed (T.CancellationRefused q) = cancellation_refused (spelling q)
deed T.Nothing = nothing
