-- Calls put to a meeting on its way, on what is lent to them. Assumes nothing.
use Rattle.std.specs.Prelude.{◌≡◌, ℕ, Bool, true, false, List, is_some, Some, None, Option}
use Rattle.register.specs.declared.interface.Register as Register
use Rattle.tally.specs.declared.interface.Tally as Tally
use Rattle.book.specs.Book.{Records, Situation}
use Rattle.book.specs.Storage.{Filed}
use Rattle.book.specs.Desk.{told, situation, room_for}
use Rattle.meeting.specs.Notices.{Notice, convened}
use Rattle.conduct.specs.declared.call.Call.{Call}
use Rattle.conduct.specs.declared.call.Call.TheVariants as C
use Rattle.conduct.specs.declared.call.Question.{Question}
use Rattle.conduct.specs.declared.call.Reply.{Reply}
use Rattle.conduct.specs.declared.call.Answer.{Answer}
use Rattle.conduct.specs.declared.conduct.Phase.{Phase}
use Rattle.conduct.specs.declared.conduct.Phase.TheVariants.{Sitting, Over}
use Rattle.conduct.specs.Run.{Meter, Terms, Replied, Called, Conducted}

abbrev pub over : Phase → Bool
over (Sitting m) = false
over (Over m) = true

abbrev pub notice_of : Phase → Notice
notice_of (Sitting m) = convened m
notice_of (Over m) = convened m

-- after a closing only questions can be put
abbrev pub Goes : Bool → Call → Option Answer → Bool → Type 0
Goes false (C.Take number text) a later = (is_some a ≡ true) × (later ≡ false)
Goes false (C.Ask q) a later = (is_some a ≡ true) × (later ≡ false)
Goes false C.Close a later = (is_some a ≡ true) × (later ≡ true)
Goes true (C.Take number text) a later = (a ≡ None) × (later ≡ true)
Goes true (C.Ask q) a later = (is_some a ≡ true) × (later ≡ true)
Goes true C.Close a later = (a ≡ None) × (later ≡ true)

-- a call that could be made, or not
abbrev pub Given : {V : Type 0} → Meter V → Terms → Situation V → Call → Option Answer → Situation V → Type 0
Given m w s c None t = t ≡ s
Given m w s c (Some a) t = Called m w s c a t

module _ {X Y : Type 0} (R : Register.Ghosts X) (T : Tally.Ghosts Y) where
  abbrev pub meter : Y → Meter T.Value
  meter t = record { scale = T.scale t; figure = T.figure_in; total = T.total_in }

  abbrev pub terms : Notice → X → Records → ℕ → Terms
  terms n r rs entries = record { notice = n; room = room_for R r rs; entries = entries }

  -- a question put to a meeting, where all is as the meeting left it: no pair changes, and the answer is what is found
  abbrev pub Asks : Notice → X → Y → Records → Question → Reply → X → Type 0
  Asks n r t rs q a r' =
      R.ordered r → Filed (T.scale t) (situation R T r t rs)
      → R.ordered r' × (told R r' ≡ told R r) × Replied (meter t) n (situation R T r t rs) q a

  -- one call put to a meeting, where all is as the meeting left it
  abbrev pub Puts : Notice → ℕ → X → Y → Records → Call → Option Answer → X → Y → Records → Type 0
  Puts n entries r t rs c a r' t' rs' =
      R.ordered r → Filed (T.scale t) (situation R T r t rs)
      → R.ordered r' × Given (meter t) (terms n r rs entries) (situation R T r t rs) c a (situation R T r' t' rs')

  -- a whole run, up to what is given back
  abbrev pub Conducts : Notice → ℕ → X → Y → Records → List Call → List Answer → ℕ → X → Y → Records → Type 0
  Conducts n entries r t rs calls answers k r' t' rs' = Conducted (meter t) (terms n r rs entries) calls answers k (situation R T r' t' rs')
