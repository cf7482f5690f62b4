-- A run of a meeting: its calls with their answers, from the opening on. Assumes nothing.
use Rattle.std.specs.Prelude.{◌≡◌, ℕ, ◌+◌, ◌<◌, ◌≤◌, min, Bool, false, cond, List, [], ◌∷◌, ◌++◌, length, take, is_ok, Some, Option, Result}
use Rattle.std.specs.List.{slice_get}
use Rattle.std.specs.Option.{option_to_list}
use Rattle.tally.specs.Scale.{Scale}
use Rattle.format.specs.Texts.{and_then}
use Rattle.message.specs.Messages.{said}
use Rattle.book.specs.declared.acting.Taken.{Taken}
use Rattle.book.specs.declared.faults.BookFault.{BookFault}
use Rattle.book.specs.Book.{Situation, found}
use Rattle.book.specs.Orders.{Ordered}
use Rattle.book.specs.Findings.{found_as}
use Rattle.meeting.specs.Notices.{Notice}
use Rattle.meeting.specs.Messages.{order_of}
use Rattle.meeting.specs.Taking.{Taking, done}
use Rattle.meeting.specs.Figures.{figured}
use Rattle.meeting.specs.Opening.{Opened}
use Rattle.conduct.specs.declared.call.Call.{Call}
use Rattle.conduct.specs.declared.call.Call.TheVariants as C
use Rattle.conduct.specs.declared.call.Question.{Question}
use Rattle.conduct.specs.declared.call.Question.TheVariants as Q
use Rattle.conduct.specs.declared.call.Reply.{Reply}
use Rattle.conduct.specs.declared.call.Reply.TheVariants as P
use Rattle.conduct.specs.declared.call.Answer.{Answer}
use Rattle.conduct.specs.declared.call.Answer.TheVariants as A
use Rattle.conduct.specs.Laws.{Sound}

-- how a tally weighs, and what its value tells
pub record Meter (V : Type 0) : Type 0 where
  pub scale : Scale V
  pub figure : V → ℕ → ℕ → Option ℕ
  pub total : V → Option ℕ

-- what a run goes by: the notice of the meeting, how many can stand, and how many entries the field table has
pub record Terms : Type 0 where
  pub notice : Notice
  pub room : ℕ
  pub entries : ℕ

-- a question answers what is found. How often a front asked below is the register's own matter.
abbrev pub Replied : {V : Type 0} → Meter V → Notice → Situation V → Question → Reply → Type 0
Replied m n s (Q.State q) a = a ≡ P.State (found_as q.now (found s q.now))
Replied m n s (Q.Figure question cell) a = a ≡ P.Figure (figured n.agenda question cell (m.figure s.value question cell))
Replied m n s Q.Total a = a ≡ P.Total (m.total s.value)
Replied m n s Q.Standing a = a ≡ P.Standing s.view.size
Replied m n s (Q.Asked depth) a = (k : Option ℕ) × (a ≡ P.Asked k)

-- one call, from a situation to the next: a taking by its rules; a question and a closing change nothing
abbrev pub Called : {V : Type 0} → Meter V → Terms → Situation V → Call → Answer → Situation V → Type 0
Called m w s (C.Take number text) a t = (r : Result Taken BookFault) × (a ≡ A.Taken r) × Taking m.scale w.notice w.room w.entries s number text.now (done r) t
Called m w s (C.Ask q) a t = (r : Reply) × (a ≡ A.Told r) × Replied m w.notice s q r × (t ≡ s)
Called m w s C.Close a t = (a ≡ A.Closed) × (t ≡ s)

-- what a text orders, by what it says
abbrev pub order_in : ℕ → List ℕ → Option Ordered
order_in number text = and_then (said number text) order_of

abbrev pub is_taken : Answer → Bool
is_taken (A.Taken r) = is_ok r
is_taken (A.Told r) = false
is_taken A.Closed = false

-- the message that a call has taken, by what it orders, if it has taken one
abbrev pub taken_by : Call → Answer → List Ordered
taken_by (C.Take number text) a = cond (is_taken a) (option_to_list (order_in number text.now)) []
taken_by (C.Ask q) a = []
taken_by C.Close a = []

-- the messages that some calls have taken, in their order
abbrev pub taken : List Call → List Answer → List Ordered
taken [] given = []
taken (c ∷ cs) [] = []
taken (c ∷ cs) (a ∷ given) = taken_by c a ++ taken cs given

-- a question can be put after a closing too
abbrev pub IsQuestion : Call → Type 0
IsQuestion (C.Take number text) = ⊥
IsQuestion (C.Ask q) = Unit {0}
IsQuestion C.Close = ⊥

-- of the first n calls, only questions come after a closing
abbrev pub Orderly : List Call → ℕ → Type 0
Orderly calls n = (j k : ℕ) (c : Call) → j < k → k < n → slice_get calls j ≡ Some C.Close → slice_get calls k ≡ Some c → IsQuestion c

-- how many of the calls are made: all for which there is room, up to the first that cannot follow a closing
pub record Made (calls : List Call) (room n : ℕ) : Type 0 where
  pub few : n ≤ min (length calls) room
  pub orderly : Orderly calls n
  pub all : (n < min (length calls) room → Orderly calls (n + 1) → ⊥)

-- THE LAW. A run of n calls: there are situations from the opening to the end, each what the call before it left; and every one of them is
-- sound for the messages taken until then: the tally is the joined weight of the votes of exactly the instructions found standing; a
-- reference is found standing exactly when a taken message lodged it and none taken since ended it; and no two found standing carry one
-- rights identifier.
pub record Conducted {V : Type 0} (m : Meter V) (w : Terms) (calls : List Call) (answers : List Answer) (n : ℕ) (end : Situation V) : Type 0 where
  pub trace : ℕ → Situation V
  pub opening : Opened m.scale (trace 0)
  pub ending : trace n ≡ end
  pub called : (k : ℕ) (c : Call) (a : Answer) → k < n → slice_get calls k ≡ Some c → slice_get answers k ≡ Some a → Called m w (trace k) c a (trace (k + 1))
  pub sound : (k : ℕ) → k ≤ n → Sound m.scale (trace k) (taken (take k calls) (take k answers))
