-- What is lent to each call: a register, a tally and the records. Assumes nothing.
use Rattle.std.specs.Prelude.{◌≡◌, ℕ, min, List, length, Some, None, Ok, Option, Result}
use Rattle.register.specs.declared.interface.Register as Register
use Rattle.register.specs.declared.call.Call.{Call}
use Rattle.register.specs.declared.call.Answer.{Answer}
use Rattle.register.specs.Runs.{View, view_of, Ran}
use Rattle.tally.specs.declared.interface.Tally as Tally
use Rattle.book.specs.declared.desk.Desk.{Desk}
use Rattle.book.specs.declared.faults.BookFault.{BookFault}
use Rattle.book.specs.Book.{Situation, at, meanings, finds_in, Records}
use Rattle.book.specs.Orders.{Ordered}
use Rattle.book.specs.Questions.{Outcome, questions, refusal, subject}
use Rattle.book.specs.Verdicts.{verdict, shared_in}
use Rattle.book.specs.Storage.{Paired, Filed}

-- the record of the reference, if there is one
abbrev pub record_of : View → Option (List ℕ) → Option ℕ
record_of w None = None
record_of w (Some q) = w.find q

-- some calls, each by the register's own rule, lead from one state to the other
abbrev pub Reached : {X : Type 0} → (X → Call → Answer → X → Type 0) → X → X → Type 0
Reached rule r r' = (calls : List Call) × (answers : List Answer) × Ran rule r calls answers r'

module _ {X : Type 0} (R : Register.Ghosts X) where
  -- what a register tells
  abbrev pub told : X → View
  told r = view_of (R.pairs r)

  -- there is room for as many as there are records, and as the register can hold
  abbrev pub room_for : X → Records → ℕ
  room_for r rs = min (length rs) (R.room r)

  -- a call keeps the register's capacity, and leads it on by its own rule
  pub record Led (r r' : X) : Type 0 where
    pub fixed : R.room r' ≡ R.room r
    pub reached : Reached R.rule r r'

  -- the register and the records are as a meeting leaves them
  abbrev pub InOrder : X → Records → Type 0
  InOrder r rs = R.ordered r × Paired (told r) (meanings rs)

  -- judging an order changes no pair; tells why it is refused, if it is, which is by the first question that is answered no; and else the
  -- record of the instruction that the order names, if it names one
  pub record Judged (r : X) (rs : Records) (o : Ordered) (a : Result (Option ℕ) BookFault) (r' : X) : Type 0 where
    pub ordered : R.ordered r'
    pub same : told r' ≡ told r
    pub value : refusal a ≡ verdict (finds_in (told r) (meanings rs)) (shared_in (meanings rs)) (told r).size (room_for r rs) o
    pub outcome : Outcome (questions (finds_in (told r) (meanings rs)) (told r).size (room_for r rs) o) (refusal a)
    pub place : (n : Option ℕ) → a ≡ Ok n → n ≡ record_of (told r) (subject o)

module _ {X Y : Type 0} (R : Register.Ghosts X) (T : Tally.Ghosts Y) where
  abbrev pub situation : X → Y → Records → Situation T.Value
  situation r t rs = at (told R r) (T.value t) (meanings rs)

  -- the register, the tally and the records are as a meeting leaves them
  abbrev pub Left : X → Y → Records → Type 0
  Left r t rs = R.ordered r × Filed (T.scale t) (situation r t rs)

  -- what a desk lends
  abbrev pub shown : Desk X Y → Situation T.Value
  shown d = situation d.register.now d.tally.now d.records.now

  -- a call at a desk leaves it the same three, leads the register on and keeps the tally's scale
  pub record Served (d d' : Desk X Y) : Type 0 where
    pub register : d'.register.ghost_name ≡ d.register.ghost_name
    pub tally : d'.tally.ghost_name ≡ d.tally.ghost_name
    pub records : d'.records.ghost_name ≡ d.records.ghost_name
    pub led : Led R d.register.now d'.register.now
    pub scale : T.scale d'.tally.now ≡ T.scale d.tally.now
