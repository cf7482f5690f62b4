-- How an order that no question refuses is carried out. Assumes nothing.
use Rattle.std.specs.Prelude.{◌≡◌, ℕ, Some, None, Option, slice_set}
use Rattle.std.specs.List.{slice_get}
use Rattle.register.specs.declared.interface.Register as Register
use Rattle.tally.specs.declared.interface.Tally as Tally
use Rattle.book.specs.declared.desk.Desk.{Desk}
use Rattle.book.specs.declared.record.State.{State}
use Rattle.book.specs.Book.{Instruction, found, meanings}
use Rattle.book.specs.Orders.{Ordered, asked}
use Rattle.book.specs.Questions.{Outcome, questions, subject}
use Rattle.book.specs.Storage.{Filed, Acted}
use Rattle.book.specs.Desk.{told, shown, room_for, record_of, Served}

-- an instruction in another state
abbrev pub restated : State → Instruction → Instruction
restated state i = record { terms = i.terms; state = state }

-- the instruction in record n, if one stands there, is in this state afterwards; the other records, the register and the tally are as they were
pub record Restates {X Y : Type 0} (d : Desk X Y) (n : ℕ) (state : State) (d' : Desk X Y) : Type 0 where
  pub register : d'.register ≡ d.register
  pub tally : d'.tally ≡ d.tally
  pub records : (i : Instruction) → slice_get (meanings d.records.now) n ≡ Some (Some i) → meanings d'.records.now ≡ slice_set (meanings d.records.now) n (Some (restated state i))

-- and so is that of the record named, with its cancellation asked
pub record Asks {X Y : Type 0} (d : Desk X Y) (number : Option ℕ) (d' : Desk X Y) : Type 0 where
  pub register : d'.register ≡ d.register
  pub tally : d'.tally ≡ d.tally
  pub records :
      (n : ℕ) (i : Instruction) → number ≡ Some n → slice_get (meanings d.records.now) n ≡ Some (Some i)
      → meanings d'.records.now ≡ slice_set (meanings d.records.now) n (Some (asked i))

module _ {X Y : Type 0} (R : Register.Ghosts X) (T : Tally.Ghosts Y) where
  -- an order is carried out: where no question refuses it and the record of the instruction that it names is given
  pub record Acts (d : Desk X Y) (o : Ordered) (n : Option ℕ) (d' : Desk X Y) : Type 0 where
    pub served : Served R T d d'
    pub acted :
        R.ordered d.register.now → Filed (T.scale d.tally.now) (shown R T d)
        → Outcome (questions (found (shown R T d)) (told R d.register.now).size (room_for R d.register.now d.records.now) o) None
        → n ≡ record_of (told R d.register.now) (subject o)
        → R.ordered d'.register.now × Acted (T.scale d.tally.now) (shown R T d) o (shown R T d')
