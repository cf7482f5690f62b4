-- The moves of the book: finding a record, emptying one, filling one. Assumes nothing.
use Rattle.std.specs.Prelude.{◌≡◌, ℕ, ◌+◌, ◌<◌, List, Some, None}
use Rattle.std.specs.List.{slice_get}
use Rattle.register.specs.declared.interface.Register as Register
use Rattle.tally.specs.Scale.{Scale}
use Rattle.book.specs.declared.desk.Desk.{Desk}
use Rattle.book.specs.Keyed.{put}
use Rattle.book.specs.Book.{Terms, Instruction, Situation, found, meanings}
use Rattle.book.specs.Orders.{lodged}
use Rattle.book.specs.Storage.{Filed, Staying}
use Rattle.tally.specs.declared.interface.Tally as Tally
use Rattle.book.specs.Desk.{told, shown, Served}

-- an instruction ends: its record is empty, its reference is not found any more, and everything belongs together again
pub record Ending {V : Type 0} (scale : Scale V) (s : Situation V) (n : ℕ) (i : Instruction) (t : Situation V) : Type 0 where
  pub filed : Filed scale t
  pub book : (q : List ℕ) → found t q ≡ put (found s) i.terms.reference None q
  pub emptied : slice_get t.records n ≡ Some None
  pub fewer : t.view.size + 1 ≡ s.view.size
  pub stays : Staying s t

-- an instruction is placed into an empty record, and everything belongs together again
pub record Placing {V : Type 0} (scale : Scale V) (s : Situation V) (terms : Terms) (t : Situation V) : Type 0 where
  pub filed : Filed scale t
  pub book : (q : List ℕ) → found t q ≡ put (found s) terms.reference (Some (lodged terms)) q
  pub stays : Staying s t

module _ {X Y : Type 0} (R : Register.Ghosts X) (T : Tally.Ghosts Y) where
  -- the instruction in record n ends
  pub record Ends (d : Desk X Y) (n : ℕ) (d' : Desk X Y) : Type 0 where
    pub served : Served R T d d'
    pub ending :
        R.ordered d.register.now → Filed (T.scale d.tally.now) (shown R T d)
        → (i : Instruction) → slice_get (meanings d.records.now) n ≡ Some (Some i)
        → R.ordered d'.register.now × Ending (T.scale d.tally.now) (shown R T d) n i (shown R T d')

  -- an instruction is placed into the empty record n, where its reference does not stand and there is room
  pub record Places (d : Desk X Y) (n : ℕ) (terms : Terms) (d' : Desk X Y) : Type 0 where
    pub served : Served R T d d'
    pub placing :
        R.ordered d.register.now → Filed (T.scale d.tally.now) (shown R T d) → slice_get (meanings d.records.now) n ≡ Some None
        → found (shown R T d) terms.reference ≡ None → (told R d.register.now).size < R.room d.register.now
        → R.ordered d'.register.now × Placing (T.scale d.tally.now) (shown R T d) terms (shown R T d')
