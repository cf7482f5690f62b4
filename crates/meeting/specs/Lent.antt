-- A taking, on what is lent to it. Assumes nothing.
use Rattle.std.specs.Prelude.{ℕ, List, Result}
use Rattle.register.specs.declared.interface.Register as Register
use Rattle.tally.specs.declared.interface.Tally as Tally
use Rattle.book.specs.declared.desk.Desk.{Desk}
use Rattle.book.specs.declared.faults.BookFault.{BookFault}
use Rattle.book.specs.Book.{Records}
use Rattle.book.specs.Deeds.{Deed}
use Rattle.book.specs.Storage.{Filed}
use Rattle.book.specs.Desk.{room_for, shown, situation}
use Rattle.message.specs.Said.{Said}
use Rattle.meeting.specs.Kept.{Kept}
use Rattle.meeting.specs.Notices.{Notice}
use Rattle.meeting.specs.Taking.{TakesMessage, Taking}

module _ {X Y : Type 0} (R : Register.Ghosts X) (T : Tally.Ghosts Y) where
  -- where the register, the tally and the records are as a meeting leaves them, a text is taken, and they are so again
  abbrev pub Takes : Notice → ℕ → ℕ → List ℕ → X → Y → Records → Result Deed BookFault → X → Y → Records → Type 0
  Takes n entries number text r t rs a r' t' rs' =
      R.ordered r → Filed (T.scale t) (situation R T r t rs)
      → R.ordered r' × Taking (T.scale t) n (room_for R r rs) entries (situation R T r t rs) number text a (situation R T r' t' rs')

  -- and so is a message that is read, at a desk
  abbrev pub TakesRead : Notice → Desk X Y → Said → Result Deed BookFault → Desk X Y → Type 0
  TakesRead n d m a d' =
      R.ordered d.register.now → Filed (T.scale d.tally.now) (shown R T d) → Kept m
      → R.ordered d'.register.now × TakesMessage (T.scale d.tally.now) n (room_for R d.register.now d.records.now) (shown R T d) m a (shown R T d')
