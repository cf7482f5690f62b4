-- What an opening leaves. Assumes nothing.
use Rattle.std.specs.Prelude.{◌≡◌, ℕ, List, Some, None, Option}
use Rattle.std.specs.List.{slice_get}
use Rattle.tally.specs.Scale.{Scale}
use Rattle.book.specs.Book.{Instruction, Situation}

-- nothing is registered, nothing is counted and every record is empty
pub record Opened {V : Type 0} (scale : Scale V) (s : Situation V) : Type 0 where
  pub unnamed : (q : List ℕ) → s.view.find q ≡ None
  pub none : s.view.size ≡ 0
  pub value : s.value ≡ scale.neutral
  pub records : (n : ℕ) (o : Option Instruction) → slice_get s.records n ≡ Some o → o ≡ None
