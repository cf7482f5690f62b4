-- How the register, the records and the tally of a meeting belong together between two calls. Assumes nothing.
use Rattle.std.specs.Prelude.{◌≡◌, ℕ, List, length, Some, None, Option, ◌≢◌}
use Rattle.std.specs.List.{slice_get}
use Rattle.register.specs.Runs.{View}
use Rattle.tally.specs.Scale.{Scale, joined}
use Rattle.book.specs.Book.{Instruction, Situation, found, instructions, ballots}
use Rattle.book.specs.Orders.{Ordered, after}

-- the register's pairs and the standing instructions are one to one: each pair leads to the record of its reference, and each instruction
-- has its pair
pub record Paired (w : View) (rs : List (Option Instruction)) : Type 0 where
  pub filed : (q : List ℕ) (n : ℕ) → w.find q ≡ Some n → (i : Instruction) × (slice_get rs n ≡ Some (Some i)) × (i.terms.reference ≡ q)
  pub listed : (n : ℕ) (i : Instruction) → slice_get rs n ≡ Some (Some i) → w.find i.terms.reference ≡ Some n
  pub many : w.size ≡ length (instructions rs)

-- as a meeting leaves them: that, and the value is the joined weight of the votes in the records
pub record Filed {V : Type 0} (scale : Scale V) (s : Situation V) : Type 0 where
  pub paired : Paired s.view s.records
  pub weighed : s.value ≡ joined scale (ballots (instructions s.records))

-- a reference that goes on standing keeps its record, and there are as many records as before
pub record Staying {V : Type 0} (s t : Situation V) : Type 0 where
  pub keeps : (q : List ℕ) (n : ℕ) → s.view.find q ≡ Some n → (found t q ≢ None) → t.view.find q ≡ Some n
  pub size : length t.records ≡ length s.records

-- What a taken order leaves: all belongs together again, what is found standing is what the order makes of it, and whatever goes on
-- standing keeps its record. Free is only which empty record a new instruction gets.
pub record Acted {V : Type 0} (scale : Scale V) (s : Situation V) (o : Ordered) (t : Situation V) : Type 0 where
  pub filed : Filed scale t
  pub book : (q : List ℕ) → found t q ≡ after (found s) o q
  pub stays : Staying s t
