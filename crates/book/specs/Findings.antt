-- What a state question answers. Assumes nothing.
use Rattle.std.specs.Prelude.{◌≡◌, ℕ, cond, List, None, Option}
use Rattle.std.specs.Option.{option_map}
use Rattle.register.specs.Texts.{is_text}
use Rattle.register.specs.declared.interface.Register as Register
use Rattle.book.specs.declared.finding.Finding.{Finding}
use Rattle.book.specs.Book.{Instruction, finds_in, meanings, Records}
use Rattle.book.specs.Desk.{told}

-- of a standing instruction: its state, whether cancellation is asked, and its holding
abbrev pub finding : Instruction → Finding
finding i = record { state = i.state; holding = i.terms.holding }

-- a text that is no reference finds nothing
abbrev pub found_as : List ℕ → Option Instruction → Option Finding
found_as q o = cond (is_text q) (option_map finding o) None

-- the answer is what is found, and no pair of the register changes
pub record Tells {X : Type 0} (R : Register.Ghosts X) (r : X) (rs : Records) (q : List ℕ) (a : Option Finding) (r' : X) : Type 0 where
  pub ordered : R.ordered r'
  pub same : told R r' ≡ told R r
  pub answer : a ≡ found_as q (finds_in (told R r) (meanings rs) q)
