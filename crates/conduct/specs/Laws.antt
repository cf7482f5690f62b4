-- What holds of every situation that a meeting comes to, whatever was given to it. Assumes nothing.
use Rattle.std.specs.Prelude.{◌≡◌, ℕ, List, Some, Option}
use Rattle.std.specs.List.{slice_get}
use Rattle.tally.specs.Scale.{Scale, joined}
use Rattle.book.specs.Book.{Terms, Instruction, Situation, found, ballots}
use Rattle.book.specs.Orders.{Ordered}
use Rattle.conduct.specs.History.{Standing}

-- the tally's value is the joined weight of the votes of exactly the instructions found standing: some list has each of them, each once,
-- and no other
pub record Counted {V : Type 0} (scale : Scale V) (s : Situation V) : Type 0 where
  pub standing : List Instruction
  pub each : (q : List ℕ) (i : Instruction) → found s q ≡ Some i → (k : ℕ) × (slice_get standing k ≡ Some i) × (i.terms.reference ≡ q)
  pub only : (k : ℕ) (i : Instruction) → slice_get standing k ≡ Some i → found s i.terms.reference ≡ Some i
  pub once : (j k : ℕ) (i h : Instruction) → slice_get standing j ≡ Some i → slice_get standing k ≡ Some h → i.terms.reference ≡ h.terms.reference → j ≡ k
  pub total : s.value ≡ joined scale (ballots standing)

-- a reference is found standing exactly when a taken message lodged it and none taken since ended it, and then with the terms of that
-- message: its rights identifier, account, option, holding and votes
pub record Told (b : List ℕ → Option Instruction) (taken : List Ordered) : Type 0 where
  pub reasons : (q : List ℕ) (i : Instruction) → b q ≡ Some i → Standing taken q i.terms
  pub shows : (q : List ℕ) (t : Terms) → Standing taken q t → (i : Instruction) × (b q ≡ Some i) × (i.terms ≡ t)

-- no two instructions found standing carry one rights identifier
abbrev pub Apart : (List ℕ → Option Instruction) → Type 0
Apart b = (p q : List ℕ) (i h : Instruction) → b p ≡ Some i → b q ≡ Some h → i.terms.rights ≡ h.terms.rights → p ≡ q

pub record Sound {V : Type 0} (scale : Scale V) (s : Situation V) (taken : List Ordered) : Type 0 where
  pub counted : Counted scale s
  pub told : Told (found s) taken
  pub apart : Apart (found s)
