-- A situation: what the register, the tally and the records hold between two calls; and what is found standing in it. Assumes nothing.
use Rattle.std.specs.Prelude.{ℕ, List, [], ◌∷◌, ◌++◌, map, Some, None, Option}
use Rattle.std.specs.List.{slice_get}
use Rattle.std.specs.Option.{option_map}
use Rattle.register.specs.Runs.{View}
use Rattle.register.specs.Spelling.{spelling}
use Rattle.tally.specs.declared.vote.Vote.{Vote}
use Rattle.message.specs.Texts.{text_of}
use Rattle.message.specs.Instructions.{RightsText, rights_of}
use Rattle.agenda.specs.Votes.{votes_of}
use Rattle.book.specs.declared.record.State.{State}
use Rattle.book.specs.declared.record.Lodging.{Lodging}
use Rattle.book.specs.declared.record.Standing.{Standing}

-- what an instruction is lodged with, in plain texts and numbers
pub record Terms : Type 0 where
  pub reference : List ℕ
  pub rights : RightsText
  pub account : List ℕ
  pub option : List ℕ
  pub holding : ℕ
  pub votes : List Vote

-- a standing instruction
pub record Instruction : Type 0 where
  pub terms : Terms
  pub state : State

abbrev pub terms_of : Lodging → Terms
terms_of l =
    record {
      reference = spelling l.reference;
      rights = rights_of l.rights;
      account = text_of l.account;
      option = text_of l.option;
      holding = l.holding;
      votes = votes_of l.votes;
    }

abbrev pub instruction_of : Standing → Instruction
instruction_of s = record { terms = terms_of s.lodging; state = s.state }

-- what a record means: nothing, or a standing instruction
abbrev pub meaning : Option Standing → Option Instruction
meaning r = option_map instruction_of r

-- the records of a meeting
abbrev pub Records : Type 0
Records = List (Option Standing)

abbrev pub meanings : Records → List (Option Instruction)
meanings rs = map meaning rs

-- which record number the register has for each reference, and how many it has; the value of the tally; and what the records mean
pub record Situation (V : Type 0) : Type 0 where
  pub view : View
  pub value : V
  pub records : List (Option Instruction)

abbrev pub at : {V : Type 0} → View → V → List (Option Instruction) → Situation V
at w v rs = record { view = w; value = v; records = rs }

abbrev pub held : Option (Option Instruction) → Option Instruction
held None = None
held (Some o) = o

-- the instruction in the record of this number, if any
abbrev pub in_record : List (Option Instruction) → Option ℕ → Option Instruction
in_record rs None = None
in_record rs (Some n) = held (slice_get rs n)

-- the instruction found standing under a reference: the one in the record that the register names
abbrev pub finds_in : View → List (Option Instruction) → List ℕ → Option Instruction
finds_in w rs q = in_record rs (w.find q)

abbrev pub found : {V : Type 0} → Situation V → List ℕ → Option Instruction
found s q = finds_in s.view s.records q

-- the instructions in some records, and their votes
abbrev pub instructions : List (Option Instruction) → List Instruction
instructions [] = []
instructions (None ∷ rs) = instructions rs
instructions (Some i ∷ rs) = i ∷ instructions rs

abbrev pub ballots : List Instruction → List Vote
ballots [] = []
ballots (i ∷ is) = i.terms.votes ++ ballots is
