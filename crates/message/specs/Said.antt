-- What a message says, in plain texts and numbers. Assumes nothing.
use Rattle.std.specs.Prelude.{ℕ, Bool, List, Option}
use Rattle.std.specs.Option.{option_map}
use Rattle.format.specs.declared.votes.VoteText.{VoteText}
use Rattle.register.specs.Spelling.{spelling}
use Rattle.message.specs.declared.instruction.Function.{Function}
use Rattle.message.specs.declared.instruction.Instruction.{Instruction}
use Rattle.message.specs.declared.status.Process.{Process}
use Rattle.message.specs.declared.status.StatusCode.{StatusCode}
use Rattle.message.specs.declared.status.Status.{Status}
use Rattle.message.specs.declared.message.Message.{Message}
use Rattle.message.specs.declared.message.Message.TheVariants as M
use Rattle.message.specs.Texts.{text_of}
use Rattle.message.specs.Instructions.{RightsText, rights_of, given_votes}

-- an instruction to vote
pub record SaidInstruction : Type 0 where
  -- CORP and SEME
  pub event : List ℕ
  pub reference : List ℕ
  pub function : Function
  -- PREV, where there is a LINK
  pub previous : Option (List ℕ)
  -- the twelve characters of the ISIN, and SAFE
  pub isin : List ℕ
  pub account : List ℕ
  -- the rights identifier, where just one holder is named by one
  pub rights : Option RightsText
  -- OWND, CAON and QINS
  pub holding : ℕ
  pub option : List ℕ
  pub quantity : ℕ
  -- the first 64 votes, and how many there are
  pub votes : List VoteText
  pub count : ℕ

-- the status of an instruction
pub record SaidStatus : Type 0 where
  -- CORP, INST or CAST, and RELA
  pub event : List ℕ
  pub function : Process
  pub related : List ℕ
  -- the status: its qualifier and its code, and whether the qualifier of each reason is that code
  pub process : Process
  pub code : StatusCode
  pub agree : Bool

pub data Said : Type 0 where
  instructs : SaidInstruction → Said
  reports : SaidStatus → Said

-- what the values of a message mean
abbrev pub said_instruction : Instruction → SaidInstruction
said_instruction i =
    record {
      event = spelling i.event;
      reference = spelling i.reference;
      function = i.function;
      previous = option_map spelling i.previous;
      isin = text_of i.isin;
      account = text_of i.account;
      rights = option_map rights_of i.rights;
      holding = i.holding;
      option = text_of i.option;
      quantity = i.quantity;
      votes = given_votes i.votes;
      count = i.votes.count;
    }

abbrev pub said_status : Status → SaidStatus
said_status s =
    record {
      event = spelling s.event;
      function = s.function;
      related = spelling s.related;
      process = s.process;
      code = s.code;
      agree = s.agree;
    }

abbrev pub said_by : Message → Said
said_by (M.Instructs i) = instructs (said_instruction i)
said_by (M.Reports s) = reports (said_status s)
