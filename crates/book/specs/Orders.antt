-- What a message orders, and what is found standing after it. Assumes nothing.
use Rattle.std.specs.Prelude.{ℕ, false, List, Some, None, Option}
use Rattle.std.specs.Option.{option_map}
use Rattle.register.specs.Spelling.{spelling}
use Rattle.message.specs.Texts.{text_of}
use Rattle.message.specs.Instructions.{RightsText, rights_of}
use Rattle.message.specs.declared.status.Process.{Process}
use Rattle.message.specs.declared.status.StatusCode.{StatusCode}
use Rattle.book.specs.declared.record.State.TheVariants.{Lodged}
use Rattle.book.specs.declared.status.StatusEvent.{StatusEvent}
use Rattle.book.specs.declared.order.Claim.{Claim}
use Rattle.book.specs.declared.order.Order.{Order}
use Rattle.book.specs.declared.order.Order.TheVariants as O
use Rattle.book.specs.States.{event_of, turned, asking}
use Rattle.book.specs.Keyed.{put}
use Rattle.book.specs.Book.{Terms, Instruction, terms_of}

-- what a cancellation says of the instruction that it is about
pub record Claimed : Type 0 where
  pub rights : RightsText
  pub account : List ℕ
  pub option : List ℕ
  pub holding : ℕ

-- A new instruction with these terms, in place of that one if any; the asking for an instruction's cancellation; or a report on an
-- instruction or on its cancellation.
pub data Ordered : Type 0 where
  lodge : Terms → Option (List ℕ) → Ordered
  cancel : List ℕ → Claimed → Ordered
  report : List ℕ → Process → StatusCode → Ordered

abbrev pub claimed : Claim → Claimed
claimed c = record { rights = rights_of c.rights; account = text_of c.account; option = text_of c.option; holding = c.holding }

-- what the values of an order mean
abbrev pub ordered : Order → Ordered
ordered (O.Lodge l) = lodge (terms_of l) None
ordered (O.Replace l p) = lodge (terms_of l) (Some (spelling p))
ordered (O.Cancel q c) = cancel (spelling q) (claimed c)
ordered (O.Report q process code) = report (spelling q) process code

-- an instruction as it is lodged: no cancellation is asked
abbrev pub lodged : Terms → Instruction
lodged t = record { terms = t; state = Lodged false }

abbrev pub asked : Instruction → Instruction
asked i = record { terms = i.terms; state = asking i.state }

-- an instruction after an event, if it does not end
abbrev pub after_event : StatusEvent → Instruction → Option Instruction
after_event e i = option_map (λ s. record { terms = i.terms; state = s }) (turned i.state e)

abbrev pub eventually : StatusEvent → Option Instruction → Option Instruction
eventually e None = None
eventually e (Some i) = after_event e i

-- What is found standing under each reference after a taken order, from what was found before.
module _ (b : List ℕ → Option Instruction) where
  -- a replaced instruction ends
  abbrev pub without : Option (List ℕ) → List ℕ → Option Instruction
  without None = b
  without (Some p) = put b p None

  abbrev pub after : Ordered → List ℕ → Option Instruction
  after (lodge t p) = put (without p) t.reference (Some (lodged t))
  after (cancel q c) = put b q (option_map asked (b q))
  after (report q process code) = put b q (eventually (event_of process code) (b q))
