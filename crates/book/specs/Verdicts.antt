-- Why an order is refused, computed from what is found standing. Assumes nothing.
use Rattle.std.specs.Prelude.{ℕ, Bool, true, false, cond, ◌&&◌, List, is_some, Some, None, Option, ◌==◌, nat_lt}
use Rattle.std.specs.List.{list_any}
use Rattle.std.specs.Str.{bytes_eq}
use Rattle.message.specs.Instructions.{RightsText, same_rights}
use Rattle.message.specs.declared.status.Process.{Process}
use Rattle.message.specs.declared.status.Process.TheVariants as P
use Rattle.book.specs.declared.faults.BookFault.{BookFault}
use Rattle.book.specs.declared.faults.BookFault.TheVariants.{AlreadyStanding, NotStanding, CancellationAsked, Differs, RightsTaken, Full, CancellationNotAsked}
use Rattle.book.specs.States.{is_asked}
use Rattle.book.specs.Book.{Terms, Instruction}
use Rattle.book.specs.Orders.{Claimed, Ordered}
use Rattle.book.specs.Orders.Ordered.{lodge, cancel, report}

-- are these the rights of the instruction, if there is one?
abbrev pub has_rights : Option Instruction → RightsText → Bool
has_rights None rights = false
has_rights (Some i) rights = same_rights i.terms.rights rights

-- does an instruction with these rights stand in some record?
abbrev pub shared_in : List (Option Instruction) → RightsText → Bool
shared_in rs rights = list_any (λ o. has_rights o rights) rs

-- why a new instruction that replaces none is refused: does its reference stand, are its rights taken, is there room?
abbrev pub lodging_fault : Bool → Bool → ℕ → ℕ → Option BookFault
lodging_fault true shared standing room = Some AlreadyStanding
lodging_fault false true standing room = Some RightsTaken
lodging_fault false false standing room = cond (nat_lt standing room) None (Some Full)

-- why one that replaces another is refused: does its reference stand, and what stands under the other's?
abbrev pub replacement_fault : Bool → Option Instruction → RightsText → Option BookFault
replacement_fault true previous rights = Some AlreadyStanding
replacement_fault false None rights = Some NotStanding
replacement_fault false (Some i) rights =
    cond (is_asked i.state) (Some CancellationAsked) (cond (same_rights i.terms.rights rights) None (Some Differs))

-- does a standing instruction agree with what a cancellation claims?
abbrev pub agrees : Terms → Claimed → Bool
agrees t c =
    same_rights t.rights c.rights
    && (bytes_eq t.account c.account && (bytes_eq t.option c.option && t.holding == c.holding))

-- why a cancellation is refused
abbrev pub cancellation_fault : Option Instruction → Claimed → Option BookFault
cancellation_fault None c = Some NotStanding
cancellation_fault (Some i) c = cond (is_asked i.state) (Some CancellationAsked) (cond (agrees i.terms c) None (Some Differs))

-- may the report be about an instruction whose cancellation is asked, or not? One on a cancellation only where it is asked.
abbrev pub may_report : Process → Bool → Bool
may_report P.Instruction asked = true
may_report P.Cancellation asked = asked

-- why a report is refused
abbrev pub report_fault : Option Instruction → Process → Option BookFault
report_fault None process = Some NotStanding
report_fault (Some i) process = cond (may_report process (is_asked i.state)) None (Some CancellationNotAsked)

-- why an order is refused, where b tells what is found standing under each reference and `shared` whether rights are taken, so many stand,
-- and there is room for so many; none where it is not
module _ (b : List ℕ → Option Instruction) (shared : RightsText → Bool) (standing room : ℕ) where
  abbrev pub lodge_verdict : Terms → Option (List ℕ) → Option BookFault
  lodge_verdict t None = lodging_fault (is_some (b t.reference)) (shared t.rights) standing room
  lodge_verdict t (Some p) = replacement_fault (is_some (b t.reference)) (b p) t.rights

  abbrev pub verdict : Ordered → Option BookFault
  verdict (lodge t p) = lodge_verdict t p
  verdict (cancel q c) = cancellation_fault (b q) c
  verdict (report q process code) = report_fault (b q) process
