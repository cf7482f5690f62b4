-- What the values of an examined instruction mean. Assumes nothing.
use Rattle.std.specs.Prelude.{◌≡◌, Some, None, Result, MatchResult}
use Rattle.message.specs.Said.{Said}
use Rattle.book.specs.declared.faults.BookFault.{BookFault}
use Rattle.book.specs.declared.order.Order.{Order}
use Rattle.book.specs.Orders.{ordered}
use Rattle.register.specs.Spelling.{spelling}
use Rattle.message.specs.Instructions.{RightsText, rights_of}
use Rattle.message.specs.declared.instruction.Rights.{Rights}
use Rattle.meeting.specs.declared.examining.Purpose.{Purpose as PurposeValue}
use Rattle.meeting.specs.declared.examining.Purpose.TheVariants as P
use Rattle.meeting.specs.Notices.{Notice}
use Rattle.meeting.specs.Messages.{Purpose, message_fault, order_of}
use Rattle.meeting.specs.Messages.Purpose.{lodges, cancels}

abbrev pub purpose_meant : PurposeValue → Purpose
purpose_meant P.Lodging = lodges None
purpose_meant (P.Replacement q) = lodges (Some (spelling q))
purpose_meant (P.Cancellation q) = cancels (spelling q)

abbrev pub meant_form : Rights × PurposeValue → RightsText × Purpose
meant_form f = (rights_of f.0, purpose_meant f.1)

-- a message is examined: what it orders, where no question about it is answered no; or the fault
abbrev pub Examines : Notice → Said → Result Order BookFault → Type 0
Examines n m r = MatchResult r (λ o. (message_fault n m ≡ None) × (order_of m ≡ Some (ordered o))) (λ f. message_fault n m ≡ Some f)
