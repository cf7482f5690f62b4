-- The state of an instruction, and what a status does to it. Assumes nothing.
use Rattle.std.specs.Prelude.{Bool, true, false, Some, None, Option}
use Rattle.message.specs.declared.status.Process.{Process}
use Rattle.message.specs.declared.status.Process.TheVariants.{Instruction, Cancellation}
use Rattle.message.specs.declared.status.StatusCode.{StatusCode}
use Rattle.message.specs.declared.status.StatusCode.TheVariants.{Cancelled, CancellationPending, DefaultAction, Accepted as AcceptedCode, Pending, Rejected, StandingInstruction}
use Rattle.book.specs.declared.record.State.{State}
use Rattle.book.specs.declared.record.State.TheVariants.{Lodged, Accepted}
use Rattle.book.specs.declared.status.StatusEvent.{StatusEvent}
use Rattle.book.specs.declared.status.StatusEvent.TheVariants as E

-- what a status of an instruction comes to: PACK accepts it, REJT rejects it, CAND cancels it, and other codes change nothing
abbrev pub of_instruction : StatusCode → StatusEvent
of_instruction Cancelled = E.Cancellation
of_instruction CancellationPending = E.Nothing
of_instruction DefaultAction = E.Nothing
of_instruction AcceptedCode = E.Acceptance
of_instruction Pending = E.Nothing
of_instruction Rejected = E.Rejection
of_instruction StandingInstruction = E.Nothing

-- what a status of a cancellation comes to: CAND cancels the instruction, REJT drops the asking, and other codes change nothing
abbrev pub of_cancellation : StatusCode → StatusEvent
of_cancellation Cancelled = E.Cancellation
of_cancellation CancellationPending = E.Nothing
of_cancellation DefaultAction = E.Nothing
of_cancellation AcceptedCode = E.Nothing
of_cancellation Pending = E.Nothing
of_cancellation Rejected = E.Refusal
of_cancellation StandingInstruction = E.Nothing

abbrev pub event_of : Process → StatusCode → StatusEvent
event_of Instruction code = of_instruction code
event_of Cancellation code = of_cancellation code

-- is cancellation asked?
abbrev pub is_asked : State → Bool
is_asked (Lodged asked) = asked
is_asked (Accepted asked) = asked

-- the state once cancellation is asked, and once that is dropped
abbrev pub asking : State → State
asking (Lodged asked) = Lodged true
asking (Accepted asked) = Accepted true

abbrev pub unasking : State → State
unasking (Lodged asked) = Lodged false
unasking (Accepted asked) = Accepted false

-- the state after an event; none where the instruction ends
abbrev pub turned : State → StatusEvent → Option State
turned s E.Acceptance = Some (Accepted (is_asked s))
turned s E.Rejection = None
turned s E.Cancellation = None
turned s E.Refusal = Some (unasking s)
turned s E.Nothing = Some s
