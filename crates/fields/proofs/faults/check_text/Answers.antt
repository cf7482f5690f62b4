-- The first fault is the verdict, of which the law holds.
use Rattle.fields.proofs.Verdicts.{checked}
use Rattle.fields.proofs.faults.check_text.Goals as goal

pub returns : goal.returns
returns c = checked _ _ c.first_fault.ensures
