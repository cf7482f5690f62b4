-- A pair is taken out where it stands, and the rest still ascends. Striking what is not there changes nothing.
use Rattle.std.proofs.Common.{sym}
use Rattle.register.proofs.Ascents.{ascending_removed}
use Rattle.register.proofs.Edits.{struck_none}
use Rattle.register.proofs.Forgetting.{forgotten_none}
use Rattle.register.proofs.ordered.OrderedListRegister.strike.Goals as goal

pub returns-in_err-i-clause-strikes : goal.returns-in_err-i-clause-strikes
returns-in_err-i-clause-strikes c = λ o. rw c.from_residual.ensures (struck_none _ _ (c.in_err-i.ensures.placed o))

pub returns-in_err-i-clause-ruled : goal.returns-in_err-i-clause-ruled
returns-in_err-i-clause-ruled c = λ o. sym (forgotten_none _ _ (c.in_err-i.ensures.placed o))

pub returns-clause-keeps : goal.returns-clause-keeps
returns-clause-keeps c = λ o. rw c.remove-pair.ensures.held (ascending_removed _ c.in_ok-i.i o)
