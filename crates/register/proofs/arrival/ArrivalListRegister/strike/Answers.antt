-- A pair is taken out where it stands. Striking what is not there changes nothing.
use Rattle.std.proofs.Common.{sym, rules}
use Rattle.register.specs.Pairs.{Pair}
use Rattle.register.specs.Slots.{held}
use Rattle.register.proofs.Pairs.{distinct_removed}
use Rattle.register.proofs.Forgetting.{forgotten_none}
use Rattle.register.proofs.arrival.ArrivalListRegister.strike.Goals as goal

pub returns-in_err-i-clause-ruled : goal.returns-in_err-i-clause-ruled
returns-in_err-i-clause-ruled c = λ o. sym (forgotten_none _ _ c.in_err-i.ensures.placed)

pub returns-clause-keeps : goal.returns-clause-keeps
returns-clause-keeps c = λ o.
    let p : Pair = record { reference = c.args.reference.now; value = 0 } in
    let d = distinct_removed (held c.args.self.now.slots) c.in_ok-i.i p o c.in_ok-i.ensures.placed.0 in
    search (rules, o, d)
