-- The votes that are kept are good or not, and then their number decides.
use Rattle.std.proofs.Common.{refl}
use Rattle.std.proofs.lemmas.Result.{err_from_is_err_and}
use Rattle.agenda.proofs.CastingLaws.{all_judged}
use Rattle.agenda.proofs.casting.cast.Goals as goal

pub returns-in_err-votes : goal.returns-in_err-votes
returns-in_err-votes c =
    let j = all_judged c.args.agenda.now.questions c.args.given.now _ _ c.in_err-votes.ensures refl in
    let p = err_from_is_err_and c.from_residual.result c.from_residual.ensures.1 in
    rw (p.1, p.2) (record { value = j.0; judged = j.1; only = j.2 })

pub returns-in_err-all_kept : goal.returns-in_err-all_kept
returns-in_err-all_kept c =
    let j = all_judged c.args.agenda.now.questions c.args.given.now _ _ c.in_ok-votes.ensures.0 c.in_err-all_kept.ensures in
    let p = err_from_is_err_and c.from_residual-in_err-all_kept.result c.from_residual-in_err-all_kept.ensures.1 in
    rw (p.1, p.2) (record { value = j.0; judged = j.1; only = j.2 })

pub returns-clause-judged : goal.returns-clause-judged
returns-clause-judged c = (all_judged c.args.agenda.now.questions c.args.given.now _ _ c.in_ok-votes.ensures.0 c.in_ok-all_kept.ensures).1

pub returns-clause-only : goal.returns-clause-only
returns-clause-only c = (all_judged c.args.agenda.now.questions c.args.given.now _ _ c.in_ok-votes.ensures.0 c.in_ok-all_kept.ensures).2
