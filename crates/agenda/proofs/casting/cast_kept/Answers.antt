-- Each vote that was passed is good and cast, so what is left decides.
use Rattle.std.proofs.Common.{◌≡◌, ◌∷◌, [], ◌++◌, sym, ap, ◌∙◌, arith, rules}
use Rattle.std.proofs.lemmas.List.{length-append}
use Rattle.std.proofs.lemmas.Result.{err_from_is_err_and}
use Rattle.agenda.specs.Casting.{bad_from}
use Rattle.agenda.proofs.CastingSteps.{bad_here, bad_more, cast_more}
use Rattle.agenda.proofs.casting.cast_kept.Goals as goal

pub returns-in_err-vote : goal.returns-in_err-vote
returns-in_err-vote c =
    let table = c.args.agenda.now.questions in
    let bad = bad_here table c.as_slice-texts.result.now c.loop-text.votes.items c.loop-text.text-index _ c.loop-text-test.true _ c.in_err-vote.ensures in
    let p = err_from_is_err_and c.from_residual.result c.from_residual.ensures.1 in
    rw (p.1, p.2) (ap (bad_from table []) (sym c.as_slice-texts.ensures.value) ∙ sym c.loop-text.invariant.2 ∙ bad)

pub loop-text-preserved : goal.loop-text-preserved
loop-text-preserved c =
    let table = c.args.agenda.now.questions in
    let texts = c.as_slice-texts.result.now in
    let votes = c.loop-text.votes.items in
    let v = c.in_ok-vote.vote in
    let i = c.loop-text.text-index in
    let inv = c.loop-text.invariant in
    let pushed : c.push.new.self.items ≡ votes ++ v ∷ [] = search rules in
    rw pushed (
      simp length-append (omega (arith, inv.0)),
      cast_more table texts votes i _ c.loop-text-test.true v c.in_ok-vote.ensures inv.1,
      bad_more table texts votes i _ c.loop-text-test.true v c.in_ok-vote.ensures ∙ inv.2,
    )
