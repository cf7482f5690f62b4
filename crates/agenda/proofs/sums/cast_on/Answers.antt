-- With what is left, what is counted so far comes to the whole.
use Rattle.std.proofs.Common.{◌≡◌, List, ap, ◌∙◌, arith}
use Rattle.std.proofs.lemmas.List.{at_drop_all}
use Rattle.tally.specs.declared.vote.Vote.{Vote}
use Rattle.agenda.specs.Sums.{sum_on, votes_on}
use Rattle.agenda.proofs.SumSteps.{counts, passes}
use Rattle.agenda.proofs.sums.cast_on.Goals as goal
use Rattle.agenda.proofs.sums.cast_on.Goals.{then-vote-number, else-vote-number}

pub loop-vote-preserved : goal.loop-vote-preserved
loop-vote-preserved c = elim c.if-vote-number.branch [
  | then-vote-number w ↦
      let more = counts c.as_slice-given.result.now c.args.number c.loop-vote.vote-index _ c.loop-vote-test.true w.if-vote-number.true in
      rw w.cast-is (omega (arith, more.0), omega (arith, more.1), omega arith, omega arith)
  | else-vote-number w ↦
      let same = passes c.as_slice-given.result.now c.args.number c.loop-vote.vote-index _ c.loop-vote-test.true w.if-vote-number.false in
      rw w.cast-is (omega (arith, same.0), omega (arith, same.1), omega arith, omega arith)
]

pub returns : goal.returns
returns c =
    let votes = c.as_slice-given.result.now in
    let n = c.args.number in
    let i = c.loop-vote.vote-index in
    let is = c.as_slice-given.ensures.value in
    let sum : c.loop-vote.cast.sum ≡ sum_on votes n = omega (arith, at_drop_all (λ l. sum_on l n) votes i c.loop-vote-test.false) in
    let many : c.loop-vote.cast.votes ≡ votes_on votes n = omega (arith, at_drop_all (λ l. votes_on l n) votes i c.loop-vote-test.false) in
    record {
      sum = sum ∙ ap (λ (l : List Vote). sum_on l n) is;
      votes = many ∙ ap (λ (l : List Vote). votes_on l n) is;
    }
