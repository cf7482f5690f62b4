-- What the definition computes is the only judgement.
use Rattle.std.proofs.Common.{refl}
use Rattle.agenda.specs.Votes.{votes_of}
use Rattle.agenda.proofs.SumLaws.{all_judged}
use Rattle.agenda.proofs.sums.unbalanced.Goals as goal

pub returns : goal.returns
returns c =
    let j = all_judged c.args.agenda.now.questions c.args.holding (votes_of c.args.votes.now) _ c.least_unbalanced.result refl c.least_unbalanced.ensures in
    record { value = j.0; judged = j.1; only = j.2 }
