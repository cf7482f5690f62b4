use Rattle.std.proofs.Common.{ℕ, ◌^◌, ◌<◌, refl, ap, ◌∙◌, rules}
use Rattle.tally.specs.Ballot.{figures, shifted}
use Rattle.tally.proofs.Figures.{taking_back}
use Rattle.tally.proofs.ballot.BallotTally.take_back.Goals as goal

pub returns : goal.returns
returns c =
    let fits : c.args.vote.quantity < 2 ^ 64 = search rules in
    record {
      scale = refl;
      value = ap figures c.shift.ensures.after
          ∙ ap (λ (n : ℕ). figures (shifted c.args.self.now.cells.numbers c.args.vote.question c.args.vote.cell n)) c.opposite.ensures
          ∙ taking_back c.args.vote c.args.self.now.cells.numbers fits c.shift.ensures.within;
    }
