use Rattle.std.proofs.Common.{refl, ap, ◌∙◌}
use Rattle.tally.specs.Ballot.{figures}
use Rattle.tally.proofs.Figures.{adding}
use Rattle.tally.proofs.ballot.BallotTally.add.Goals as goal

pub returns : goal.returns
returns c = record { scale = refl; value = ap figures c.shift.ensures.after ∙ adding c.args.vote c.args.self.now.cells.numbers c.shift.ensures.within }
