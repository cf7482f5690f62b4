use Rattle.std.proofs.Common.{ap, ◌∙◌}
use Rattle.tally.specs.Ballot.{figures}
use Rattle.tally.proofs.Figures.{emptied}
use Rattle.tally.proofs.ballot.Ballot.new.Goals as goal

pub returns : goal.returns
returns c = ap figures c.new.ensures ∙ emptied 32 16
