use Rattle.std.proofs.Common.{◌∙◌}
use Rattle.tally.specs.Ballot.{figures}
use Rattle.tally.proofs.Counting.{figure_counts}
use Rattle.tally.proofs.ballot.Ballot.figure.Goals as goal

pub returns : goal.returns
returns c =
    record { value = c.read.ensures; counts = λ votes e. c.read.ensures ∙ figure_counts (figures c.args.self.now.cells.numbers) c.args.question c.args.cell votes e }
