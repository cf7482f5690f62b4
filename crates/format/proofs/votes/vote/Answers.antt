use Rattle.format.proofs.VoteLaws.{vote_once}
use Rattle.format.proofs.votes.vote.Goals as goal

pub returns-clause-once : goal.returns-clause-once
returns-clause-once c = vote_once
