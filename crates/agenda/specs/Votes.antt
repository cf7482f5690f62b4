-- The votes of an instruction. Assumes nothing.
use Rattle.std.specs.Prelude.{List}
use Rattle.short.specs.Short.{Short}
use Rattle.tally.specs.declared.vote.Vote.{Vote}

abbrev pub votes_of : Short Vote → List Vote
votes_of v = v.items
