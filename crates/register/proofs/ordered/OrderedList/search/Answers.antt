-- In order, halving finds a reference exactly where it stands.
use Rattle.register.proofs.Ascents.{sought_there}
use Rattle.register.proofs.ordered.OrderedList.search.Goals as goal

pub returns-clause-there : goal.returns-clause-there
returns-clause-there c = λ o. sought_there _ _ c.search_in.result.place o (rw c.held.ensures at c.search_in.ensures.sought)
