-- In order, halving finds a reference exactly where it stands.
use Rattle.register.specs.Rising.{distinct_from_ascending}
use Rattle.register.proofs.Ascents.{sought_placed}
use Rattle.register.proofs.Edits.{placed_beside, placed_rest}
use Rattle.register.proofs.ordered.OrderedList.place.Goals as goal

pub returns-clause-placed : goal.returns-clause-placed
returns-clause-placed c = λ o. rw c.ok.ensures.value (sought_placed _ _ c.search.result o c.search.ensures.sought)

pub returns-clause-beside : goal.returns-clause-beside
returns-clause-beside c = λ o. rw c.ok.ensures.value (placed_beside _ _ _ (distinct_from_ascending _ o) (sought_placed _ _ c.search.result o c.search.ensures.sought))

pub returns-clause-rest : goal.returns-clause-rest
returns-clause-rest c = λ o. rw c.ok.ensures.value (placed_rest _ _ _ (distinct_from_ascending _ o) (sought_placed _ _ c.search.result o c.search.ensures.sought))
