-- With no reference twice, its number stands at its place.
use Rattle.register.proofs.Edits.{placed_beside, placed_rest}
use Rattle.register.specs.Slots.{held}
use Rattle.register.specs.Spelling.{spelling}
use Rattle.register.proofs.arrival.ArrivalList.place.Goals as goal

pub returns-clause-beside : goal.returns-clause-beside
returns-clause-beside c = λ o. placed_beside (held c.args.self.now.slots) (spelling c.args.reference.now) c.place_in.result o (rw c.held.ensures at c.place_in.ensures.placed)

pub returns-clause-rest : goal.returns-clause-rest
returns-clause-rest c = λ o. placed_rest (held c.args.self.now.slots) (spelling c.args.reference.now) c.place_in.result o (rw c.held.ensures at c.place_in.ensures.placed)
