use Rattle.tally.specs.Control.{control_modulus, leaving}
use Rattle.tally.specs.Residues.{same}
use Rattle.tally.proofs.control.ControlTotal.of.Goals as goal

pub returns : goal.returns
returns c = same control_modulus _ (leaving c.args.n) c.reduced.ensures
