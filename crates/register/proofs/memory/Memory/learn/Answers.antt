-- The newest goes first, in place of what was known of its reference: it stands once, whatever number is kept.
use Rattle.std.proofs.Common.{rules}
use Rattle.register.proofs.Remembered.{newest_once}
use Rattle.register.proofs.memory.Memory.learn.Goals as goal

pub invariant_of-self : goal.invariant_of-self
invariant_of-self c = record { once = search (rules, newest_once) }
