-- A question that is not put to the register leaves it alone.
use Rattle.book.proofs.Leading.{led_here}
use Rattle.conduct.proofs.conduct.ask.Goals as goal

pub returns-in-Figure-clause-led : goal.returns-in-Figure-clause-led
returns-in-Figure-clause-led g c = led_here g.R.Register c.args.register.now

pub returns-in-Total-clause-led : goal.returns-in-Total-clause-led
returns-in-Total-clause-led g c = led_here g.R.Register c.args.register.now

pub returns-in-Standing-clause-led : goal.returns-in-Standing-clause-led
returns-in-Standing-clause-led g c = led_here g.R.Register c.args.register.now

pub returns-in-Asked-clause-led : goal.returns-in-Asked-clause-led
returns-in-Asked-clause-led g c = led_here g.R.Register c.args.register.now
