use Rattle.register.specs.declared.call.Call.TheVariants.{Clear}
use Rattle.register.specs.declared.call.Answer.TheVariants.{Cleared}
use Rattle.book.proofs.Leading.{led_by}
use Rattle.meeting.proofs.draft.clear_register.Goals as goal

pub returns-clause-led : goal.returns-clause-led
returns-clause-led g c = led_by g.R.Register c.args.register.now Clear Cleared c.clear.new.self c.clear.ensures.fixed c.clear.ensures.ruled
