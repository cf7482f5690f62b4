-- What each kind of order comes to.
use Rattle.std.proofs.Common.{sym}
use Rattle.register.specs.Spelling.{spelling}
use Rattle.book.specs.Orders.{claimed}
use Rattle.book.proofs.desk.Desk.act.Goals as goal

pub returns-in-Lodge : goal.returns-in-Lodge
returns-in-Lodge g c = rw c.in-Lodge.is (c.act_lodging.ensures c.args.number)

pub returns-in-Replace : goal.returns-in-Replace
returns-in-Replace g c = rw c.in-Replace.is (c.act_replacement.ensures (spelling c.in-Replace.field-1))

pub returns-in-Cancel : goal.returns-in-Cancel
returns-in-Cancel g c = rw c.in-Cancel.is (c.act_cancellation.ensures.acts (spelling c.in-Cancel.field-0) (claimed c.in-Cancel.field-1))

pub returns-in-Report : goal.returns-in-Report
returns-in-Report g c = rw c.in-Report.is (c.act_report.ensures.acts (spelling c.in-Report.field-0) c.in-Report.process c.in-Report.code (sym c.of.ensures))
