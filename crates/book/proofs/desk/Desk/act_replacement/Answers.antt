use Rattle.std.proofs.Common.{Some, refl, ap}
use Rattle.book.specs.Book.{in_record, meanings, terms_of}
use Rattle.book.specs.Orders.Ordered.{lodge}
use Rattle.book.proofs.Leading.{served_here}
use Rattle.book.proofs.Carrying.{replacement_acts, missing_acts}
use Rattle.book.proofs.desk.Desk.act_replacement.Goals as goal

pub returns-in-Some : goal.returns-in-Some
returns-in-Some g c = λ q. replacement_acts g.R.Register g.T.Tally c.args.self.now g.R.Register.lawful (g.met.T.Tally.group c.args.self.now.tally.now) (terms_of c.args.lodging.now) q c.args.number c.in-Some.n c.end.new.self c.place.new.self c.in-Some.is c.end.ensures c.place.ensures

pub returns-in_default : goal.returns-in_default
returns-in_default g c = λ q. missing_acts g.R.Register g.T.Tally c.args.self.now q (lodge (terms_of c.args.lodging.now) (Some q)) c.args.number c.args.self.now refl (ap (in_record (meanings c.args.self.now.records.now)) c.in_default.is) (served_here g.R.Register g.T.Tally c.args.self.now)
