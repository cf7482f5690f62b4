use Rattle.std.proofs.Common.{sym}
use Rattle.book.specs.Book.{terms_of}
use Rattle.book.proofs.Meant.{empty_found, none_empty}
use Rattle.book.proofs.Carrying.{lodging_acts, no_room_acts}
use Rattle.book.proofs.desk.Desk.act_lodging.Goals as goal

pub returns-in-Some : goal.returns-in-Some
returns-in-Some g c = λ number. lodging_acts g.R.Register g.T.Tally c.args.self.now (terms_of c.args.lodging.now) c.in-Some.n c.place.new.self number (empty_found c.args.self.now.records.now c.in-Some.n (sym c.in-Some.ensures)) c.place.ensures

pub returns-in_default : goal.returns-in_default
returns-in_default g c = λ number. no_room_acts g.R.Register g.T.Tally c.args.self.now (terms_of c.args.lodging.now) number (none_empty c.args.self.now.records.now (sym c.in_default.ensures))
