-- A reading's fault is carried up whole; another text is taken as its message is.
use Rattle.std.proofs.Common.{rules, ◌≡◌, length, Ok, Err, Result, refl, ap, ◌∙◌}
use Rattle.std.proofs.lemmas.Result.{err_from_is_err_and}
use Rattle.message.specs.Said.{said_by}
use Rattle.book.specs.declared.acting.Taken.{Taken}
use Rattle.book.specs.declared.faults.BookFault.{BookFault}
use Rattle.book.specs.declared.faults.BookFault.TheVariants.{Reading}
use Rattle.book.specs.Book.{Situation}
use Rattle.book.specs.Desk.{situation}
use Rattle.book.proofs.Leading.{led_here}
use Rattle.meeting.specs.Taking.{done}
use Rattle.meeting.specs.Notices.{convened}
use Rattle.meeting.proofs.Heard.{kept}
use Rattle.meeting.proofs.Takings.{taken_back}
use Rattle.meeting.proofs.taking.Meeting+Taking.take.Goals as goal

pub returns-in_err-message-clause-led : goal.returns-in_err-message-clause-led
returns-in_err-message-clause-led g c = led_here g.R.Register c.args.register.now

pub returns-in_err-message-clause-taking : goal.returns-in_err-message-clause-taking
returns-in_err-message-clause-taking g c = λ o f.
    let p = err_from_is_err_and c.from_residual.result c.from_residual.ensures.1 in
    let e : c.from_residual.result ≡ Err (Reading c.in_err-message.field-0.0) = p.1 ∙ ap {B = Result Taken BookFault} Err p.2 in
    let s : Situation g.T.Tally.Value = situation g.R.Register g.T.Tally c.args.register.now c.args.tally.now c.args.records.now in
    (o, record { heard = Err c.in_err-message.field-0.0; reads = c.in_err-message.ensures.outcome; takes = (ap done e, refl {a = s}) })

pub returns-clause-taking : goal.returns-clause-taking
returns-clause-taking g c = λ o f.
    let k = c.in_ok-message.ensures in
    let m = said_by c.in_ok-message.message in
    let t = c.take_message.ensures.taking o f (kept c.args.number c.args.text.now (length c.args.table.now) m k.outcome) in
    taken_back g.R.Register g.T.Tally (convened c.args.self.now) (length c.args.table.now) c.args.number c.args.text.now c.args.register.now c.args.tally.now c.args.records.now (done c.take_message.result) c.take_message.new.desk
    _ _ _ (search rules) (search rules) (search rules)
    (t.0, record { heard = Ok m; reads = k.outcome; takes = t.1 })
