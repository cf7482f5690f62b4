-- Refused by itself, refused for what it orders, or taken.
use Rattle.std.proofs.Common.{◌≡◌, ℕ, min, length, None, Ok, Err, Result, sym, refl, ap, ◌∙◌, subst}
use Rattle.std.proofs.lemmas.Result.{err_from_is_err_and}
use Rattle.register.specs.Runs.{View}
use Rattle.message.specs.Said.{said_by}
use Rattle.book.specs.declared.acting.Taken.{Taken}
use Rattle.book.specs.declared.faults.BookFault.{BookFault}
use Rattle.book.specs.Book.{Situation, at, found, meanings}
use Rattle.book.specs.Orders.{ordered, Ordered}
use Rattle.book.specs.Questions.{Outcome, questions, subject}
use Rattle.book.specs.Storage.{Filed, Acted}
use Rattle.book.specs.Desk.{shown, situation, room_for, record_of}
use Rattle.book.specs.Deeds.{deed}
use Rattle.book.proofs.Leading.{served_here, served_led, served_on}
use Rattle.meeting.specs.Notices.{convened}
use Rattle.meeting.specs.Taking.{done, TakesMessage}
use Rattle.meeting.proofs.Takings.{refused_alone, refused_order, taken}
use Rattle.meeting.proofs.taking.Meeting+Taking.take_message.Goals as goal

pub returns-in_err-order : goal.returns-in_err-order
returns-in_err-order g c =
    let d = c.args.desk.now in
    let n = convened c.args.self.now in
    let room = room_for g.R.Register d.register.now d.records.now in
    let scale = g.T.Tally.scale d.tally.now in
    let s : Situation g.T.Tally.Value = shown g.R.Register g.T.Tally d in
    let m = said_by c.args.message.now in
    let f : BookFault = c.in_err-order.field-0.0 in
    let p = err_from_is_err_and c.from_residual.result c.from_residual.ensures.1 in
    let e : c.from_residual.result ≡ Err f = p.1 ∙ ap {B = Result Taken BookFault} Err p.2 in
    record {
      served = served_here g.R.Register g.T.Tally d;
      taking = λ o fl kept. (o, subst (λ (x : Result Taken BookFault). TakesMessage scale n room s m (done x) s) (sym e) (refused_alone scale n room s m kept f s c.in_err-order.ensures refl));
    }

pub returns-in_err-number-clause-taking : goal.returns-in_err-number-clause-taking
returns-in_err-number-clause-taking g c = λ o fl kept.
    let d = c.args.desk.now in
    let n = convened c.args.self.now in
    let room = room_for g.R.Register d.register.now d.records.now in
    let scale = g.T.Tally.scale d.tally.now in
    let s : Situation g.T.Tally.Value = shown g.R.Register g.T.Tally d in
    let u : Situation g.T.Tally.Value = situation g.R.Register g.T.Tally c.judge.new.register d.tally.now d.records.now in
    let m = said_by c.args.message.now in
    let f : BookFault = c.in_err-number.field-0.0 in
    let p = err_from_is_err_and c.from_residual-in_err-number.result c.from_residual-in_err-number.ensures.1 in
    let e : c.from_residual-in_err-number.result ≡ Err f = p.1 ∙ ap {B = Result Taken BookFault} Err p.2 in
    let x = c.in_ok-order.ensures in
    let j = c.in_err-number.ensures.judged (o, fl.paired) in
    let same : u ≡ s = ap (λ (w : View). at w (g.T.Tally.value d.tally.now) (meanings d.records.now)) j.same in (
      j.ordered,
      subst (λ (x : Result Taken BookFault). TakesMessage scale n room s m (done x) u) (sym e) (refused_order scale n room s m kept (ordered c.in_ok-order.order) x.0 x.1 f u j.value j.outcome same),
    )

pub returns : goal.returns
returns g c =
    let d = c.args.desk.now in
    let n = convened c.args.self.now in
    let room = room_for g.R.Register d.register.now d.records.now in
    let scale = g.T.Tally.scale d.tally.now in
    let s : Situation g.T.Tally.Value = shown g.R.Register g.T.Tally d in
    let u : Situation g.T.Tally.Value = situation g.R.Register g.T.Tally c.judge.new.register d.tally.now d.records.now in
    let v : Situation g.T.Tally.Value = shown g.R.Register g.T.Tally c.act.new.self in
    let m = said_by c.args.message.now in
    let o : Ordered = ordered c.in_ok-order.order in
    let k = c.in_ok-number.ensures in
    let x = c.in_ok-order.ensures in
    let a = c.act.ensures in
    record {
      served = served_on g.R.Register g.T.Tally d (record d { register = record d.register { now = c.judge.new.register } }) c.act.new.self (served_led g.R.Register g.T.Tally d c.judge.new.register k.led) a.served;
      taking = λ r fl kept.
          let j = k.judged (r, fl.paired) in
          let same : u ≡ s = ap (λ (w : View). at w (g.T.Tally.value d.tally.now) (meanings d.records.now)) j.same in
          let rooms : room_for g.R.Register c.judge.new.register d.records.now ≡ room = ap (λ (n : ℕ). min (length d.records.now) n) k.led.fixed in
          let b = a.acted j.ordered (subst (Filed scale) (sym same) fl)
          (subst (λ (n : ℕ). Outcome (questions (found u) u.view.size n o) None) (sym rooms) (subst (λ (w : Situation g.T.Tally.Value). Outcome (questions (found w) w.view.size room o) None) (sym same) j.outcome))
          (j.place c.in_ok-number.number (refl {a = Ok c.in_ok-number.number}) ∙ ap (λ (w : View). record_of w (subject o)) (sym j.same)) in
          (b.0, taken scale n room s m kept o x.0 x.1 (deed c.taken_by.result) v j.value j.outcome c.taken_by.ensures (subst (λ (w : Situation g.T.Tally.Value). Acted scale w o v) same b.1));
    }
