-- The record is written with the cancellation asked; one that is empty or missing has been refused.
use Rattle.std.proofs.Common.{get_or, refl, ap, ◌∙◌}
use Rattle.book.specs.Book.{held, in_record, meanings}
use Rattle.book.specs.Orders.Ordered.{cancel}
use Rattle.book.proofs.Leading.{served_here}
use Rattle.book.proofs.Meant.{meant_at, meant_past}
use Rattle.book.proofs.Carrying.{asked_acts, asks_there, asks_nowhere, missing_acts}
use Rattle.book.proofs.desk.Desk.act_cancellation.Goals as goal

pub returns : goal.returns
returns g c =
    let d = c.args.self.now in
    let n = c.in-Some.n in
    let r = get_or d.records.now n c.index-self-n.result in
    let was = meant_at d.records.now n c.index-self-n.result r c.if-n-self.false refl in
    record {
      acts = λ q claim. asked_acts g.R.Register g.T.Tally d (g.met.T.Tally.group d.tally.now) q claim c.args.number n r c.ask_cancellation.new.kept c.in-Some.is was c.ask_cancellation.ensures;
      asks = asks_there d c.args.number n r c.ask_cancellation.new.kept c.in-Some.is was c.ask_cancellation.ensures;
    }

pub returns-then-n-self : goal.returns-then-n-self
returns-then-n-self g c =
    let d = c.args.self.now in
    let nothing = ap (in_record (meanings d.records.now)) c.in-Some.is ∙ ap held (meant_past d.records.now c.in-Some.n c.if-n-self.true) in
    record {
      acts = λ q claim. missing_acts g.R.Register g.T.Tally d q (cancel q claim) c.args.number d refl nothing (served_here g.R.Register g.T.Tally d);
      asks = asks_nowhere d c.args.number nothing;
    }

pub returns-in_default : goal.returns-in_default
returns-in_default g c =
    let d = c.args.self.now in
    let nothing = ap (in_record (meanings d.records.now)) c.in_default.is in
    record {
      acts = λ q claim. missing_acts g.R.Register g.T.Tally d q (cancel q claim) c.args.number d refl nothing (served_here g.R.Register g.T.Tally d);
      asks = asks_nowhere d c.args.number nothing;
    }
