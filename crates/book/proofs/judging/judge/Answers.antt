-- The verdict, and that it is the first question answered no.
use Rattle.std.proofs.Common.{◌≡◌, ℕ, sym, ap, ◌∙◌, subst}
use Rattle.book.specs.Book.{meanings, finds_in}
use Rattle.book.specs.Orders.{ordered, Ordered}
use Rattle.book.specs.Questions.{Outcome, questions, refusal, subject}
use Rattle.book.specs.Verdicts.{verdict, shared_in}
use Rattle.book.specs.Desk.{told, room_for, record_of}
use Rattle.book.specs.Judging.{answered, fault}
use Rattle.book.proofs.Verdict.{verdict_outcome, refusal_answered, place_answered}
use Rattle.book.proofs.judging.judge.Goals as goal

pub returns : goal.returns
returns g c =
    let k = c.judge_by_kind.ensures in
    let r = c.args.register.now in
    let rs = c.args.records.now in
    let o : Ordered = ordered c.args.order.now in
    record {
      led = k.led;
      judged = λ h.
          let a : c.judge_by_kind.result ≡ answered (fault g.R.Register r rs o) (record_of (told g.R.Register r) (subject o)) = k.answer h.0 in
          let v : refusal c.judge_by_kind.result ≡ verdict (finds_in (told g.R.Register r) (meanings rs)) (shared_in (meanings rs)) (told g.R.Register r).size (room_for g.R.Register r rs) o =
          ap refusal a ∙ refusal_answered (fault g.R.Register r rs o) (record_of (told g.R.Register r) (subject o)) ∙ ap (λ (n : ℕ). verdict (finds_in (told g.R.Register r) (meanings rs)) (shared_in (meanings rs)) n (room_for g.R.Register r rs) o) (sym h.1.many) in
          record {
            ordered = k.keeps h.0;
            same = k.same h.0;
            value = v;
            outcome = subst (Outcome (questions (finds_in (told g.R.Register r) (meanings rs)) (told g.R.Register r).size (room_for g.R.Register r rs) o)) (sym v) (verdict_outcome (told g.R.Register r) (meanings rs) h.1 (room_for g.R.Register r rs) o);
            place = λ n e. place_answered (fault g.R.Register r rs o) (record_of (told g.R.Register r) (subject o)) n (sym a ∙ e);
          };
    }
