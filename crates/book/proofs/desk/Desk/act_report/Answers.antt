-- The record is written with the new state, or the instruction ends; one that is empty or missing has been refused.
use Rattle.std.proofs.Common.{◌≡◌, ℕ, Some, None, sym, refl, ap, ◌∙◌, subst, arith}
use Rattle.book.specs.declared.record.State.{State}
use Rattle.book.specs.States.{turned}
use Rattle.book.specs.Book.{Instruction, held, in_record, instruction_of, meanings}
use Rattle.book.specs.Orders.Ordered.{report}
use Rattle.book.specs.Acting.{Restates}
use Rattle.book.proofs.Leading.{served_here, served_still}
use Rattle.book.proofs.Meant.{meant_at, meant_past}
use Rattle.book.proofs.Carrying.{report_goes, missing_acts, restated_acts, ended_acts, unread, with_record, stands_nowhere, restates_there}
use Rattle.book.proofs.desk.Desk.act_report.Goals as goal

pub returns-in-Some-after : goal.returns-in-Some-after
returns-in-Some-after g c =
    let d = c.args.self.now in
    let n = c.in-Some.n in
    let st = c.in-Some-records.standing in
    let state = c.in-Some-after.state in
    let was = meant_at d.records.now n c.index-self-n.result (Some st) c.if-n-self.false c.in-Some-records.is in
    record {
      acts = λ q process code e.
          restated_acts g.R.Register g.T.Tally d (g.met.T.Tally.group d.tally.now) q (report q process code) c.args.number n refl c.in-Some.is (instruction_of st)
          was
          state (with_record d n (Some c.restate.new.standing)) (report_goes q process code (instruction_of st) (Some state) (ap (turned st.state) e ∙ sym c.in-Some-after.ensures))
          (served_still g.R.Register g.T.Tally d (with_record d n (Some c.restate.new.standing)) refl refl refl) refl refl
          ((restates_there d n st c.restate.new.standing state was c.restate.ensures).records (instruction_of st) was);
      turns = λ k i s names stands goes.
          let same : n ≡ k = cc in
          let w : instruction_of st ≡ i = cc in
          let e : turned st.state c.args.event ≡ Some s = ap (λ (x : Instruction). turned x.state c.args.event) w ∙ goes in
          let after = c.in-Some-after.ensures in
          let is : state ≡ s = cc in
          subst (λ (m : ℕ). Restates d m s (with_record d n (Some c.restate.new.standing))) same
          (subst (λ (x : State). Restates d n x (with_record d n (Some c.restate.new.standing))) is (restates_there d n st c.restate.new.standing state was c.restate.ensures));
    }

pub returns-in-None : goal.returns-in-None
returns-in-None g c =
    let d = c.args.self.now in
    let n = c.in-Some.n in
    let st = c.in-Some-records.standing in
    let was = meant_at d.records.now n c.index-self-n.result (Some st) c.if-n-self.false c.in-Some-records.is in
    record {
      acts = λ q process code e.
          ended_acts g.R.Register g.T.Tally d (g.met.T.Tally.group d.tally.now) q (report q process code) c.args.number n refl c.in-Some.is (instruction_of st)
          was
          c.end.new.self (report_goes q process code (instruction_of st) None (ap (turned st.state) e ∙ sym c.in-None.ensures))
          (unread g.R.Register g.T.Tally d n c.index-self-n.result (Some st) c.in-Some-records.is c.end.new.self c.end.ensures);
      turns = λ k i s names stands goes.
          let same : n ≡ k = cc in
          let w : instruction_of st ≡ i = cc in
          let e : turned st.state c.args.event ≡ Some s = ap (λ (x : Instruction). turned x.state c.args.event) w ∙ goes in
          let after = c.in-None.ensures in
          let z : ◌≡◌ {A = ℕ} 0 1 = cc in absurd (omega arith);
    }

pub returns-in_default-records : goal.returns-in_default-records
returns-in_default-records g c =
    let d = c.args.self.now in
    let n = c.in-Some.n in
    let nothing = ap (in_record (meanings d.records.now)) c.in-Some.is ∙ ap held (meant_at d.records.now n c.index-self-n.result None c.if-n-self.false c.in_default-records.is) in
    record {
      acts = λ q process code e. missing_acts g.R.Register g.T.Tally d q (report q process code) c.args.number _ refl nothing (served_still g.R.Register g.T.Tally d _ refl refl refl);
      turns = λ k i s names stands _. absurd (stands_nowhere (meanings d.records.now) c.args.number k i nothing names stands);
    }

pub returns-then-n-self : goal.returns-then-n-self
returns-then-n-self g c =
    let d = c.args.self.now in
    let nothing = ap (in_record (meanings d.records.now)) c.in-Some.is ∙ ap held (meant_past d.records.now c.in-Some.n c.if-n-self.true) in
    record {
      acts = λ q process code e. missing_acts g.R.Register g.T.Tally d q (report q process code) c.args.number d refl nothing (served_here g.R.Register g.T.Tally d);
      turns = λ k i s names stands _. absurd (stands_nowhere (meanings d.records.now) c.args.number k i nothing names stands);
    }

pub returns-in_default : goal.returns-in_default
returns-in_default g c =
    let d = c.args.self.now in
    let nothing = ap (in_record (meanings d.records.now)) c.in_default.is in
    record {
      acts = λ q process code e. missing_acts g.R.Register g.T.Tally d q (report q process code) c.args.number d refl nothing (served_here g.R.Register g.T.Tally d);
      turns = λ k i s names stands _. absurd (stands_nowhere (meanings d.records.now) c.args.number k i nothing names stands);
    }
