-- What the entering, the adding and the filling come to together.
use Rattle.std.proofs.Common.{◌≡◌, ℕ, false, List, Some, None, Option, sym, refl, subst, arith}
use Rattle.std.proofs.lemmas.List.{length-map}
use Rattle.std.proofs.lemmas.Option.{slice_get_within}
use Rattle.register.specs.declared.call.Call.TheVariants.{Enter}
use Rattle.register.specs.declared.call.Answer.TheVariants.{Verdict}
use Rattle.register.specs.Runs.{view_of}
use Rattle.book.specs.declared.record.State.TheVariants.{Lodged}
use Rattle.book.specs.Book.{Instruction, at, meaning, meanings, terms_of}
use Rattle.book.specs.Moves.{Placing}
use Rattle.book.proofs.Leading.{led_by, served_here}
use Rattle.book.proofs.Meant.{meant_set}
use Rattle.book.proofs.Moving.{accepted, placed}
use Rattle.book.proofs.desk.Desk.place.Goals as goal

-- past the records none is empty
pub returns-then-n-self : goal.returns-then-n-self
returns-then-n-self g c =
    let d = c.args.self.now in
    record {
      served = served_here g.R.Register g.T.Tally d;
      placing = λ o f was un few. let h = slice_get_within (meanings d.records.now) c.args.n None was in let k = length-map d.records.now meaning in absurd (omega arith);
    }

pub returns-then-is_ok : goal.returns-then-is_ok
returns-then-is_ok g c =
    let d = c.args.self.now in
    let l = c.args.lodging.now in
    let rs = d.records.now in
    let k = c.enter.ensures in
    let ps = g.R.Register.pairs d.register.now in
    let qs = g.R.Register.pairs c.enter.new.self in
    let scale = g.T.Tally.scale d.tally.now in
    let v = g.T.Tally.value d.tally.now in
    let w = g.T.Tally.value c.count_votes.new.tally in
    record {
      served = record {
        register = refl;
        tally = refl;
        records = refl;
        led = led_by g.R.Register d.register.now (Enter l.reference c.args.n) (Verdict c.enter.result) c.enter.new.self k.fixed k.ruled;
        scale = c.count_votes.ensures.scale;
      };
      placing = λ o f was un few.
          let p = placed scale (g.met.T.Tally.group d.tally.now) ps v (meanings rs) f (g.R.Register.room d.register.now) qs c.args.n (terms_of l) c.enter.result (k.enters o) un few w was c.count_votes.ensures.value in
          (k.keeps o, subst (λ (us : List (Option Instruction)). Placing scale (at (view_of ps) v (meanings rs)) (terms_of l) (at (view_of qs) w us)) (sym (meant_set rs c.args.n (Some (record { lodging = l; state = Lodged false })))) p);
    }

pub returns-else-is_ok : goal.returns-else-is_ok
returns-else-is_ok g c =
    let d = c.args.self.now in
    let l = c.args.lodging.now in
    let k = c.enter.ensures in
    record {
      served = record {
        register = refl;
        tally = refl;
        records = refl;
        led = led_by g.R.Register d.register.now (Enter l.reference c.args.n) (Verdict c.enter.result) c.enter.new.self k.fixed k.ruled;
        scale = refl;
      };
      placing = λ o f was un few.
          let a = accepted (g.T.Tally.scale d.tally.now) (g.met.T.Tally.group d.tally.now) (g.R.Register.pairs d.register.now) (g.T.Tally.value d.tally.now) (meanings d.records.now) f (g.R.Register.room d.register.now) (g.R.Register.pairs c.enter.new.self) c.args.n (terms_of l) c.enter.result (k.enters o) un few in
          let b = c.if-is_ok.false in
          let d = c.is_ok.ensures.value in
          let z : ◌≡◌ {A = ℕ} 0 1 = cc in absurd (omega arith);
    }
