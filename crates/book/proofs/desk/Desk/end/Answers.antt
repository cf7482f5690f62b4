-- What the striking, the taking back and the emptying come to together.
use Rattle.std.proofs.Common.{◌≡◌, ℕ, List, set, Some, None, Option, sym, refl, ap, ◌∙◌, subst, arith}
use Rattle.std.proofs.lemmas.List.{length-map}
use Rattle.std.proofs.lemmas.Option.{slice_get_within}
use Rattle.register.specs.declared.call.Call.TheVariants.{Strike}
use Rattle.register.specs.declared.call.Answer.TheVariants.{Number}
use Rattle.register.specs.Runs.{view_of}
use Rattle.book.specs.declared.record.Standing.{Standing}
use Rattle.book.specs.Book.{Instruction, at, meaning, meanings, instruction_of}
use Rattle.book.specs.Moves.{Ending}
use Rattle.book.proofs.Leading.{led_by, served_here, served_still}
use Rattle.book.proofs.Meant.{meant_at, meant_set}
use Rattle.book.proofs.Moving.{ended}
use Rattle.book.proofs.desk.Desk.end.Goals as goal

pub returns-in-Some : goal.returns-in-Some
returns-in-Some g c =
    let d = c.args.self.now in
    let n = c.args.n in
    let st = c.in-Some.standing in
    let rs = d.records.now in
    let k = c.strike.ensures in
    let ps = g.R.Register.pairs d.register.now in
    let qs = g.R.Register.pairs c.strike.new.self in
    let scale = g.T.Tally.scale d.tally.now in
    let v = g.T.Tally.value d.tally.now in
    let w = g.T.Tally.value c.withdraw_votes.new.tally in
    let there = meant_at rs n c.index-self-n.result (Some st) c.if-n-self.true (sym c.take.ensures.value ∙ c.in-Some.is) in
    record {
      served = record {
        register = refl;
        tally = refl;
        records = refl;
        led = led_by g.R.Register d.register.now (Strike st.lodging.reference) (Number c.strike.result) c.strike.new.self k.fixed k.ruled;
        scale = c.withdraw_votes.ensures.scale;
      };
      ending = λ o f i was.
          let is : instruction_of st ≡ i = cc in
          let e = ended scale (g.met.T.Tally.group d.tally.now) ps v (meanings rs) f qs w n (instruction_of st) c.strike.result there (k.strikes o) c.withdraw_votes.ensures.value in
          let P : List (Option Instruction) → Instruction → Type 0 = λ us x. Ending scale (at (view_of ps) v (meanings rs)) n x (at (view_of qs) w us) in (
            k.keeps o,
            subst (λ (us : List (Option Instruction)). P us i) (sym (meant_set rs n c.take.new.self ∙ ap (λ (r : Option Standing). set (meanings rs) n (meaning r)) c.take.ensures.after))
                (subst (P (set (meanings rs) n None)) is e),
          );
    }

pub returns-in_default : goal.returns-in_default
returns-in_default g c =
    let d = c.args.self.now in
    let none = meant_at d.records.now c.args.n c.index-self-n.result None c.if-n-self.true (sym c.take.ensures.value ∙ c.in_default.is) in
    record {
      served = served_still g.R.Register g.T.Tally d _ refl refl refl;
      ending = λ o f i was. let z : ◌≡◌ {A = ℕ} 0 1 = cc in absurd (omega arith);
    }

-- past the records nothing stands
pub returns-else-n-self : goal.returns-else-n-self
returns-else-n-self g c =
    let d = c.args.self.now in
    record {
      served = served_here g.R.Register g.T.Tally d;
      ending = λ o f i was. let h = slice_get_within (meanings d.records.now) c.args.n (Some i) was in let k = length-map d.records.now meaning in absurd (omega arith);
    }
