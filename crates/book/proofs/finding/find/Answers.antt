-- The record that the register names tells what is found.
use Rattle.std.proofs.Common.{◌≡◌, ℕ, Bool, cond, List, Some, None, Option, sym, refl, ap, ◌∙◌, Bor}
use Rattle.std.specs.Option.{option_map}
use Rattle.register.specs.declared.call.Call.TheVariants.{Find}
use Rattle.register.specs.declared.call.Answer.TheVariants.{Number}
use Rattle.register.specs.Pairs.{look}
use Rattle.book.specs.declared.record.Standing.{Standing}
use Rattle.book.specs.Book.{in_record, meanings, instruction_of}
use Rattle.book.specs.Findings.{finding}
use Rattle.book.proofs.Leading.{alike_view, led_by, led_here}
use Rattle.book.proofs.finding.find.Goals as goal

-- one mapping after another
twice : (o : Option (Bor Standing)) → option_map (λ x. finding (instruction_of x.now)) o ≡ option_map finding (option_map (λ x. instruction_of x.now) o)
twice None = refl
twice (Some x) = refl

pub returns-in_err-reference-clause-led : goal.returns-in_err-reference-clause-led
returns-in_err-reference-clause-led g c = led_here g.R.Register c.args.register.now

pub returns : goal.returns
returns g c =
    let k = c.look_up-number.ensures in
    let n = c.look_up-number.result in
    let ps = g.R.Register.pairs c.args.register.now in
    let rs = meanings c.args.records.now in
    let q : List ℕ = c.args.text.now in
    let a = c.in_ok-reference.ensures in
    record {
      led = led_by g.R.Register c.args.register.now (Find c.in_ok-reference.reference) (Number n) c.look_up-number.new.register k.fixed k.ruled;
      tells = λ o. record {
        ordered = k.keeps o;
        same = alike_view ps (g.R.Register.pairs c.look_up-number.new.register) (k.finds o).same;
        answer = c.tell.ensures ∙ twice c.standing_in.result
            ∙ ap (option_map finding) c.standing_in.ensures
            ∙ ap (λ (m : Option ℕ). option_map finding (in_record rs m)) ((k.finds o).answer ∙ ap (look ps) a.2)
            ∙ sym (ap (λ (b : Bool). cond b (option_map finding (in_record rs (look ps q))) None) a.0);
      };
    }
