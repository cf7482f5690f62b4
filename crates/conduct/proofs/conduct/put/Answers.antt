-- A closing, and a call that cannot be made, leave the register alone.
use Rattle.std.proofs.Common.{None, true, sym, refl, ap, subst, inl, inr}
use Rattle.book.proofs.Leading.{led_here}
use Rattle.conduct.specs.declared.call.Call.{Call}
use Rattle.conduct.specs.Conducting.{notice_of, Goes}
use Rattle.conduct.proofs.conduct.put.Goals as goal

pub returns-in-Close-clause-led : goal.returns-in-Close-clause-led
returns-in-Close-clause-led g c = led_here g.R.Register c.args.register.now

pub returns-in-Take-call : goal.returns-in-Take-call
returns-in-Take-call g c = record {
  led = led_here g.R.Register c.args.register.now;
  scale = refl;
  notice = ap notice_of (sym c.in-Over.is);
  goes = rw c.in-Over.is (elim c.in-Take-call.is [
    | inl p ↦ subst (λ (q : Call). Goes true q None true) (sym p.2) (refl, refl)
    | inr e ↦ subst (λ (q : Call). Goes true q None true) (sym e) (refl, refl)
  ]);
  puts = λ o f. (o, refl);
}
