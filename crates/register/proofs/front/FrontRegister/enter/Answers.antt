-- An accepted pair is learnt as it stands below; a refused one leaves all as it was.
use Rattle.register.proofs.Agreeing.{entered_front}
use Rattle.register.proofs.front.FrontRegister.enter.Goals as goal

pub returns : goal.returns
returns g c =
    let p = c.enter_and_learn.ensures in
    record {
      fixed = p.fixed;
      keeps = λ o. (p.keeps o.0, entered_front g.R.Register.pairs g.R.Register.rule c.args.self.now c.enter_and_learn.new.self c.args.reference _ c.args.number c.enter_and_learn.result p.ruled (p.enters o.0) o.1);
      enters = λ o. p.enters o.0;
      ruled = p.ruled;
    }
