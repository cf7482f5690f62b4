-- What was struck is forgotten, and all else stands below as it did.
use Rattle.register.proofs.Agreeing.{struck_front}
use Rattle.register.proofs.front.FrontRegister.strike.Goals as goal

pub returns : goal.returns
returns g c =
    let p = c.strike_and_forget.ensures in
    record {
      fixed = p.fixed;
      keeps = λ o. (p.keeps o.0, struck_front g.R.Register.pairs g.R.Register.rule c.args.self.now c.strike_and_forget.new.self c.args.reference.now c.strike_and_forget.result p.ruled (p.strikes o.0) o.1);
      strikes = λ o. p.strikes o.0;
      ruled = p.ruled;
    }
