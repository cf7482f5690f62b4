-- A remembered answer agrees with the pairs below; any other comes from there.
use Rattle.register.proofs.Agreeing.{found_front}
use Rattle.register.proofs.front.FrontRegister.find.Goals as goal

pub returns : goal.returns
returns g c =
    let p = c.recall_or_ask.ensures in
    record {
      fixed = p.fixed;
      keeps = λ o. (p.keeps o.0, (found_front g.R.Register.pairs g.R.Register.rule c.args.self.now c.recall_or_ask.new.self c.args.reference.now c.recall_or_ask.result p.ruled (λ none. p.finds none o.0) o.1).1);
      finds = λ o. (found_front g.R.Register.pairs g.R.Register.rule c.args.self.now c.recall_or_ask.new.self c.args.reference.now c.recall_or_ask.result p.ruled (λ none. p.finds none o.0) o.1).0;
      ruled = p.ruled;
    }
