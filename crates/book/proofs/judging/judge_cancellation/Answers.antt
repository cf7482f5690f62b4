-- What the register answers leads to what is found.
use Rattle.std.proofs.Common.{Ok, Option, ap, ◌∙◌}
use Rattle.register.specs.Spelling.{spelling}
use Rattle.book.specs.Book.{Instruction, in_record, meanings}
use Rattle.book.specs.Orders.{claimed}
use Rattle.book.specs.Orders.Ordered.{cancel}
use Rattle.book.specs.Verdicts.{cancellation_fault}
use Rattle.book.proofs.Judgements.{judges_once, passed_as, refused_as}
use Rattle.book.proofs.judging.judge_cancellation.Goals as goal

pub returns-in_err-check_cancellation : goal.returns-in_err-check_cancellation
returns-in_err-check_cancellation g c =
    let k = c.look_up-number.ensures in
    let rs = c.args.records.now in
    judges_once g.R.Register rs c.args.register.now c.args.previous.now c.look_up-number.result c.look_up-number.new.register k.fixed k.keeps k.finds k.ruled (cancel (spelling c.args.previous.now) (claimed c.args.claim.now)) _
    (λ o e. refused_as c.check_cancellation.result c.in_err-check_cancellation.field-0.0 _ _ _ (c.check_cancellation.ensures ∙ ap (λ (x : Option Instruction). cancellation_fault x (claimed c.args.claim.now)) (c.standing_in-standing.ensures ∙ ap (in_record (meanings rs)) e)) c.in_err-check_cancellation.was c.from_residual.ensures.1)

pub returns : goal.returns
returns g c =
    let k = c.look_up-number.ensures in
    let rs = c.args.records.now in
    judges_once g.R.Register rs c.args.register.now c.args.previous.now c.look_up-number.result c.look_up-number.new.register k.fixed k.keeps k.finds k.ruled (cancel (spelling c.args.previous.now) (claimed c.args.claim.now)) _
    (λ o e. ap Ok e ∙ passed_as c.check_cancellation.result c.in_ok-check_cancellation.field-0 _ _ (c.check_cancellation.ensures ∙ ap (λ (x : Option Instruction). cancellation_fault x (claimed c.args.claim.now)) (c.standing_in-standing.ensures ∙ ap (in_record (meanings rs)) e)) c.in_ok-check_cancellation.was)
