-- What the register answers leads to what is found.
use Rattle.std.proofs.Common.{Ok, Option, ap, ◌∙◌}
use Rattle.register.specs.Spelling.{spelling}
use Rattle.book.specs.Book.{Instruction, in_record, meanings}
use Rattle.book.specs.Orders.Ordered.{report}
use Rattle.book.specs.Verdicts.{report_fault}
use Rattle.book.proofs.Judgements.{judges_once, passed_as, refused_as}
use Rattle.book.proofs.judging.judge_report.Goals as goal

pub returns-in_err-check_report : goal.returns-in_err-check_report
returns-in_err-check_report g c = λ code.
    let k = c.look_up-number.ensures in
    let rs = c.args.records.now in
    judges_once g.R.Register rs c.args.register.now c.args.related.now c.look_up-number.result c.look_up-number.new.register k.fixed k.keeps k.finds k.ruled (report (spelling c.args.related.now) c.args.process code) _
    (λ o e. refused_as c.check_report.result c.in_err-check_report.field-0.0 _ _ _ (c.check_report.ensures ∙ ap (λ (x : Option Instruction). report_fault x c.args.process) (c.standing_in-standing.ensures ∙ ap (in_record (meanings rs)) e)) c.in_err-check_report.was c.from_residual.ensures.1)

pub returns : goal.returns
returns g c = λ code.
    let k = c.look_up-number.ensures in
    let rs = c.args.records.now in
    judges_once g.R.Register rs c.args.register.now c.args.related.now c.look_up-number.result c.look_up-number.new.register k.fixed k.keeps k.finds k.ruled (report (spelling c.args.related.now) c.args.process code) _
    (λ o e. ap Ok e ∙ passed_as c.check_report.result c.in_ok-check_report.field-0 _ _ (c.check_report.ensures ∙ ap (λ (x : Option Instruction). report_fault x c.args.process) (c.standing_in-standing.ensures ∙ ap (in_record (meanings rs)) e)) c.in_ok-check_report.was)
