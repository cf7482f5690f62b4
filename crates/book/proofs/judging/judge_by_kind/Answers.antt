use Rattle.book.proofs.judging.judge_by_kind.Goals as goal

pub returns-in-Report : goal.returns-in-Report
returns-in-Report g c = rw c.in-Report.is (c.judge_report.ensures c.in-Report.field-2)
