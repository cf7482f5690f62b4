-- Each call goes on from where the one before it left off.
use Rattle.std.proofs.Common.{◌≡◌, arith}
use Rattle.register.specs.Runs.{Answered}
use Rattle.register.proofs.Running.{ran_next, carried_from}
use Rattle.register.proofs.run.carry_out.Goals as goal

pub loop-i-preserved : goal.loop-i-preserved
loop-i-preserved g c =
    let r = g.R.Register in
    ran_next (Answered r.pairs r.room r.ordered r.rule) c.args.register.now c.loop-i.register c.answer.new.register c.args.calls.now c.loop-i.answers c.args.answers.now c.loop-i.i c.index-calls-i.result c.answer.result c.index-calls-i.is (omega arith) (omega arith) c.loop-i.invariant.1 c.loop-i.invariant.0 c.answer.ensures

pub returns : goal.returns
returns g c =
    let r = g.R.Register in
    let e : c.loop-i.i ≡ c.answerable-count.result = omega arith in
    let inv = c.loop-i.invariant in
    carried_from r.pairs r.room r.ordered r.rule c.args.register.now c.loop-i.register c.args.calls.now c.args.answers.now c.loop-i.answers c.answerable-count.result c.answerable-count.ensures (rw e at inv.1) (rw e at inv.0)
