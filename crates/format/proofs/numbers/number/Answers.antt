use Rattle.std.proofs.Common.{◌≡◌, ◌+◌, ◌-◌, sym, ◌∙◌, arith}
use Rattle.format.proofs.Steps.{number_first, on_more, in_range, room_first, room_more, room_below, room_fits}
use Rattle.format.proofs.numbers.number.Goals as goal

pub loop-more-init : goal.loop-more-init
loop-more-init g c =
    let chars = g.T.Text.chars in
    let h = in_range 49 57 c.in_ok-first.first (chars c.args.text) (chars c.in_ok-first.rest) c.in_ok-first.ensures in
    let e = c.from-n.ensures in
    rw e (
      number_first c.args.most c.in_ok-first.first (chars c.args.text) (chars c.in_ok-first.rest) c.in_ok-first.ensures,
      room_first (c.in_ok-first.first - 48) c.args.most (omega arith) (omega arith),
    )

pub returns-in_default-clause-below : goal.returns-in_default-clause-below
returns-in_default-clause-below g c = room_below c.args.most c.loop-more.n (c.args.most - c.loop-more._more) c.loop-more.invariant.1

pub overflow_mul-n : goal.overflow_mul-n
overflow_mul-n g c = omega (arith, room_fits c.args.most c.loop-more.n (c.args.most - c.loop-more._more) (omega arith) c.loop-more.invariant.1)

pub overflow_add-n : goal.overflow_add-n
overflow_add-n g c =
    let chars = g.T.Text.chars in
    let h = in_range 48 57 c.in-Some.read.0 (chars c.loop-more.rest) (chars c.in-Some.read.1) c.in-Some.ensures in
    omega (arith, room_fits c.args.most c.loop-more.n (c.args.most - c.loop-more._more) (omega arith) c.loop-more.invariant.1)

pub loop-more-preserved : goal.loop-more-preserved
loop-more-preserved g c =
    let chars = g.T.Text.chars in
    let h = in_range 48 57 c.in-Some.read.0 (chars c.loop-more.rest) (chars c.in-Some.read.1) c.in-Some.ensures in
    let k = c.args.most - c.loop-more._more in
    let z : c.args.most - (c.loop-more._more + 1) ≡ k - 1 = omega arith in
    let e = c.from.ensures in
    rw (e, z) (
      sym (on_more k c.loop-more.n c.in-Some.read.0 (chars c.loop-more.rest) (chars c.in-Some.read.1) (omega arith) c.in-Some.ensures) ∙ c.loop-more.invariant.0,
      room_more c.args.most c.loop-more.n (c.in-Some.read.0 - 48) k (omega arith) (omega arith) c.loop-more.invariant.1,
    )
