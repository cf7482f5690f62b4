use Rattle.std.proofs.Common.{◌≡◌, ◌+◌, ◌-◌, ◌*◌, ◌^◌, ◌≤◌}
use Rattle.format.specs.Numbers.{number, number_on}
use Rattle.format.proofs.numbers.number.Given as goal

-- the number goes on from here to what it is from its start
abbrev pub invariant-loop-more : goal.invariant-loop-more
invariant-loop-more g l =
    let chars = g.T.Text.chars in
    (number_on (l.most - l._more) l.n (chars l.rest) ≡ number l.most (chars l.fn.text)) × ((l.n + 1) * 10 ^ (l.most - l._more) ≤ 10 ^ l.most)
