-- Between what is below and what is above lies ever less.
use Rattle.std.proofs.Common.{◌≡◌, ◌+◌, ◌-◌, ◌/◌, ◌<◌, length, Ok, Err, sym, arith}
use Rattle.std.proofs.lemmas.List.{get_or_default}
use Rattle.register.proofs.Halving.{spent_more, found_count, missed_count}
use Rattle.register.specs.Places.{Sought}
use Rattle.register.specs.Spelling.{spelling}
use Rattle.register.proofs.Ascents.{compared_found, compared_missed}
use Rattle.register.proofs.row.search_in.Goals as goal

pub returns : goal.returns
returns g c =
    let inv = c.loop-low.invariant in
    let xs = c.args.entries.now in
    let e : c.loop-low.low ≡ c.loop-low.high = omega arith in
    let none : c.loop-low.high - c.loop-low.low ≡ 0 = omega arith in
    let s : Sought xs (spelling c.args.reference.now) (Err c.loop-low.low) = (omega arith, inv.2, λ lt d. rw e (inv.3 (omega arith) d)) in
    record { sought = s; compared = compared_missed xs c.loop-low.low _ c.loop-low.compared s inv.4.bound (missed_count _ _ _ inv.4 none) }

pub returns-in-Equal : goal.returns-in-Equal
returns-in-Equal g c =
    let inv = c.loop-low.invariant in
    let xs = c.args.entries.now in
    let mid = c.loop-low.low + (c.loop-low.high - c.loop-low.low) / 2 in
    let lt : mid < length xs = omega arith in
    let f = c.in-Equal.ensures in
    let s : Sought xs (spelling c.args.reference.now) (Ok mid) = (lt, λ d. rw (get_or_default xs mid d c.index-entries-mid.result lt) (sym f)) in
    record { sought = s; compared = compared_found xs mid _ c.index-entries-mid.result c.loop-low.compared s (found_count _ _ _ inv.4 (omega arith)) }

pub loop-low-preserved-in-Less : goal.loop-low-preserved-in-Less
loop-low-preserved-in-Less g c =
    let inv = c.loop-low.invariant in
    let xs = c.args.entries.now in
    let mid = c.loop-low.low + (c.loop-low.high - c.loop-low.low) / 2 in
    let lt : mid < length xs = omega arith in
    let f = c.in-Less.ensures in
    (omega arith, omega arith, λ j e d. (let m : j ≡ mid = omega arith in rw (m, get_or_default xs mid d c.index-entries-mid.result lt) (sym f)), inv.3, spent_more (length xs) c.loop-low.compared (c.loop-low.high - c.loop-low.low) (c.loop-low.high - (mid + 1)) inv.4 (omega arith) (omega arith) (omega arith))

pub loop-low-preserved : goal.loop-low-preserved
loop-low-preserved g c =
    let inv = c.loop-low.invariant in
    let xs = c.args.entries.now in
    let mid = c.loop-low.low + (c.loop-low.high - c.loop-low.low) / 2 in
    let lt : mid < length xs = omega arith in
    let f = c.in-Greater.ensures in
    (omega arith, omega arith, inv.2, λ l d. rw (get_or_default xs mid d c.index-entries-mid.result lt) (sym f), spent_more (length xs) c.loop-low.compared (c.loop-low.high - c.loop-low.low) (mid - c.loop-low.low) inv.4 (omega arith) (omega arith) (omega arith))
