-- A new pair goes behind the others.
use Rattle.std.proofs.Common.{cond, length, is_ok, sym, ap, ◌∙◌, arith}
use Rattle.register.specs.Pairs.{Pair, Distinct}
use Rattle.register.specs.Slots.{held}
use Rattle.register.proofs.Pairs.{distinct_inserted}
use Rattle.register.proofs.Edits.{entered_if, either, behind_insert}
use Rattle.register.proofs.arrival.ArrivalListRegister.enter.Goals as goal

pub returns-in-None : goal.returns-in-None
returns-in-None c =
    let ps = held c.args.self.now.slots in
    let p : Pair = record { reference = c.args.reference; value = c.args.number } in
    let is = c.push.ensures.held ∙ ap (λ l. cond (is_ok c.push.result) l ps) (sym (behind_insert ps p)) in
    record {
      fixed = c.push.ensures.fixed;
      keeps = λ o. either Distinct (is_ok c.push.result) _ ps _ is (distinct_inserted ps (length ps) p c.in-None.ensures.placed (omega arith) o) o;
      enters = λ o. entered_if _ ps _ (length ps) p c.push.result c.in-None.ensures.placed (omega arith) c.push.ensures.answer is;
      ruled = λ o. c.push.ensures.held;
    }
