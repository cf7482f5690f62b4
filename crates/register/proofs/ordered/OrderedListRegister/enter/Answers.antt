-- A new pair goes between those below it and those above it.
use Rattle.std.proofs.Common.{cond, is_ok, ap, ◌∙◌}
use Rattle.register.specs.Pairs.{Pair}
use Rattle.register.specs.Places.{Ascending}
use Rattle.register.specs.Slots.{held}
use Rattle.register.proofs.Ascents.{sought_none, ascending_entered, ranked_entered}
use Rattle.register.proofs.Edits.{entered_if, either}
use Rattle.register.proofs.ordered.OrderedListRegister.enter.Goals as goal

pub returns-in-Err : goal.returns-in-Err
returns-in-Err c =
    let ps = held c.args.self.now.slots in
    let p : Pair = record { reference = c.args.reference; value = c.args.number } in
    let s = c.in-Err.ensures.sought in
    let is = c.insert.ensures.held in
    record {
      fixed = c.insert.ensures.fixed;
      keeps = λ o. either Ascending (is_ok c.insert.result) _ ps _ is (ascending_entered ps c.in-Err.at p o s) o;
      enters = λ o. entered_if _ ps _ c.in-Err.at p c.insert.result (sought_none ps c.in-Err.at _ o s) s.0 c.insert.ensures.answer is;
      ruled = λ o. is ∙ ap (λ l. cond (is_ok c.insert.result) l ps) (ranked_entered ps c.in-Err.at p o s);
    }
