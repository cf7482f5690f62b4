use Rattle.std.proofs.Common.{◌≡◌}
use Rattle.fields.specs.Coming.{coming}
use Rattle.sheet.specs.Order.{order_from, order_fault}
use Rattle.sheet.proofs.order.first_fault.Given as goal

-- the fault of what is left is the fault of the whole
abbrev pub invariant-loop-field : goal.invariant-loop-field
invariant-loop-field g l =
    let rows = g.S.Sheet.rows l.sheet in
    order_fault rows l.text ≡ order_from rows l.text l.last (coming l.field-iterator)
