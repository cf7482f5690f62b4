use Rattle.sheet.proofs.Judging.{judged as is_judged, only as no_other, read}
use Rattle.sheet.proofs.order.order_fault.Goals as goal

pub returns : goal.returns
returns g c =
    let rows = g.S.Sheet.rows c.args.sheet.now in
    let law = g.S.Sheet.lawful c.args.sheet.now in
    let text = c.args.text.now in
    let r = c.first_fault.result in
    let e = c.first_fault.ensures in
    record { value = e; judged = is_judged rows law text r e; only = no_other rows law text r e; reads = read rows law }
