-- Padding with zeros keeps the order.
use Rattle.std.proofs.Common.{◌≡◌, length, ◌∙◌, arith}
use Rattle.register.proofs.Padding.{order_unpadded, trails_from_shaped}
use Rattle.register.proofs.reference.Reference.compare.Goals as goal

pub returns : goal.returns
returns c =
    let a = c.args.self.now in
    let b = c.args.other.now in
    let n : length a.bytes ≡ length b.bytes = omega arith in
    c.cmp.ensures ∙ order_unpadded a.bytes b.bytes n (trails_from_shaped a.bytes a.ok) (trails_from_shaped b.bytes b.ok)
