-- What the entries found say is what the text says, and that is something.
use Rattle.std.proofs.Common.{is_some, ap, ◌∙◌, rules}
use Rattle.message.proofs.Outcome.{has_read, said_something}
use Rattle.message.proofs.reading.read_message.Goals as goal

pub unwrap-requires : goal.unwrap-requires
unwrap-requires c =
    let h = has_read c.args.number c.args.text.now c.args.table.now c.read.new.table c.in_ok-count.count c.in_ok-count.ensures in
    said_something c.decode.result (ap is_some (c.decode.ensures ∙ h.same) ∙ h.there)

pub returns : goal.returns
returns c =
    let h = has_read c.args.number c.args.text.now c.args.table.now c.read.new.table c.in_ok-count.count c.in_ok-count.ensures in
    let e = c.unwrap.ensures in
    record { outcome = (c.in_ok-count.count, h.value, search (rules, e, h.same)); entries = h.entries }
