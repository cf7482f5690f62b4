-- The first that is found, and whether there is another.
use Rattle.std.proofs.Common.{sym, ap, ◌∙◌, rules, tests}
use Rattle.std.specs.Option.{option_map}
use Rattle.message.specs.Instructions.{rights_of}
use Rattle.message.proofs.Holders.{no_holder, holders_told}
use Rattle.message.proofs.values.ReadText.rights.Goals as goal

pub returns-in_err-rights : goal.returns-in_err-rights
returns-in_err-rights c =
    ap (option_map rights_of) c.from_residual.ensures
    ∙ sym (no_holder c.args.self.text.now _ c.filter_map-all.result.f (λ x r q k. search (rules, tests)) c.args.self.entries.now c.filter_map-all.result c.next.new.self
    c.next.new.self c.next.result c.next.result (cc) (search rules) c.next.ensures.steps c.in_err-rights.was)

pub returns : goal.returns
returns c =
    sym (holders_told c.args.self.text.now _ c.filter_map-all.result.f (λ x r q k. search (rules, tests)) c.args.self.entries.now c.filter_map-all.result c.next.new.self
    c.next-2.new.self c.next.result c.next-2.result (cc) (search rules) c.next.ensures.steps c.in_ok-rights.rights c.in_ok-rights.was c.next-2.ensures.steps c.alone.result c.alone.ensures)
