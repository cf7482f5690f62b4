use Rattle.std.proofs.Common.{ap, ◌∙◌}
use Rattle.std.specs.Option.{option_map}
use Rattle.format.specs.Identifier.{meant}
use Rattle.format.proofs.IdentifierLaws.{text_within, parts_found}
use Rattle.format.proofs.identifiers.identifier_of.Goals as goal

pub overflow_sub-value : goal.overflow_sub-value
overflow_sub-value c = let r = c.in_ok-issuer in text_within c.args.value.now r.text.0.now r.issuer r.code r.country r.ensures

pub returns : goal.returns
returns c =
    let v = c.args.value.now in
    let r = c.in_ok-issuer in
    let h = parts_found v r.text.0.now r.issuer r.code r.country c.is_text.result r.ensures c.is_text.ensures in
    record { value = c.then_some.ensures ∙ h.0; meaning = ap (option_map (meant v)) c.then_some.ensures ∙ h.1 }
