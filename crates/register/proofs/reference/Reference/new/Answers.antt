-- The text is copied to the front of sixteen zeros.
use Rattle.std.proofs.Common.{◌-◌, T, List, ℕ, length, sym, ap, ◌∙◌, subst}
use Rattle.register.specs.Texts.{shaped, unpadded}
use Rattle.register.proofs.Padding.{copied, text_parts, padded_shaped, unpadded_padded}
use Rattle.register.proofs.reference.Reference.new.Goals as goal

pub invariant_of-result : goal.invariant_of-result
invariant_of-result c =
    let t = c.args.text.now in
    let p = text_parts t (sym c.if-not-is_text.ensures) in
    let P : List ℕ → Type 0 = λ l. T (shaped l) in
    record { ok = subst P (sym (copied t _ c.copy_from_slice.ensures.after)) (padded_shaped t (16 - length t) p.0 p.2) }

pub returns : goal.returns
returns c =
    let t = c.args.text.now in
    let good = sym c.if-not-is_text.ensures in
    let is = copied t _ c.copy_from_slice.ensures.after in
    (good, is, ap unpadded is ∙ unpadded_padded t (16 - length t) (text_parts t good).2)
