use Rattle.std.proofs.Common.{◌≡◌, ◌+◌, ◌-◌, suc, sym, ◌∙◌, arith}
use Rattle.std.proofs.lemmas.List.{length-set, take_more_set}
use Rattle.format.proofs.IdentifierLaws.{capital_more}
use Rattle.format.proofs.identifiers.capitals.Goals as goal

pub loop-letter-preserved : goal.loop-letter-preserved
loop-letter-preserved g c =
    let i = c.loop-letter.letter-index in
    let z : g.row.N - i ≡ suc (g.row.N - (i + 1)) = omega arith in
    let h = c.loop-letter.invariant in (
      rw (take_more_set c.loop-letter.letter-items i c.in_ok-letter.field-0-0 (omega arith))
          (sym (capital_more _ _ _ _ _ _ z c.in_ok-letter.ensures) ∙ h.0),
      length-set c.loop-letter.letter-items i c.in_ok-letter.field-0-0 ∙ h.1,
    )
