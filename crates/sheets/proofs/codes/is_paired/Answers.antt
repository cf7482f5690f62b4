use Rattle.std.proofs.Common.{◌∙◌, ◌&&◌, List, ℕ, Bor}
use Rattle.std.specs.Str.{bytes_eq}
use Rattle.fields.specs.declared.headers.Qualifier.{Qualifier}
use Rattle.sheet.specs.Rows.{is_qualifier}
use Rattle.sheets.proofs.Looking.{any_mapped}
use Rattle.sheets.proofs.codes.is_paired.Goals as goal

pub returns : goal.returns
returns c =
    c.contains.ensures.value
    ∙ any_mapped (λ (p : Qualifier × Bor (List ℕ)). (p.0, p.1.now)) (λ p. is_qualifier p.0 c.args.qualifier && bytes_eq p.1 c.args.code.now) c.args.pairs.now
