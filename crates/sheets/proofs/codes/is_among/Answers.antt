use Rattle.std.proofs.Common.{◌∙◌, List, ℕ, Bor}
use Rattle.std.specs.Str.{bytes_eq}
use Rattle.sheets.proofs.Looking.{any_mapped}
use Rattle.sheets.proofs.codes.is_among.Goals as goal

pub returns : goal.returns
returns c = c.contains.ensures.value ∙ any_mapped (λ (k : Bor (List ℕ)). k.now) (λ k. bytes_eq k c.args.code.now) c.args.codes.now
