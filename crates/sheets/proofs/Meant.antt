-- What the rows that are kept mean. Assumes nothing.
use Rattle.std.proofs.Common.{◌≡◌, ℕ, List, Option, map, option_map, refl, sym, ap, ◌∙◌}
use Rattle.std.specs.List.{slice_get}
use Rattle.std.proofs.lemmas.Option.{slice_get-map}
use Rattle.sheet.specs.Rows.{Row, row_of}
use Rattle.sheet.specs.declared.rows.Row.{Row as KeptRow}
use Rattle.sheets.specs.declared.standard.StandardSheet.{StandardSheet}
use Rattle.sheets.specs.declared.standard.StandardSheet.TheVariants.{Mt565, Mt567}
use Rattle.sheets.specs.Standards.{rows_of}
use Rattle.sheets.specs.Kept.{kept_of}

pub kept_means : (s : StandardSheet) → map row_of (kept_of s) ≡ rows_of s
kept_means Mt565 = refl
kept_means Mt567 = refl

pub row_meant : (s : StandardSheet) (i : ℕ) (r : Option KeptRow) → r ≡ slice_get (kept_of s) i → option_map row_of r ≡ slice_get (rows_of s) i
row_meant s i r e =
    ap (option_map row_of) e ∙ sym (slice_get-map row_of (kept_of s) i) ∙ ap (λ (l : List Row). slice_get l i) (kept_means s)
