-- Both sheets keep the law, by computing. Assumes nothing.
use Rattle.std.specs.Prelude.{refl}
use Rattle.sheet.specs.Lawful.{Lawful}
use Rattle.sheets.specs.declared.standard.StandardSheet.{StandardSheet}
use Rattle.sheets.specs.declared.standard.StandardSheet.TheVariants.{Mt565, Mt567}
use Rattle.sheets.specs.Standards.{rows_of}

pub all_lawful : (s : StandardSheet) → Lawful (rows_of s)
all_lawful Mt565 = refl
all_lawful Mt567 = refl
