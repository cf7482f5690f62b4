-- What the two sheets mean. Assumes nothing.
use Rattle.std.specs.Prelude.{ℕ, Bool, true, false, cond, ◌&&◌, List, Some, None, Option, ◌==◌}
use Rattle.std.specs.List.{slice_get}
use Rattle.fields.specs.declared.headers.Qualifier.{Qualifier}
use Rattle.sheet.specs.declared.rows.Format.{Format}
use Rattle.sheet.specs.declared.rows.Format.TheVariants.{Reference, Code, Timestamp, Isin, Account, Owner, AlternateIdentifier, Quantity, OptionNumber, Vote}
use Rattle.sheet.specs.Rows.{Row, admits}
use Rattle.sheet.specs.Rows.Row.{Open, Close, Field}
use Rattle.sheets.specs.declared.standard.StandardSheet.{StandardSheet}
use Rattle.sheets.specs.declared.standard.StandardSheet.TheVariants.{Mt565, Mt567}
use Rattle.sheets.specs.Tables.{rows565, rows567}
use Rattle.sheets.specs.Codes.{among, instruction_functions, status_functions, listed}

-- the sheet of a message number
abbrev pub sheet_of : ℕ → Option StandardSheet
sheet_of n = cond (n == 565) (Some Mt565) (cond (n == 567) (Some Mt567) None)

abbrev pub rows_of : StandardSheet → List Row
rows_of Mt565 = rows565
rows_of Mt567 = rows567

-- the codes of 23G, which has no qualifier
abbrev pub functions : StandardSheet → List (List ℕ)
functions Mt565 = instruction_functions
functions Mt567 = status_functions

-- is it a format of codes?
abbrev pub is_code : Format → Bool
is_code Reference = false
is_code Code = true
is_code Timestamp = false
is_code Isin = false
is_code Account = false
is_code Owner = false
is_code AlternateIdentifier = false
is_code Quantity = false
is_code OptionNumber = false
is_code Vote = false

-- may the code stand under this qualifier, or under none?
abbrev pub allowed : StandardSheet → Option Qualifier → List ℕ → Bool
allowed s None c = among (functions s) c
allowed s (Some q) c = listed q c

-- has the row the code: it is a row of codes, the qualifier is one of its own, and the code may stand under that
abbrev pub row_codes : StandardSheet → Option Row → Option Qualifier → List ℕ → Bool
row_codes s None q c = false
row_codes s (Some (Open m n)) q c = false
row_codes s (Some (Close n)) q c = false
row_codes s (Some (Field f)) q c = is_code f.format && (admits f.qualifiers q && allowed s q c)

abbrev pub codes_of : StandardSheet → ℕ → Option Qualifier → List ℕ → Bool
codes_of s i q c = row_codes s (slice_get (rows_of s) i) q c
