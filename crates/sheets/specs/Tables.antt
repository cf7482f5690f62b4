-- The rows of the two sheets. Assumes nothing.
use Rattle.std.specs.Prelude.{List, [], ◌∷◌}
use Rattle.fields.specs.declared.headers.Qualifier.{Qualifier}
use Rattle.sheet.specs.declared.marks.Mark.TheVariants.{Once, AtMostOnce, AtLeastOnce, AnyNumber}
use Rattle.sheet.specs.declared.rows.Format.TheVariants.{Reference, Code, Timestamp, Isin, Account, Owner, AlternateIdentifier, Quantity, OptionNumber, Vote}
use Rattle.sheet.specs.Rows.{Row}
use Rattle.sheet.specs.Rows.Row.{Open, Close}
use Rattle.sheets.specs.Words.{block, qualifier, none, only, field}

-- the qualifiers of a status, and of its reason
abbrev pub statuses : List Qualifier
statuses = qualifier "CPRC" ∷ qualifier "IPRC" ∷ []

abbrev pub reasons : List Qualifier
reasons = qualifier "PEND" ∷ qualifier "REJT" ∷ qualifier "CAND" ∷ qualifier "CANP" ∷ qualifier "PACK" ∷ []

-- an instruction
abbrev pub rows565 : List Row
rows565 =
    Open Once (block "GENL")
    ∷ field Once "20C" (only "CORP") Reference
    ∷ field Once "20C" (only "SEME") Reference
    ∷ field Once "23G" none Code
    ∷ field Once "22F" (only "CAEV") Code
    ∷ field AtMostOnce "98C" (only "PREP") Timestamp
    ∷ Open AtMostOnce (block "LINK")
    ∷ field Once "13A" (only "LINK") Code
    ∷ field Once "20C" (only "PREV") Reference
    ∷ Close (block "LINK")
    ∷ Close (block "GENL")
    ∷ Open Once (block "USECU")
    ∷ field Once "35B" none Isin
    ∷ Open Once (block "ACCTINFO")
    ∷ field Once "97A" (only "SAFE") Account
    ∷ Close (block "ACCTINFO")
    ∷ Close (block "USECU")
    ∷ Open Once (block "BENODET")
    ∷ field Once "95V" (only "OWND") Owner
    ∷ field AtLeastOnce "95S" (only "ALTE") AlternateIdentifier
    ∷ field Once "36B" (only "OWND") Quantity
    ∷ Close (block "BENODET")
    ∷ Open Once (block "CAINST")
    ∷ field Once "13A" (only "CAON") OptionNumber
    ∷ field Once "22F" (only "CAOP") Code
    ∷ field Once "36B" (only "QINS") Quantity
    ∷ field AnyNumber "70E" (only "INST") Vote
    ∷ Close (block "CAINST")
    ∷ []

-- the status of an instruction
abbrev pub rows567 : List Row
rows567 =
    Open Once (block "GENL")
    ∷ field Once "20C" (only "CORP") Reference
    ∷ field Once "20C" (only "SEME") Reference
    ∷ field Once "23G" none Code
    ∷ field Once "22F" (only "CAEV") Code
    ∷ field Once "98C" (only "PREP") Timestamp
    ∷ Open Once (block "LINK")
    ∷ field Once "13A" (only "LINK") Code
    ∷ field Once "20C" (only "RELA") Reference
    ∷ Close (block "LINK")
    ∷ Open Once (block "STAT")
    ∷ field Once "25D" statuses Code
    ∷ Open AnyNumber (block "REAS")
    ∷ field Once "24B" reasons Code
    ∷ Close (block "REAS")
    ∷ Close (block "STAT")
    ∷ Close (block "GENL")
    ∷ []
