-- The codes of the two sheets. Assumes nothing.
use Rattle.std.specs.Prelude.{ℕ, Bool, cond, ◌&&◌, List, ◌++◌, map}
use Prim.Native.String.{String}
use Rattle.std.specs.List.{list_any}
use Rattle.std.specs.Str.{bytes_eq}
use Rattle.fields.specs.declared.headers.Qualifier.{Qualifier}
use Rattle.sheet.specs.Rows.{is_qualifier}
use Rattle.sheets.specs.Words.{qualifier, words}

-- is the code one of those?
abbrev pub among : List (List ℕ) → List ℕ → Bool
among ks c = list_any (λ k. bytes_eq k c) ks

-- do the qualifier and the code stand together in one of the pairs?
abbrev pub paired : List (Qualifier × List ℕ) → Qualifier → List ℕ → Bool
paired ps q c = list_any (λ p. is_qualifier p.0 q && bytes_eq p.1 c) ps

-- the codes under one qualifier
abbrev pub under : String → String → List (Qualifier × List ℕ)
under q s = map (λ w. (qualifier q, w)) (words s)

-- what an instruction is for: a new one, or the cancellation of one; and what a status is of: an instruction, or a cancellation
abbrev pub instruction_functions : List (List ℕ)
instruction_functions = words "NEWM CANC"

abbrev pub status_functions : List (List ℕ)
status_functions = words "INST CAST"

-- the pairs of status and code, 25D
abbrev pub status_pairs : List (Qualifier × List ℕ)
status_pairs = under "CPRC" "CAND CANP PACK REJT" ++ under "IPRC" "CAND DFLA PACK PEND REJT STIN"

-- the pairs of reason and code, 24B
abbrev pub reason_pairs : List (Qualifier × List ℕ)
reason_pairs =
    under "PEND" "ADEA AUTH BSTR CERT DQCS DQUA FULL IPAW LACK LATE MCER MONY NARR NPAY NSEC PENR SNAV VLDA ITAX MTAX NTAX"
    ++ (under "REJT" "ULNK ADEA BSTR CANC CERT DCAN DPRG NARR LACK LATE SAFE DSEC DQUA DUPL INIR INTV INVA REFT EVNM NMTY OPNM OPTY PROI PRON PROT FULL DQCS DQAM DQCC DQBI DQBV IRDQ ISOL ITAX SHAR TRTI MTAX NTAX IPAW REJA"
    ++ (under "CAND" "CANI CANO CANS CSUB NARR" ++ (under "CANP" "ADEA DQUA DQCS LATE NARR" ++ under "PACK" "NARR NSTP")))

-- may the code stand under the qualifier?
abbrev pub listed : Qualifier → List ℕ → Bool
listed q c =
    cond (is_qualifier q (qualifier "CAEV")) (among (words "MEET XMET") c)
    (cond (is_qualifier q (qualifier "CAOP")) (among (words "SPLI") c)
    (cond (is_qualifier q (qualifier "LINK")) (among (words "565") c)
    (paired (status_pairs ++ reason_pairs) q c)))
