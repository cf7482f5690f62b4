-- The formats that are only told from others: references, accounts, times, options, ISINs and owners. Assumes nothing.
use Rattle.std.specs.Prelude.{◌≡◌, ℕ, zero, suc, ◌≤◌, Bool, false, ◌||◌, List, [], ◌∷◌, ◌++◌, length, codes}
use Rattle.fields.specs.Characters.{digit, alphanumeric, set_x}
use Rattle.std.specs.List.{AllByRecursion}
use Rattle.format.specs.Folding.{lines}
use Rattle.format.specs.Runs.{Of, is_of, after_some}
use Rattle.format.specs.Texts.{or_false, after_word, is_end}

-- a reference: 1 to 16 characters of set x
abbrev pub is_reference : List ℕ → Bool
is_reference v = is_of set_x 1 16 v

-- an account: 1 to 35 characters of set x
abbrev pub is_account : List ℕ → Bool
is_account v = is_of set_x 1 35 v

-- a time: 14 digits
abbrev pub is_timestamp : List ℕ → Bool
is_timestamp v = is_of digit 14 14 v

-- the number of an option: three capital letters or digits
abbrev pub is_option_number : List ℕ → Bool
is_option_number v = is_of alphanumeric 3 3 v

-- the code of an ISIN: twelve capital letters or digits
abbrev pub is_isin_code : List ℕ → Bool
is_isin_code v = is_of alphanumeric 12 12 v

-- an ISIN: the word, a space and the code
abbrev pub is_isin : List ℕ → Bool
is_isin v = or_false (after_word (codes "ISIN ") v) is_isin_code

abbrev pub Isin : List ℕ → Type 0
Isin v = (c : List ℕ) × Of alphanumeric 12 12 c × (v ≡ codes "ISIN " ++ c)

-- behind a line: the end, or CR LF and more
abbrev pub lines_on : (List ℕ → Bool) → List ℕ → Bool
lines_on more t = is_end t || or_false (after_word (13 ∷ 10 ∷ []) t) more

-- from 1 to k lines of 1 to 35 characters of set x, with CR LF between them
abbrev pub is_lines : ℕ → List ℕ → Bool
is_lines zero s = false
is_lines (suc k) s = or_false (after_some set_x 1 35 s) (lines_on (is_lines k))

abbrev pub Lines : ℕ → List ℕ → Type 0
Lines k v = (ls : List (List ℕ)) × (1 ≤ length ls) × (length ls ≤ k) × AllByRecursion (Of set_x 1 35) ls × (v ≡ lines ls)

-- an owner: 1 to 10 lines of 1 to 35 characters of set x, with CR LF between them
abbrev pub is_owner : List ℕ → Bool
is_owner v = is_lines 10 v
