-- Pairs of a reference and a value, and looking one up by the text of its reference. Assumes nothing.
use Rattle.std.specs.Prelude.{◌≡◌, ℕ, cond, List, [], ◌∷◌, Some, None, Option}
use Rattle.std.specs.Str.{bytes_eq}
use Rattle.register.specs.declared.entry.Entry.{Entry}
use Rattle.register.specs.Spelling.{spelling}

-- a pair of a reference and the number of its record
abbrev pub Pair : Type 0
Pair = Entry ℕ

-- the text by which a pair is found
abbrev pub key : {V : Type 0} → Entry V → List ℕ
key p = spelling p.reference

-- what stands beside the reference k, if any
abbrev pub look : {V : Type 0} → List (Entry V) → List ℕ → Option V
look [] k = None
look (p ∷ ps) k = cond (bytes_eq (key p) k) (Some p.value) (look ps k)

-- the rest without the reference k
abbrev pub forgotten : {V : Type 0} → List (Entry V) → List ℕ → List (Entry V)
forgotten [] k = []
forgotten (p ∷ ps) k = cond (bytes_eq (key p) k) (forgotten ps k) (p ∷ forgotten ps k)

-- no reference twice
abbrev pub Distinct : {V : Type 0} → List (Entry V) → Type 0
Distinct [] = Unit {0}
Distinct (p ∷ ps) = (look ps (key p) ≡ None) × Distinct ps
