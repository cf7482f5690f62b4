-- What a front remembers: references with the answer for each, the newest first. Assumes nothing.
use Rattle.std.specs.Prelude.{ℕ, Bool, true, not, ◌&&◌, List, [], ◌∷◌, take, is_some, Option}
use Rattle.register.specs.declared.reference.Reference.{Reference}
use Rattle.register.specs.declared.entry.Entry.{Entry}
use Rattle.register.specs.Pairs.{key, look, forgotten}
use Rattle.register.specs.Spelling.{spelling}

-- a reference and what was answered for it: a number, or none
abbrev pub Memo : Type 0
Memo = Entry (Option ℕ)

-- r with its answer is the newest, in place of what was known of it; a seventeenth puts out the oldest
abbrev pub learnt : List Memo → Reference → Option ℕ → List Memo
learnt ms r a = take 16 (record { reference = r; value = a } ∷ forgotten ms (spelling r))

-- no reference twice
abbrev pub single : List Memo → Bool
single [] = true
single (m ∷ ms) = not (is_some (look ms (key m))) && single ms
