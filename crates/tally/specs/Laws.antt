-- What adding and taking back come to, in whatever order, and what the two tallies count. Assumes nothing.
use Rattle.std.specs.Prelude.{◌≡◌, ℕ, ◌+◌, ◌*◌, ◌%◌, ◌^◌, cond, List, [], ◌∷◌, Some, None, Option}
use Rattle.std.specs.List.Sorted.{IsPermutation}
use Rattle.tally.specs.declared.vote.Vote.{Vote}
use Rattle.tally.specs.Scale.{Scale, joined, plus_all}
use Rattle.tally.specs.Residue.{Residue}
use Rattle.tally.specs.Control.{control, control_modulus}
use Rattle.tally.specs.Ballot.{Figures, ballot, on_table, cast_in}

-- adding these votes, in any order, is joining their joined weight
abbrev pub Added : {V : Type 0} → Scale V → V → List Vote → V → Type 0
Added s before votes after = (others : List Vote) → IsPermutation votes others → after ≡ plus_all s before others

-- where these votes were added, in any order, to a value, that value is there again
abbrev pub Undone : {V : Type 0} → Scale V → V → List Vote → V → Type 0
Undone {V} s before votes after = (first : V) (others : List Vote) → IsPermutation votes others → before ≡ plus_all s first others → after ≡ first

-- a number of each vote, summed
abbrev pub sum_of : (Vote → ℕ) → List Vote → ℕ
sum_of f [] = 0
sum_of f (v ∷ vs) = f v + sum_of f vs

-- the quantities cast in a cell of a question, summed
abbrev pub cast : List Vote → ℕ → ℕ → ℕ
cast votes question cell = sum_of (λ v. cond (cast_in v question cell) v.quantity 0) votes

-- where a ballot holds some votes and no others, each figure is the sum of what was cast there, modulo 2^64
abbrev pub FigureCounts : Figures → ℕ → ℕ → Option ℕ → Type 0
FigureCounts f question cell answer = (votes : List Vote) → f ≡ joined ballot votes → answer ≡ cond (on_table question cell) (Some (cast votes question cell % 2 ^ 64)) None

-- quantity times question number, summed
abbrev pub products : List Vote → ℕ
products votes = sum_of (λ v. v.quantity * v.question) votes

-- where a control total holds some votes and no others, it is the sum of their products, modulo 10,000,000,000
abbrev pub TotalCounts : Residue control_modulus → ℕ → Type 0
TotalCounts a answer = (votes : List Vote) → a ≡ joined control votes → answer ≡ products votes % control_modulus
