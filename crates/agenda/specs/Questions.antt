-- Which questions an agenda can have, and their cells. Assumes nothing.
use Rattle.std.specs.Prelude.{ℕ, Bool, ◌&&◌, ◌==◌, nat_le}
use Rattle.format.specs.declared.votes.VoteKind.{VoteKind}
use Rattle.format.specs.declared.votes.VoteKind.TheVariants.{Ordinary, Cumulative}
use Rattle.agenda.specs.declared.question.Question.{Question}

-- from one number to another
abbrev pub within : ℕ → ℕ → ℕ → Bool
within low high n = nat_le low n && nat_le n high

-- ordinary with multiplier 1 and no candidates, or cumulative with multiplier 1 to 99 and 1 to 16 candidates
abbrev pub fit_kind : VoteKind → ℕ → ℕ → Bool
fit_kind Ordinary multiplier candidates = multiplier == 1 && candidates == 0
fit_kind Cumulative multiplier candidates = within 1 99 multiplier && within 1 16 candidates

abbrev pub is_fit : Question → Bool
is_fit q = within 1 32 q.number && fit_kind q.kind q.multiplier q.candidates

-- the last cell: an ordinary question has a cell for yes, no and abstention, a cumulative one for each candidate
abbrev pub last_cell : VoteKind → ℕ → ℕ
last_cell Ordinary candidates = 3
last_cell Cumulative candidates = candidates

abbrev pub has_cell_in : Question → ℕ → Bool
has_cell_in q cell = within 1 (last_cell q.kind q.candidates) cell
