-- The votes of a message: which are good, and in which cell each is cast. Assumes nothing.
use Rattle.std.specs.Prelude.{◌≡◌, ℕ, ◌+◌, ◌<◌, Bool, true, false, cond, not, ◌&&◌, ◌||◌, List, [], ◌∷◌, ◌++◌, map, length, take, Some, None, Ok, Err, Option, Result, ◌==◌, nat_le}
use Rattle.std.specs.List.{slice_get}
use Rattle.format.specs.declared.votes.VoteText.{VoteText}
use Rattle.format.specs.declared.votes.VoteKind.{VoteKind}
use Rattle.format.specs.declared.votes.VoteKind.TheVariants.{Ordinary, Cumulative}
use Rattle.format.specs.declared.votes.VoteAnswer.{VoteAnswer}
use Rattle.format.specs.declared.votes.VoteAnswer.TheVariants.{For, Against, Abstain}
use Rattle.tally.specs.declared.vote.Vote.{Vote}
use Rattle.agenda.specs.declared.question.Question.{Question}
use Rattle.agenda.specs.Questions.{within}
use Rattle.agenda.specs.Agendas.{Table, asked}

-- the cell of an ordinary vote: 1 for yes, 2 for no, 3 for an abstention
abbrev pub answer_cell : VoteAnswer → ℕ
answer_cell For = 1
answer_cell Against = 2
answer_cell Abstain = 3

-- the cell of a cumulative vote: its candidate
abbrev pub candidate_cell : Option ℕ → ℕ
candidate_cell None = 0
candidate_cell (Some c) = c

abbrev pub cell_of : VoteKind → Option ℕ → VoteAnswer → ℕ
cell_of Ordinary candidate answer = answer_cell answer
cell_of Cumulative candidate answer = candidate_cell candidate

-- the vote that is cast: so many rights in a cell of a question
abbrev pub cast_vote : VoteText → Vote
cast_vote w = record { question = w.question; cell = cell_of w.kind w.candidate w.answer; quantity = w.quantity }

abbrev pub cast_votes : List VoteText → List Vote
cast_votes ws = map cast_vote ws

-- an ordinary vote names no candidate; a cumulative one says yes to a candidate of the question
abbrev pub fits : Question → VoteKind → Option ℕ → VoteAnswer → Bool
fits q Ordinary None answer = true
fits q Ordinary (Some c) answer = false
fits q Cumulative None answer = false
fits q Cumulative (Some c) For = within 1 q.candidates c
fits q Cumulative (Some c) Against = false
fits q Cumulative (Some c) Abstain = false

abbrev pub same_kind : VoteKind → VoteKind → Bool
same_kind Ordinary Ordinary = true
same_kind Ordinary Cumulative = false
same_kind Cumulative Ordinary = false
same_kind Cumulative Cumulative = true

-- is its question on the agenda, of its kind, and does it fit that?
abbrev pub suits : Option Question → VoteText → Bool
suits None w = false
suits (Some q) w = same_kind q.kind w.kind && fits q w.kind w.candidate w.answer

-- is a vote cast in this cell of this question among those?
abbrev pub cast_in : List Vote → ℕ → ℕ → Bool
cast_in [] question cell = false
cast_in (v ∷ vs) question cell = (v.question == question && v.cell == cell) || cast_in vs question cell

-- is the vote good, where these are the votes before it? Its question is on the agenda with that kind, it fits, and its cell is new.
abbrev pub is_good : Table → List Vote → VoteText → Bool
is_good table earlier w = suits (asked table w.question) w && not (cast_in earlier (cast_vote w).question (cast_vote w).cell)

-- what the vote casts; or its place, from 1, where it is not good
abbrev pub cast_one : Table → List Vote → VoteText → Result Vote ℕ
cast_one table earlier w = cond (is_good table earlier w) (Ok (cast_vote w)) (Err (length earlier + 1))

-- the place, from 1, of the first vote that is not good, where `earlier` are the votes before these
abbrev pub bad_from : Table → List Vote → List VoteText → Option ℕ
bad_from table earlier [] = None
bad_from table earlier (w ∷ ws) = cond (is_good table earlier w) (bad_from table (earlier ++ cast_vote w ∷ []) ws) (Some (length earlier + 1))

-- a vote behind the 64th is bad, where those before it are good
abbrev pub too_many : ℕ → Option ℕ → Option ℕ
too_many count None = cond (nat_le count 64) None (Some 65)
too_many count (Some place) = Some place

-- the place of the first bad vote of a message, of which these are the first 64 of `count`
abbrev pub bad_vote : Table → List VoteText → ℕ → Option ℕ
bad_vote table votes count = too_many count (bad_from table [] votes)

-- in words: the k-th vote, from 0, is among the first 64, its question is on the agenda with that kind, it fits that question, and no vote
-- before it is cast in its cell
pub record GoodVote (table : Table) (votes : List VoteText) (k : ℕ) : Type 0 where
  pub early : k < 64
  pub vote : VoteText
  pub there : slice_get votes k ≡ Some vote
  pub suited : suits (asked table vote.question) vote ≡ true
  pub new : cast_in (cast_votes (take k votes)) (cast_vote vote).question (cast_vote vote).cell ≡ false

-- every vote is good; or this is the first that is not, counted from 1
abbrev pub VotesJudged : Table → List VoteText → ℕ → Option ℕ → Type 0
VotesJudged table votes count None = (k : ℕ) → k < count → GoodVote table votes k
VotesJudged table votes count (Some place) =
    (k : ℕ) × (place ≡ k + 1) × (k < count) × (GoodVote table votes k → ⊥) × ((j : ℕ) → j < k → GoodVote table votes j)
