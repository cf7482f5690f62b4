-- The sums of an instruction's votes. Assumes nothing.
use Rattle.std.specs.Prelude.{◌≡◌, ℕ, zero, suc, ◌+◌, ◌*◌, ◌<◌, ◌≤◌, Bool, true, false, cond, ◌&&◌, ◌||◌, List, [], ◌∷◌, Some, None, Option, ◌==◌}
use Rattle.format.specs.declared.votes.VoteKind.{VoteKind}
use Rattle.format.specs.declared.votes.VoteKind.TheVariants.{Ordinary, Cumulative}
use Rattle.tally.specs.declared.vote.Vote.{Vote}
use Rattle.agenda.specs.declared.question.Question.{Question}
use Rattle.agenda.specs.Agendas.{Table, asked}

-- the sum of the quantities on a question, and how many votes are on it
abbrev pub sum_on : List Vote → ℕ → ℕ
sum_on [] n = 0
sum_on (v ∷ vs) n = cond (v.question == n) (v.quantity + sum_on vs n) (sum_on vs n)

abbrev pub votes_on : List Vote → ℕ → ℕ
votes_on [] n = 0
votes_on (v ∷ vs) n = cond (v.question == n) (1 + votes_on vs n) (votes_on vs n)

-- an ordinary question has one vote
abbrev pub count_fits : VoteKind → ℕ → Bool
count_fits Ordinary count = count == 1
count_fits Cumulative count = true

-- does the sum hold on a question of the agenda that has these votes? The sum is the multiplier times the holding.
abbrev pub holds_on : Option Question → ℕ → ℕ → ℕ → Bool
holds_on None holding sum count = false
holds_on (Some q) holding sum count = sum == q.multiplier * holding && count_fits q.kind count

-- a question that is not voted on asks for nothing
abbrev pub balanced : Table → ℕ → List Vote → ℕ → Bool
balanced table holding votes n = votes_on votes n == 0 || holds_on (asked table n) holding (sum_on votes n) (votes_on votes n)

-- the least of the questions from number n on, k of them, on which the sum does not hold
abbrev pub unbalanced_from : Table → ℕ → List Vote → ℕ → ℕ → Option ℕ
unbalanced_from table holding votes n zero = None
unbalanced_from table holding votes n (suc k) = cond (balanced table holding votes n) (unbalanced_from table holding votes (suc n) k) (Some n)

-- the least question, of 32, on which the sum does not hold
abbrev pub unbalanced : Table → ℕ → List Vote → Option ℕ
unbalanced table holding votes = unbalanced_from table holding votes 1 32

-- in words: the quantities of the votes on the question, if there are any, sum to its multiplier times the holding, and an ordinary
-- question has one vote
pub record Balanced (table : Table) (holding : ℕ) (votes : List Vote) (n : ℕ) : Type 0 where
  pub question : Question
  pub there : asked table n ≡ Some question
  pub sum : sum_on votes n ≡ question.multiplier * holding
  pub single : question.kind ≡ Ordinary → votes_on votes n ≡ 1

-- the sums hold on every question voted on; or this is the least on which they do not
abbrev pub SumsJudged : Table → ℕ → List Vote → Option ℕ → Type 0
SumsJudged table holding votes None = (n : ℕ) → 1 ≤ n → n ≤ 32 → 1 ≤ votes_on votes n → Balanced table holding votes n
SumsJudged table holding votes (Some n) =
    (1 ≤ n) × (n ≤ 32) × (1 ≤ votes_on votes n) × (Balanced table holding votes n → ⊥)
    × ((m : ℕ) → 1 ≤ m → m < n → 1 ≤ votes_on votes m → Balanced table holding votes m)
