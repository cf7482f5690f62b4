-- A vote: how it is spelled, and how it is read. Assumes nothing.
use Rattle.std.specs.Prelude.{ℕ, cond, List, [], ◌++◌, Some, None, codes, decimal, Option}
use Rattle.fields.specs.Characters.{begins}
use Rattle.format.specs.declared.votes.VoteKind.{VoteKind}
use Rattle.format.specs.declared.votes.VoteKind.TheVariants.{Ordinary, Cumulative}
use Rattle.format.specs.declared.votes.VoteAnswer.{VoteAnswer}
use Rattle.format.specs.declared.votes.VoteAnswer.TheVariants.{For, Against, Abstain}
use Rattle.format.specs.declared.votes.VoteText.{VoteText}
use Rattle.format.specs.Folding.{folded, is_folded, unfolded}
use Rattle.format.specs.Numbers.{InDigits, number}
use Rattle.format.specs.Texts.{and_then, or_else, after_word, stands_for, is_end}

-- a candidate, if there is one, has 1 or 2 digits
abbrev pub InCandidate : Option ℕ → Type 0
InCandidate None = Unit {0}
InCandidate (Some n) = InDigits 2 n

-- a question has 1 or 2 digits and a quantity 1 to 15; none of them begins with 0
abbrev pub InVote : VoteText → Type 0
InVote w = InDigits 2 w.question × InCandidate w.candidate × InDigits 15 w.quantity

abbrev pub candidate_text : Option ℕ → List ℕ
candidate_text None = []
candidate_text (Some n) = decimal n

abbrev pub kind_text : VoteKind → List ℕ
kind_text Ordinary = codes "ORDN"
kind_text Cumulative = codes "CMLT"

abbrev pub answer_text : VoteAnswer → List ℕ
answer_text For = codes "CONY"
answer_text Against = codes "CONN"
answer_text Abstain = codes "ABST"

-- a vote's text, and the value: the text in lines of 35 characters
abbrev pub vote_flat : VoteText → List ℕ
vote_flat w =
    codes "ISLB/" ++ (decimal w.question ++ (codes "." ++ (candidate_text w.candidate
    ++ (codes "/TYPE/" ++ (kind_text w.kind ++ (codes "/RSLT/" ++ (answer_text w.answer ++ (codes "/QVTG/" ++ decimal w.quantity))))))))

abbrev pub vote_spelled : VoteText → List ℕ
vote_spelled w = folded 35 (vote_flat w)

-- reading it: `ISLB/`, the question, a point, the candidate or nothing
abbrev pub given : Option (ℕ × List ℕ) → Option (Option ℕ × List ℕ)
given None = None
given (Some p) = Some (Some p.0, p.1)

abbrev pub read_candidate : List ℕ → Option (Option ℕ × List ℕ)
read_candidate s = cond (begins 47 s) (Some (None, s)) (given (number 2 s))

abbrev pub subject_done : ℕ → Option ℕ × List ℕ → Option ((ℕ × Option ℕ) × List ℕ)
subject_done q p = Some ((q, p.0), p.1)

abbrev pub subject_candidate : ℕ → List ℕ → Option ((ℕ × Option ℕ) × List ℕ)
subject_candidate q t = and_then (read_candidate t) (subject_done q)

abbrev pub subject_point : ℕ × List ℕ → Option ((ℕ × Option ℕ) × List ℕ)
subject_point p = and_then (after_word (codes ".") p.1) (subject_candidate p.0)

abbrev pub subject_number : List ℕ → Option ((ℕ × Option ℕ) × List ℕ)
subject_number t = and_then (number 2 t) subject_point

abbrev pub read_subject : List ℕ → Option ((ℕ × Option ℕ) × List ℕ)
read_subject s = and_then (after_word (codes "ISLB/") s) subject_number

-- the word of the kind, behind `/TYPE/`
abbrev pub kind_word : List ℕ → Option (VoteKind × List ℕ)
kind_word t = or_else (stands_for Ordinary (after_word (codes "ORDN") t)) (stands_for Cumulative (after_word (codes "CMLT") t))

-- `/TYPE/` and the kind
abbrev pub read_kind : List ℕ → Option (VoteKind × List ℕ)
read_kind s = or_else (stands_for Ordinary (after_word (codes "/TYPE/ORDN") s)) (stands_for Cumulative (after_word (codes "/TYPE/CMLT") s))

-- the word of the answer, behind `/RSLT/`
abbrev pub answer_word : List ℕ → Option (VoteAnswer × List ℕ)
answer_word t =
    or_else (stands_for For (after_word (codes "CONY") t)) (or_else (stands_for Against (after_word (codes "CONN") t)) (stands_for Abstain (after_word (codes "ABST") t)))

-- `/RSLT/` and the answer
abbrev pub read_answer : List ℕ → Option (VoteAnswer × List ℕ)
read_answer s =
    or_else (stands_for For (after_word (codes "/RSLT/CONY") s))
    (or_else (stands_for Against (after_word (codes "/RSLT/CONN") s)) (stands_for Abstain (after_word (codes "/RSLT/ABST") s)))

-- `/QVTG/`, the quantity, the end
abbrev pub cast_done : ℕ × List ℕ → Option ℕ
cast_done p = cond (is_end p.1) (Some p.0) None

abbrev pub cast_number : List ℕ → Option ℕ
cast_number t = and_then (number 15 t) cast_done

abbrev pub read_cast : List ℕ → Option ℕ
read_cast s = and_then (after_word (codes "/QVTG/") s) cast_number

-- one behind the other
abbrev pub vote_done : ℕ × Option ℕ → VoteKind → VoteAnswer → ℕ → Option VoteText
vote_done q k a n = Some (record { question = q.0; candidate = q.1; kind = k; answer = a; quantity = n })

abbrev pub vote_cast : ℕ × Option ℕ → VoteKind → VoteAnswer × List ℕ → Option VoteText
vote_cast q k p = and_then (read_cast p.1) (vote_done q k p.0)

abbrev pub vote_answer : ℕ × Option ℕ → VoteKind × List ℕ → Option VoteText
vote_answer q p = and_then (read_answer p.1) (vote_cast q p.0)

abbrev pub vote_kind : (ℕ × Option ℕ) × List ℕ → Option VoteText
vote_kind p = and_then (read_kind p.1) (vote_answer p.0)

abbrev pub read_flat : List ℕ → Option VoteText
read_flat s = and_then (read_subject s) vote_kind

-- a value that is folded as it should be, and whose characters are a vote
abbrev pub read_vote : List ℕ → Option VoteText
read_vote v = cond (is_folded 35 v) (read_flat (unfolded 35 v)) None
