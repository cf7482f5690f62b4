-- The votes of an instruction, by its field table. Assumes nothing.
use Rattle.std.specs.Prelude.{ℕ, List, [], ◌∷◌, length, take, Some, Option}
use Rattle.std.specs.Option.{option_map}
use Rattle.format.specs.declared.votes.VoteText.{VoteText}
use Rattle.format.specs.Texts.{and_then}
use Rattle.format.specs.Vote.{read_vote}
use Rattle.reader.specs.declared.table.Entry.{Entry}
use Rattle.reader.specs.Values.{content_of}
use Rattle.message.specs.declared.instruction.GivenVotes.{GivenVotes}
use Rattle.message.specs.Instructions.{given_votes}
use Rattle.message.specs.Rows.{in565}
use Rattle.message.specs.Values.{values_of}

-- 70E: the vote of a value
abbrev pub vote_of : List ℕ → Option VoteText
vote_of v = and_then (content_of (Some (in565 "70E" "INST").qualifier) v) read_vote

-- those of values, where each has one
abbrev pub votes_of : List (List ℕ) → Option (List VoteText)
votes_of [] = Some []
votes_of (v ∷ vs) = and_then (vote_of v) (λ w. option_map (λ ws. w ∷ ws) (votes_of vs))

-- the first 64, and how many there are in all
abbrev pub counted : List VoteText → List VoteText × ℕ
counted ws = (take 64 ws, length ws)

abbrev pub votes_in : List ℕ → List Entry → Option (List VoteText × ℕ)
votes_in text es = option_map counted (votes_of (values_of text es (in565 "70E" "INST").row))

-- the same of given votes
abbrev pub kept_and_count : GivenVotes → List VoteText × ℕ
kept_and_count v = (given_votes v, v.count)
