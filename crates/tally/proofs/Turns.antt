-- One turn of a loop that adds votes or takes them back, over any lawful scale.
use Rattle.std.proofs.Common.{◌≡◌, ℕ, ◌+◌, ◌<◌, List, length, get_or, take, drop, sym, ap, ◌∙◌}
use Rattle.std.proofs.lemmas.List.{take_more, drop_more}
use Rattle.tally.specs.declared.vote.Vote.{Vote}
use Rattle.tally.specs.Scale.{Scale, Group, joined, plus, minus}
use Rattle.tally.proofs.Joining.{joined_push, taken_back}

module _ {V : Type 0} (s : Scale V) (all : V) (votes : List Vote) where
  -- what is reached with the rest of the votes is reached once the next is added, with the shorter rest
  abbrev pub Adding : Type 0
  Adding = (i : ℕ) (t : Scale V) (a b : V) (d : Vote) → b ≡ plus t a (get_or votes i d) → all ≡ s.join a (joined s (drop i votes)) → t ≡ s → i < length votes → all ≡ s.join b (joined s (drop (i + 1) votes))

  -- what is left with the front of the votes is left once the next is taken back, with the longer front
  abbrev pub TakingBack : Type 0
  TakingBack = (i : ℕ) (t : Scale V) (a b : V) (d : Vote) → b ≡ minus t a (get_or votes i d) → all ≡ s.join a (joined s (take i votes)) → t ≡ s → i < length votes → all ≡ s.join b (joined s (take (i + 1) votes))

module _ {V : Type 0} (s : Scale V) (g : Group s) (all : V) (votes : List Vote) where
  pub adding : Adding s all votes
  adding i t a b d now was same h =
      let v : Vote = get_or votes i d in
      let j : V = joined s (drop (i + 1) votes) in
      was ∙ ap (λ (l : List Vote). s.join a (joined s l)) (drop_more votes i d h) ∙ sym (g.assoc a (s.weight v) j)
      ∙ ap (λ (x : V). s.join x j) (sym (now ∙ ap (λ (x : Scale V). plus x a v) same))

  pub taking_back : TakingBack s all votes
  taking_back i t a b d now was same h =
      let v : Vote = get_or votes i d in
      let j : V = joined s (take i votes) in
      was ∙ sym (taken_back s g a j v)
      ∙ ap (λ (x : V). s.join x (s.join j (s.weight v))) (sym (now ∙ ap (λ (x : Scale V). minus x a v) same))
      ∙ ap (s.join b) (sym (joined_push s g (take i votes) v) ∙ ap (joined s) (sym (take_more votes i d h)))
