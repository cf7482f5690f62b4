-- The judgement of a message's votes: what the definition computes is one, and there is no other. Assumes nothing.
use Rattle.std.proofs.Common.{◌≡◌, ℕ, zero, suc, ◌+◌, ◌<◌, ◌≤◌, min, true, false, cond, leb, List, [], ◌∷◌, ◌++◌, length, get_or, take, drop, Some, None, Option, sym, refl, ap, ◌∙◌, subst, ⊎_elim, arith, below_more}
use Rattle.std.specs.List.{slice_get}
use Rattle.std.proofs.lemmas.List.{at_drop_more, drop_all, map_more, length-map, length-take}
use Rattle.std.proofs.lemmas.Option.{slice_get-get_or}
use Rattle.std.proofs.lemmas.Bool.{and_parts, and_from, not-true, not_from_false, both_ways, cond_both, cases_order, leb-true, leb-false}
use Rattle.format.specs.declared.votes.VoteText.{VoteText}
use Rattle.format.specs.declared.votes.VoteKind.TheVariants.{Ordinary}
use Rattle.format.specs.declared.votes.VoteAnswer.TheVariants.{For}
use Rattle.message.specs.declared.instruction.GivenVotes.{GivenVotes}
use Rattle.message.specs.Instructions.{given_votes}
use Rattle.tally.specs.declared.vote.Vote.{Vote}
use Rattle.agenda.specs.Agendas.{Table}
use Rattle.agenda.specs.Casting.{GoodVote, VotesJudged, bad_from, bad_vote, cast_vote, cast_votes, is_good, too_many}

-- a vote to stand where none is
no_vote : VoteText
no_vote = record { question = 0; candidate = None; kind = Ordinary; answer = For; quantity = 0 }

module _ (table : Table) (votes : List VoteText) (count : ℕ) where
  -- what the test of a vote says in words
  good : (k : ℕ) (w : VoteText) → k < 64 → slice_get votes k ≡ Some w → is_good table (cast_votes (take k votes)) w ≡ true → GoodVote table votes k
  good k w lt e h = let p = and_parts _ _ h in record { early = lt; vote = w; there = e; suited = p.0; new = not-true _ p.1 }

  not_good : (k : ℕ) (w : VoteText) → slice_get votes k ≡ Some w → is_good table (cast_votes (take k votes)) w ≡ false → GoodVote table votes k → ⊥
  not_good k w e h g =
      let e' = g.there in
      let same : g.vote ≡ w = cc in
      let yes : is_good table (cast_votes (take k votes)) g.vote ≡ true = and_from _ _ g.suited (not_from_false _ g.new) in
      both_ways _ h (subst (λ (v : VoteText). is_good table (cast_votes (take k votes)) v ≡ true) same yes)

  -- the judgement of the votes that are kept
  abbrev Judged : Option ℕ → Type 0
  Judged None = (k : ℕ) → k < length votes → GoodVote table votes k
  Judged (Some place) =
      (k : ℕ) × (place ≡ k + 1) × (k < length votes) × (GoodVote table votes k → ⊥) × ((j : ℕ) → j < k → GoodVote table votes j)

  -- those before place i are good, and n are left
  judged_from : length votes ≤ 64 → (n i : ℕ) → i + n ≡ length votes → ((j : ℕ) → j < i → GoodVote table votes j) → Judged (bad_from table (cast_votes (take i votes)) (drop i votes))
  judged_from short zero i e before =
      let none : drop i votes ≡ [] = drop_all i votes (omega arith) in
      subst (λ (ws : List VoteText). Judged (bad_from table (cast_votes (take i votes)) ws)) (sym none) (λ k h. before k (omega arith))
  judged_from short (suc n) i e before =
      let w : VoteText = get_or votes i no_vote in
      let earlier : List Vote = cast_votes (take i votes) in
      let within : i < length votes = omega arith in
      let there : slice_get votes i ≡ Some w = slice_get-get_or votes i no_vote within in
      let step : bad_from table earlier (drop i votes) ≡ cond (is_good table earlier w) (bad_from table (earlier ++ cast_vote w ∷ []) (drop (i + 1) votes)) (Some (length earlier + 1)) = at_drop_more (bad_from table earlier) votes i no_vote within in
      let more : cast_votes (take (i + 1) votes) ≡ earlier ++ cast_vote w ∷ [] = map_more cast_vote votes i no_vote within in
      let many : length earlier ≡ i = length-map (take i votes) cast_vote ∙ length-take i votes ∙ omega arith in
      subst Judged (sym step) (cond_both (is_good table earlier w) _ _ Judged
      (λ h. subst (λ (l : List Vote). Judged (bad_from table l (drop (i + 1) votes))) more (judged_from short n (i + 1) (omega arith) (below_more _ i before (good i w (omega arith) there h))))
      (λ h. (i, ap (λ m. m + 1) many, within, not_good i w there h, before)))

  pub votes_judged : length votes ≡ min count 64 → VotesJudged table votes count (bad_vote table votes count)
  votes_judged e = by (bad_from table [] votes) (judged_from (omega arith) (length votes) 0 (omega arith) (λ j h. absurd (omega arith)))
    where
      by : (p : Option ℕ) → Judged p → VotesJudged table votes count (too_many count p)
      by None h = cond_both (leb count 64) None (Some 65) (VotesJudged table votes count)
          (λ t. let le = leb-true count 64 t in λ k lt. h k (omega arith))
          (λ t. let gt = leb-false count 64 t in (64, refl, gt, λ g. (let lt = g.early in omega arith), λ j lt. h j (omega arith)))
      by (Some place) h = (h.0, h.1, omega (arith, h.2), h.3, h.4)

  votes_only : (p q : Option ℕ) → VotesJudged table votes count p → VotesJudged table votes count q → p ≡ q
  votes_only None None a b = refl
  votes_only None (Some n) a b = absurd (b.3 (a b.0 b.2))
  votes_only (Some m) None a b = absurd (a.3 (b a.0 a.2))
  votes_only (Some m) (Some n) a b =
      ⊎_elim (λ e. ap Some (a.1 ∙ ap (λ k. k + 1) e ∙ sym b.1))
      (⊎_elim (λ lt. absurd (a.3 (b.4 a.0 lt))) (λ lt. absurd (b.3 (a.4 b.0 lt))))
      (cases_order a.0 b.0)

-- what is said of a message's votes, from what came of those that are kept
pub all_judged : (table : Table) (given : GivenVotes) (p q : Option ℕ) → bad_from table [] (given_votes given) ≡ p → q ≡ too_many given.count p
    → (bad_vote table (given_votes given) given.count ≡ q) × VotesJudged table (given_votes given) given.count q × ((o : Option ℕ) → VotesJudged table (given_votes given) given.count o → o ≡ q)
all_judged table given p q e f =
    let votes : List VoteText = given_votes given in
    let is : bad_vote table votes given.count ≡ q = ap (too_many given.count) e ∙ sym f in
    let judged : VotesJudged table votes given.count q = subst (VotesJudged table votes given.count) is (votes_judged table votes given.count given.first) in
    (is, judged, λ o h. votes_only table votes given.count o q h judged)
