-- The votes on a question, and the questions in order, as chains go over them. Assumes nothing.
use Rattle.std.proofs.Common.{◌≡◌, ℕ, zero, suc, ◌+◌, ◌-◌, ◌<◌, ◌≤◌, Bool, true, false, cond, not, eqb, List, [], ◌∷◌, length, get_or, drop, Some, sym, refl, ap, ◌∙◌, arith}
use Rattle.std.proofs.lemmas.Bool.{cond-true, cond-false, eq-eqb, ne_eqb}
use Rattle.std.proofs.lemmas.List.{at_drop_more}
use Rattle.std.proofs.lemmas.List.Recursion.{is_count_by}
use Rattle.std.proofs.lemmas.List.Sums.{length-filter, sum_by-cons}
use Rattle.std.specs.List.{filter, sum_by, find, range_with_len}
use Rattle.tally.specs.declared.vote.Vote.{Vote}
use Rattle.agenda.specs.Agendas.{Table}
use Rattle.agenda.specs.Sums.{balanced, sum_on, unbalanced_from, votes_on}

-- is the vote on the question?
abbrev pub is_on : ℕ → Vote → Bool
is_on n v = eqb v.question n

pub votes_counted : (votes : List Vote) (n : ℕ) → length (filter (is_on n) votes) ≡ votes_on votes n
votes_counted votes n = length-filter (is_on n) votes ∙ sym (is_count_by (λ vs. votes_on vs n) (is_on n) refl (λ v vs. refl) votes)

pub quantities_summed : (votes : List Vote) (n : ℕ) → sum_by (λ (v : Vote). v.quantity) (filter (is_on n) votes) ≡ sum_on votes n
quantities_summed [] n = refl
quantities_summed (v ∷ vs) n = by (quantities_summed vs n) (is_on n v)
  where
    by : sum_by (λ (v : Vote). v.quantity) (filter (is_on n) vs) ≡ sum_on vs n
        → (b : Bool) → sum_by (λ (v : Vote). v.quantity) (cond b (v ∷ filter (is_on n) vs) (filter (is_on n) vs)) ≡ cond b (v.quantity + sum_on vs n) (sum_on vs n)
    by h true = sum_by-cons (λ (v : Vote). v.quantity) v (filter (is_on n) vs) ∙ ap (λ (m : ℕ). v.quantity + m) h
    by h false = h

-- the least question, of k from number n on, on which the sum does not hold
pub least_found : (table : Table) (holding : ℕ) (votes : List Vote) (n k : ℕ)
    → find (λ m. not (balanced table holding votes m)) (range_with_len n k) ≡ unbalanced_from table holding votes n k
least_found table holding votes n zero = refl
least_found table holding votes n (suc k) = by (ap (λ (m : ℕ). find (λ m. not (balanced table holding votes m)) (range_with_len m k)) next ∙ least_found table holding votes (suc n) k) (balanced table holding votes n)
  where
    next : n + 1 ≡ suc n
    next = omega arith

    by : find (λ m. not (balanced table holding votes m)) (range_with_len (n + 1) k) ≡ unbalanced_from table holding votes (suc n) k
        → (b : Bool) → cond (not b) (Some n) (find (λ m. not (balanced table holding votes m)) (range_with_len (n + 1) k)) ≡ cond b (unbalanced_from table holding votes (suc n) k) (Some n)
    by h true = h
    by h false = refl

-- one vote further, and one question further
module _ (votes : List Vote) (n i : ℕ) (none : Vote) (within : i < length votes) where
  sum_step : sum_on (drop i votes) n ≡ cond (eqb (get_or votes i none).question n) ((get_or votes i none).quantity + sum_on (drop (i + 1) votes) n) (sum_on (drop (i + 1) votes) n)
  sum_step = at_drop_more (λ l. sum_on l n) votes i none within

  count_step : votes_on (drop i votes) n ≡ cond (eqb (get_or votes i none).question n) (1 + votes_on (drop (i + 1) votes) n) (votes_on (drop (i + 1) votes) n)
  count_step = at_drop_more (λ l. votes_on l n) votes i none within

  -- the vote at place i is on the question
  pub counts : (get_or votes i none).question ≡ n
      → (sum_on (drop i votes) n ≡ (get_or votes i none).quantity + sum_on (drop (i + 1) votes) n) × (votes_on (drop i votes) n ≡ 1 + votes_on (drop (i + 1) votes) n)
  counts e = let t = eq-eqb _ n e in (sum_step ∙ cond-true _ _ _ t, count_step ∙ cond-true _ _ _ t)

  -- or it is not
  pub passes : ((get_or votes i none).question ≡ n → ⊥)
      → (sum_on (drop i votes) n ≡ sum_on (drop (i + 1) votes) n) × (votes_on (drop i votes) n ≡ votes_on (drop (i + 1) votes) n)
  passes e = let t = ne_eqb _ n e in (sum_step ∙ cond-false _ _ _ t, count_step ∙ cond-false _ _ _ t)

module _ (table : Table) (holding : ℕ) (votes : List Vote) (n last : ℕ) (within : n ≤ last) where
  left : last + 1 - n ≡ suc (last - n)
  left = omega arith

  -- the sum holds on question n
  pub on_balance : true ≡ balanced table holding votes n → unbalanced_from table holding votes n (last + 1 - n) ≡ unbalanced_from table holding votes (n + 1) (last + 1 - (n + 1))
  on_balance e =
      let next : suc n ≡ n + 1 = omega arith in
      let rest : last - n ≡ last + 1 - (n + 1) = omega arith in
      ap (unbalanced_from table holding votes n) left ∙ cond-true _ _ _ (sym e) ∙ ap (λ m. unbalanced_from table holding votes m (last - n)) next ∙ ap (unbalanced_from table holding votes (n + 1)) rest

  -- or it does not
  pub off_balance : false ≡ balanced table holding votes n → unbalanced_from table holding votes n (last + 1 - n) ≡ Some n
  off_balance e = ap (unbalanced_from table holding votes n) left ∙ cond-false _ _ _ (sym e)
