-- The judgement of the sums: what the definition computes is one, and there is no other. Assumes nothing.
use Rattle.std.proofs.Common.{◌≡◌, ℕ, zero, suc, ◌+◌, ◌<◌, ◌≤◌, true, false, List, Some, None, Option, sym, refl, ap, ◌∙◌, subst, ⊎_elim, arith}
use Rattle.std.proofs.lemmas.Bool.{and_parts, and_from, or_cases, or_parts, both_ways, cond_both, cases_order, cases_lt, eqb-true, eqb-false, eq-eqb, false≢true}
use Rattle.format.specs.declared.votes.VoteKind.{VoteKind}
use Rattle.format.specs.declared.votes.VoteKind.TheVariants.{Ordinary, Cumulative}
use Rattle.tally.specs.declared.vote.Vote.{Vote}
use Rattle.agenda.specs.declared.question.Question.{Question}
use Rattle.agenda.specs.Agendas.{Table, asked}
use Rattle.agenda.specs.Sums.{Balanced, SumsJudged, balanced, count_fits, holds_on, sum_on, unbalanced, unbalanced_from, votes_on}

count_fits_lem : (k : VoteKind) (n : ℕ) → (k ≡ Ordinary → n ≡ 1) → count_fits k n ≡ true
count_fits_lem Ordinary n h = eq-eqb n 1 (h refl)
count_fits_lem Cumulative n h = refl

module _ (table : Table) (holding : ℕ) (votes : List Vote) where
  -- what the test of a question says in words
  holds : (n : ℕ) (o : Option Question) → asked table n ≡ o → holds_on o holding (sum_on votes n) (votes_on votes n) ≡ true → Balanced table holding votes n
  holds n None e h = absurd (false≢true h)
  holds n (Some q) e h =
      let p = and_parts _ _ h in
      record {
        question = q;
        there = e;
        sum = eqb-true _ _ p.0;
        single = λ k. eqb-true _ _ (subst (λ (x : VoteKind). count_fits x (votes_on votes n) ≡ true) k p.1);
      }

  held : (n : ℕ) → Balanced table holding votes n → holds_on (asked table n) holding (sum_on votes n) (votes_on votes n) ≡ true
  held n b =
      subst (λ (o : Option Question). holds_on o holding (sum_on votes n) (votes_on votes n) ≡ true) (sym b.there)
      (and_from _ _ (eq-eqb _ _ b.sum) (count_fits_lem b.question.kind _ b.single))

  in_balance : (n : ℕ) → balanced table holding votes n ≡ true → 1 ≤ votes_on votes n → Balanced table holding votes n
  in_balance n h some = ⊎_elim (λ z. let e = eqb-true (votes_on votes n) 0 z in absurd (omega arith)) (holds n (asked table n) refl) (or_cases _ _ h)

  off_balance : (n : ℕ) → balanced table holding votes n ≡ false → (1 ≤ votes_on votes n) × (Balanced table holding votes n → ⊥)
  off_balance n h =
      let p = or_parts _ _ h in
      let some : votes_on votes n ≡ 0 → ⊥ = eqb-false _ _ p.0 in
      (omega arith, λ b. both_ways _ p.1 (held n b))

  -- the sums hold below n, and k questions are left
  judged_from : (k n : ℕ) → 1 ≤ n → n + k ≡ 33 → ((m : ℕ) → 1 ≤ m → m < n → 1 ≤ votes_on votes m → Balanced table holding votes m) → SumsJudged table holding votes (unbalanced_from table holding votes n k)
  judged_from zero n low e before = λ m a b. before m a (omega arith)
  judged_from (suc k) n low e before =
      cond_both (balanced table holding votes n) _ _ (SumsJudged table holding votes)
      (λ h. judged_from k (suc n) (omega arith) (omega arith) (λ m a b v. ⊎_elim (λ lt. before m a lt v) (λ le. (let q : n ≡ m = omega arith in in_balance m (subst (λ x. balanced table holding votes x ≡ true) q h) v)) (cases_lt m n)))
      (λ h. let p = off_balance n h in (low, omega arith, p.0, p.1, before))

  sums_judged : SumsJudged table holding votes (unbalanced table holding votes)
  sums_judged = judged_from 32 1 (omega arith) (omega arith) (λ m a b. absurd (omega arith))

  sums_only : (p q : Option ℕ) → SumsJudged table holding votes p → SumsJudged table holding votes q → p ≡ q
  sums_only None None a b = refl
  sums_only None (Some n) a b = absurd (b.3 (a n b.0 b.1 b.2))
  sums_only (Some m) None a b = absurd (a.3 (b m a.0 a.1 a.2))
  sums_only (Some m) (Some n) a b =
      ⊎_elim (λ e. ap Some e)
      (⊎_elim (λ lt. absurd (a.3 (b.4 m a.0 lt a.2))) (λ lt. absurd (b.3 (a.4 n b.0 lt b.2))))
      (cases_order m n)

-- what is said of the sums, from what came of the votes
pub all_judged : (table : Table) (holding : ℕ) (votes kept : List Vote) (r : Option ℕ) → kept ≡ votes → r ≡ unbalanced table holding kept
    → (r ≡ unbalanced table holding votes) × SumsJudged table holding votes r × ((o : Option ℕ) → SumsJudged table holding votes o → o ≡ r)
all_judged table holding votes kept r same e =
    let is : r ≡ unbalanced table holding votes = e ∙ ap (unbalanced table holding) same in
    let judged : SumsJudged table holding votes r = subst (SumsJudged table holding votes) (sym is) (sums_judged table holding votes) in
    (is, judged, λ o h. sums_only table holding votes o r h judged)
