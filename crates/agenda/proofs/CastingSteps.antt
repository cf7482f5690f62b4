-- One turn of the loop over the votes of a message, and the votes of a cell. Assumes nothing.
use Rattle.std.proofs.Common.{◌≡◌, ℕ, ◌+◌, ◌<◌, Bool, true, false, cond, ◌&&◌, ◌||◌, eqb, List, [], ◌∷◌, ◌++◌, length, get_or, take, drop, Some, Ok, Err, sym, refl, ap, ◌∙◌, arith}
use Rattle.std.proofs.lemmas.List.{at_drop_more, map_more}
use Rattle.std.proofs.lemmas.List.Recursion.{same_from_clauses}
use Rattle.std.proofs.lemmas.Bool.{cond-true, cond-false}
use Rattle.std.specs.List.{list_any}
use Rattle.format.specs.declared.votes.VoteText.{VoteText}
use Rattle.tally.specs.declared.vote.Vote.{Vote}
use Rattle.agenda.specs.Agendas.{Table}
use Rattle.agenda.specs.Casting.{bad_from, cast_in, cast_one, cast_vote, cast_votes, is_good}

-- is a vote cast in the cell?
abbrev pub in_cell : ℕ → ℕ → Vote → Bool
in_cell question cell v = eqb v.question question && eqb v.cell cell

pub cast_in_any : (question cell : ℕ) (votes : List Vote) → list_any (in_cell question cell) votes ≡ cast_in votes question cell
cast_in_any question cell =
    same_from_clauses (list_any (in_cell question cell)) (λ vs. cast_in vs question cell) (λ v b. in_cell question cell v || b) refl (λ v vs. refl)
    (λ v vs. refl)

-- is the vote at place i cast in the cell?
pub cast_in_more : (votes : List Vote) (question cell i : ℕ) (none : Vote) (t : Bool) → i < length votes
    → t ≡ (eqb (get_or votes i none).question question && eqb (get_or votes i none).cell cell)
    → cast_in (drop i votes) question cell ≡ (t || cast_in (drop (i + 1) votes) question cell)
cast_in_more votes question cell i none t h e =
    let step : cast_in (drop i votes) question cell ≡ ((eqb (get_or votes i none).question question && eqb (get_or votes i none).cell cell) || cast_in (drop (i + 1) votes) question cell) = at_drop_more (λ l. cast_in l question cell) votes i none h in
    rw e step

-- which way it went, from what came of it
went_well : {A E : Type 0} (t : Bool) (a b : A) (e : E) → Ok a ≡ cond t (Ok b) (Err e) → (t ≡ true) × (a ≡ b)
went_well true a b e h = (refl, cc)
went_well false a b e h = let z : ◌≡◌ {A = ℕ} 0 1 = cc in absurd (omega arith)

went_wrong : {A E : Type 0} (t : Bool) (b : A) (d e : E) → Err d ≡ cond t (Ok b) (Err e) → (t ≡ false) × (d ≡ e)
went_wrong true b d e h = let z : ◌≡◌ {A = ℕ} 0 1 = cc in absurd (omega arith)
went_wrong false b d e h = (refl, cc)

module _ (table : Table) (texts : List VoteText) (earlier : List Vote) (i : ℕ) (none : VoteText) (within : i < length texts) where
  step : bad_from table earlier (drop i texts) ≡ cond (is_good table earlier (get_or texts i none)) (bad_from table (earlier ++ cast_vote (get_or texts i none) ∷ []) (drop (i + 1) texts)) (Some (length earlier + 1))
  step = at_drop_more (bad_from table earlier) texts i none within

  -- the vote at place i is good: it stands behind those before it
  pub bad_more : (v : Vote) → Ok v ≡ cast_one table earlier (get_or texts i none) → bad_from table (earlier ++ v ∷ []) (drop (i + 1) texts) ≡ bad_from table earlier (drop i texts)
  bad_more v e =
      let p = went_well _ v _ _ e in rw p.1 (sym (step ∙ cond-true _ _ _ p.0))

  pub cast_more : (v : Vote) → Ok v ≡ cast_one table earlier (get_or texts i none) → earlier ≡ cast_votes (take i texts) → earlier ++ v ∷ [] ≡ cast_votes (take (i + 1) texts)
  cast_more v e so =
      let p = went_well _ v _ _ e in
      ap (λ (l : List Vote). l ++ v ∷ []) so ∙ ap (λ (x : Vote). cast_votes (take i texts) ++ x ∷ []) p.1 ∙ sym (map_more cast_vote texts i none within)

  -- the vote at place i is not good
  pub bad_here : (place : ℕ) → Err place ≡ cast_one table earlier (get_or texts i none) → bad_from table earlier (drop i texts) ≡ Some place
  bad_here place e =
      let p = went_wrong _ _ place _ e in step ∙ cond-false _ _ _ p.0 ∙ ap Some (sym p.1)
