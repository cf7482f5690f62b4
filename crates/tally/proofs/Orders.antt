-- The joined weight of some votes does not depend on their order.
use Rattle.std.proofs.Common.{◌≡◌, ℕ, zero, suc, ◌<◌, List, [], ◌∷◌, length, get_or, set, sym, refl, ap, ◌∙◌, ⊎_elim, arith}
use Rattle.std.specs.List.Sorted.{IsPermutation}
use Rattle.std.specs.List.{swap}
use Rattle.std.proofs.lemmas.List.{length-set, get_or-set_same, get_or-set_other}
use Rattle.std.proofs.lemmas.List.Sorted.{IsPermutation-keeps}
use Rattle.std.proofs.lemmas.Bool.{cases_eq}
use Rattle.tally.specs.declared.vote.Vote.{Vote}
use Rattle.tally.specs.Scale.{Scale, Group, joined}
use Rattle.tally.specs.Laws.{Added, Undone}
use Rattle.tally.proofs.Joining.{aside, cancel}

module _ {V : Type 0} (s : Scale V) (g : Group s) where
  -- a vote put in another's place
  joined_set : (xs : List Vote) (i : ℕ) (v d : Vote) → i < length xs → s.join (joined s (set xs i v)) (s.weight (get_or xs i d)) ≡ s.join (joined s xs) (s.weight v)
  joined_set [] i v d h = absurd (omega arith)
  joined_set (x ∷ xs) zero v d h =
      aside s g (s.weight v) (joined s xs) (s.weight x)
      ∙ ap (λ (a : V). s.join a (joined s xs)) (g.comm (s.weight v) (s.weight x))
      ∙ aside s g (s.weight x) (s.weight v) (joined s xs)
  joined_set (x ∷ xs) (suc i) v d h =
      g.assoc (s.weight x) (joined s (set xs i v)) (s.weight (get_or xs i d))
      ∙ ap (s.join (s.weight x)) (joined_set xs i v d (omega arith))
      ∙ sym (g.assoc (s.weight x) (joined s xs) (s.weight v))

  -- two votes that change places
  joined_exchanged : (xs : List Vote) (i j : ℕ) → i < length xs → j < length xs → joined s (swap xs i j) ≡ joined s xs
  joined_exchanged [] i j p q = refl
  joined_exchanged (d ∷ ys) i j p q =
      let xs : List Vote = d ∷ ys in
      let v : Vote = get_or xs j d in
      let w : List Vote = set xs i v in
      let there : get_or w j d ≡ v = ⊎_elim (λ e. ap (λ n. get_or w n d) e ∙ get_or-set_same xs i v d p) (λ n. get_or-set_other xs i j v d n) (cases_eq j i) in
      let long : length w ≡ length xs = length-set xs i v in
      let within : j < length w = omega arith in
      cancel s g (joined s (set w j (get_or xs i d))) (joined s xs) (s.weight v)
      (ap (λ (x : Vote). s.join (joined s (set w j (get_or xs i d))) (s.weight x)) (sym there)
      ∙ joined_set w j (get_or xs i d) d within ∙ joined_set xs i v d p)

  pub joined_shuffled : (xs ys : List Vote) → IsPermutation xs ys → joined s ys ≡ joined s xs
  joined_shuffled xs ys = IsPermutation-keeps xs (λ l. joined s l ≡ joined s xs) refl (λ l i j p q h. joined_exchanged l i j p q ∙ h) ys

  -- what was joined can be named in any order
  pub added_any : (before : V) (votes : List Vote) (after : V) → after ≡ s.join before (joined s votes) → Added s before votes after
  added_any before votes after e others h = e ∙ ap (s.join before) (sym (joined_shuffled votes others h))

  -- what was added in any order is taken back
  pub undone_any : (before : V) (votes : List Vote) (after : V) → before ≡ s.join after (joined s votes) → Undone s before votes after
  undone_any before votes after e first others h f =
      cancel s g after first (joined s votes) (sym e ∙ f ∙ ap (s.join first) (joined_shuffled votes others h))
