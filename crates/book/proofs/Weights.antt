-- Joined weights of the records, of which one changes.
use Rattle.std.proofs.Common.{◌≡◌, ℕ, zero, suc, ◌+◌, List, [], ◌∷◌, length, set, Some, None, Option, sym, refl, ap, ◌∙◌, arith}
use Rattle.std.specs.List.{slice_get}
use Rattle.tally.specs.Scale.{Scale, Group, joined}
use Rattle.tally.proofs.Joining.{left_unit, aside, joined_append}
use Rattle.book.specs.Book.{Instruction, instructions, ballots}

abbrev pub size_of : Option Instruction → ℕ
size_of None = 0
size_of (Some i) = 1

pub count_set : (rs : List (Option Instruction)) (n : ℕ) (o o' : Option Instruction) → slice_get rs n ≡ Some o → length (instructions (set rs n o')) + size_of o ≡ length (instructions rs) + size_of o'
count_set [] n o o' e = let z : ◌≡◌ {A = ℕ} 0 1 = cc in absurd (omega arith)
count_set (None ∷ rs) zero None None e = refl
count_set (None ∷ rs) zero None (Some j) e = omega arith
count_set (None ∷ rs) zero (Some i) o' e = let z : ◌≡◌ {A = ℕ} 0 1 = cc in absurd (omega arith)
count_set (Some i ∷ rs) zero None o' e = let z : ◌≡◌ {A = ℕ} 0 1 = cc in absurd (omega arith)
count_set (Some i ∷ rs) zero (Some j) None e = omega arith
count_set (Some i ∷ rs) zero (Some j) (Some k) e = refl
count_set (None ∷ rs) (suc n) o o' e = count_set rs n o o' e
count_set (Some i ∷ rs) (suc n) o o' e = let h = count_set rs n o o' e in omega arith

module _ {V : Type 0} (s : Scale V) where
  abbrev pub weigh : Option Instruction → V
  weigh None = s.neutral
  weigh (Some i) = joined s i.terms.votes

  abbrev pub total : List (Option Instruction) → V
  total rs = joined s (ballots (instructions rs))

  module _ (g : Group s) where
    total_cons : (o : Option Instruction) (rs : List (Option Instruction)) → total (o ∷ rs) ≡ s.join (weigh o) (total rs)
    total_cons None rs = sym (left_unit s g (total rs))
    total_cons (Some i) rs = joined_append s g i.terms.votes (ballots (instructions rs))

    pub total_set : (rs : List (Option Instruction)) (n : ℕ) (o o' : Option Instruction) → slice_get rs n ≡ Some o → s.join (total (set rs n o')) (weigh o) ≡ s.join (total rs) (weigh o')
    total_set [] n o o' e = let z : ◌≡◌ {A = ℕ} 0 1 = cc in absurd (omega arith)
    total_set (r ∷ rs) zero o o' e =
        let w : r ≡ o = cc in
        ap (λ (x : V). s.join x (weigh o)) (total_cons o' rs ∙ g.comm (weigh o') (total rs))
        ∙ aside s g (total rs) (weigh o') (weigh o)
        ∙ ap (λ (x : V). s.join x (weigh o')) (g.comm (total rs) (weigh o) ∙ sym (total_cons o rs) ∙ ap (λ (x : Option Instruction). total (x ∷ rs)) (sym w))
    total_set (r ∷ rs) (suc n) o o' e =
        ap (λ (z : V). s.join z (weigh o)) (total_cons r (set rs n o'))
        ∙ g.assoc (weigh r) (total (set rs n o')) (weigh o)
        ∙ ap (s.join (weigh r)) (total_set rs n o o' e)
        ∙ sym (g.assoc (weigh r) (total rs) (weigh o'))
        ∙ ap (λ (z : V). s.join z (weigh o')) (sym (total_cons r rs))
