-- The joined weight of some votes is the sum that the votes themselves give.
use Rattle.std.proofs.Common.{◌≡◌, ℕ, ◌+◌, ◌*◌, ◌%◌, ◌^◌, ◌<◌, Bool, true, cond, ◌&&◌, List, [], ◌∷◌, Some, None, sym, refl, ap, ◌∙◌, ⊎_elim, lit<}
use native.Mathlib.Nat.{add-mod, mod-mod}
use Rattle.std.proofs.lemmas.Bool.{cases_Bool, cond-false}
use Rattle.tally.specs.declared.vote.Vote.{Vote}
use Rattle.tally.specs.Scale.{Scale, joined}
use Rattle.tally.specs.Combined.{each, paired}
use Rattle.tally.specs.Residue.{Residue, modulo}
use Rattle.tally.specs.Control.{control_modulus, control_weight, control}
use Rattle.tally.specs.Ballot.{Figures, ballot_weight, on_table, cast_in, answered}
use Rattle.tally.specs.Laws.{sum_of, cast, products, FigureCounts, TotalCounts}

-- at each index the weights are joined by the scale of that index
pub joined_each : {I V : Type 0} (s : I → Scale V) (i : I) (vs : List Vote) → joined (each s) vs i ≡ joined (s i) vs
joined_each s i [] = refl
joined_each s i (v ∷ vs) = ap ((s i).join ((s i).weight v)) (joined_each s i vs)

-- of a pair each part is joined by its own scale
pub joined_paired : {V W : Type 0} (s : Scale V) (t : Scale W) (vs : List Vote) → joined (paired s t) vs ≡ (joined s vs, joined t vs)
joined_paired s t [] = refl
joined_paired s t (v ∷ vs) = ap ((paired s t).join (s.weight v, t.weight v)) (joined_paired s t vs)

-- joined residues are the residue of the sum
pub joined_modulo : (m : ℕ) (p : 0 < m) (w : Vote → ℕ) (vs : List Vote) → (joined (modulo m p w) vs).0 ≡ sum_of w vs % m
joined_modulo m p w [] = refl
joined_modulo m p w (v ∷ vs) = ap (λ (n : ℕ). (w v % m + n) % m) (joined_modulo m p w vs) ∙ sym (add-mod (w v) (sum_of w vs) m)

weighed_cast : (vs : List Vote) (q c : ℕ) → on_table q c ≡ true → sum_of (λ v. ballot_weight v q c) vs ≡ cast vs q c
weighed_cast [] q c t = refl
weighed_cast (v ∷ vs) q c t =
    ap (λ (b : Bool). cond (b && cast_in v q c) v.quantity 0 + sum_of (λ v. ballot_weight v q c) vs) t
    ∙ ap (λ (n : ℕ). cond (cast_in v q c) v.quantity 0 + n) (weighed_cast vs q c t)

weighed_products : (vs : List Vote) → sum_of control_weight vs % control_modulus ≡ products vs % control_modulus
weighed_products [] = refl
weighed_products (v ∷ vs) =
    add-mod (control_weight v) (sum_of control_weight vs) control_modulus
    ∙ ap (λ (n : ℕ). (n + sum_of control_weight vs % control_modulus) % control_modulus) (mod-mod (v.quantity * v.question) control_modulus)
    ∙ ap (λ (n : ℕ). ((v.quantity * v.question) % control_modulus + n) % control_modulus) (weighed_products vs)
    ∙ sym (add-mod (v.quantity * v.question) (products vs) control_modulus)

pub figure_counts : (f : Figures) (q c : ℕ) → FigureCounts f q c (answered f q c)
figure_counts f q c votes e =
    let joint : (f q c).0 ≡ sum_of (λ v. ballot_weight v q c) votes % 2 ^ 64 =
    ap (λ (g : Figures). (g q c).0) e
    ∙ ap (λ (g : ℕ → Residue (2 ^ 64)). (g c).0) (joined_each (λ q. each (λ c. modulo (2 ^ 64) (lit< tt) (λ v. ballot_weight v q c))) q votes)
    ∙ ap (λ (a : Residue (2 ^ 64)). a.0) (joined_each (λ c. modulo (2 ^ 64) (lit< tt) (λ v. ballot_weight v q c)) c votes)
    ∙ joined_modulo (2 ^ 64) (lit< tt) (λ v. ballot_weight v q c) votes in
    ⊎_elim
    (λ t. ap (λ (n : ℕ). cond (on_table q c) (Some n) None) (joint ∙ ap (λ (n : ℕ). n % 2 ^ 64) (weighed_cast votes q c t)))
    (λ n. cond-false (on_table q c) (Some (f q c).0) None n ∙ sym (cond-false (on_table q c) (Some (cast votes q c % 2 ^ 64)) None n))
    (cases_Bool (on_table q c))

pub total_counts : (a : Residue control_modulus) → TotalCounts a a.0
total_counts a votes e = ap (λ (b : Residue control_modulus). b.0) e ∙ joined_modulo control_modulus (lit< tt) control_weight votes ∙ weighed_products votes

-- the votes' products come to what their joined weight is
pub products_joined : (votes : List Vote) → products votes % control_modulus ≡ (joined control votes).0
products_joined votes = sym (joined_modulo control_modulus (lit< tt) control_weight votes ∙ weighed_products votes)
