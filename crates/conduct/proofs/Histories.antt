-- A reference's standing as one more message is taken.
use Rattle.std.proofs.Common.{◌≡◌, ℕ, ◌⊎◌, List, [], ◌∷◌, ◌++◌, Option, ap, ◌∙◌, subst, inl, inr, append_assoc, arith}
use Rattle.std.specs.List.{AllByRecursion}
use Rattle.std.proofs.ByRecursion.{All-push}
use Rattle.book.specs.Book.{Terms}
use Rattle.book.specs.Orders.{Ordered}
use Rattle.book.specs.Orders.Ordered.{lodge}
use Rattle.conduct.specs.History.{Ends, Standing}

-- an empty list has no place
pub nothing : {X : Type 0} (ys : List X) (x : X) (zs : List X) → [] ≡ ys ++ x ∷ zs → ⊥
nothing [] x zs e = let z : ◌≡◌ {A = ℕ} 0 1 = cc in omega arith
nothing (y ∷ ys) x zs e = let z : ◌≡◌ {A = ℕ} 0 1 = cc in omega arith

-- where the message at a place of a list stands, once one more is at the end
split : {X : Type 0} (b s h : List X) (x m : X) → h ++ m ∷ [] ≡ b ++ x ∷ s → (m ≡ x) ⊎ ((t : List X) × (s ≡ t ++ m ∷ []) × (h ≡ b ++ x ∷ t))
split [] s [] x m e = inl (cc)
split [] s (y ∷ ys) x m e = inr (ys, (cc), (cc))
split {X} (y ∷ ys) s [] x m e = let f : ◌≡◌ {A = List X} [] (ys ++ x ∷ s) = cc in absurd (nothing ys x s f)
split {X} (y ∷ ys) s (z ∷ zs) x m e =
    let f : zs ++ m ∷ [] ≡ ys ++ x ∷ s = cc in
    let g : z ≡ y = cc in
    elim (split ys s zs x m f) [ inl p ↦ inl p | inr p ↦ inr (p.0, p.1, ap (λ (w : X). w ∷ zs) g ∙ ap (λ (w : List X). y ∷ w) p.2) ]

all_last : {X : Type 0} (P : X → Type 0) (xs : List X) (x : X) → AllByRecursion P (xs ++ x ∷ []) → P x
all_last P [] x a = a.0
all_last P (y ∷ ys) x a = all_last P ys x a.1

all_front : {X : Type 0} (P : X → Type 0) (xs : List X) (x : X) → AllByRecursion P (xs ++ x ∷ []) → AllByRecursion P xs
all_front P [] x a = tt
all_front P (y ∷ ys) x a = (a.0, all_front P ys x a.1)

module _ (h : List Ordered) (o : Ordered) (q : List ℕ) (t : Terms) where
  pub standing_new : (p : Option (List ℕ)) → o ≡ lodge t p → t.reference ≡ q → Standing (h ++ o ∷ []) q t
  standing_new p e r = record { before = h; since = []; replaced = p; order = ap (λ (w : Ordered). h ++ w ∷ []) e; lodged = r; unended = tt }

  pub standing_kept : Standing h q t → (Ends o q → ⊥) → Standing (h ++ o ∷ []) q t
  standing_kept s n =
      record {
        before = s.before;
        since = s.since ++ o ∷ [];
        replaced = s.replaced;
        order = ap (λ (w : List Ordered). w ++ o ∷ []) s.order ∙ append_assoc s.before (lodge t s.replaced ∷ s.since) (o ∷ []);
        lodged = s.lodged;
        unended = All-push (λ w. Ends w q → ⊥) s.since o s.unended n;
      }

  -- what stands after one more message was lodged by it, or stood before and is not ended by it
  pub standing_cases : Standing (h ++ o ∷ []) q t → ((p : Option (List ℕ)) × (o ≡ lodge t p) × (t.reference ≡ q)) ⊎ (Standing h q t × (Ends o q → ⊥))
  standing_cases s =
      elim (split s.before s.since h (lodge t s.replaced) o s.order) [
        | inl e ↦ inl (s.replaced, e, s.lodged)
        | inr p ↦
            let a : AllByRecursion (λ w. Ends w q → ⊥) (p.0 ++ o ∷ []) = subst (AllByRecursion (λ w. Ends w q → ⊥)) p.1 s.unended in
            inr (record { before = s.before; since = p.0; replaced = s.replaced; order = p.2; lodged = s.lodged; unended = all_front _ p.0 o a }, all_last _ p.0 o a)
      ]
