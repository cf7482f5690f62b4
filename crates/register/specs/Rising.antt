-- Texts in order differ, so a row that ascends has no reference twice. Assumes nothing.
use Rattle.std.specs.Prelude.{◌≡◌, ℕ, true, false, List, [], ◌∷◌, None, refl}
use Rattle.std.specs.declared.cmp.Ordering.TheVariants.{Less, Equal, Greater}
use Rattle.std.specs.declared.cmp.Ordering.{Ordering}
use Rattle.std.proofs.Common.{arith, ◌∙◌, ap, inl, inr}
use Rattle.std.specs.Cmp.{nat_cmp_total}
use Rattle.std.specs.Ordering.{ordering_reverse}
use Rattle.std.specs.List.{AllByRecursion}
use Rattle.std.specs.Str.{bytes_eq}
use Rattle.std.proofs.ByRecursion.{All-weaker}
use Rattle.std.proofs.lemmas.Slice.Eq.{bytes_eq-Decides}
use Rattle.std.proofs.lemmas.Bool.{cases_Bool}
use Rattle.register.specs.declared.entry.Entry.{Entry}
use Rattle.register.specs.Order.{order}
use Rattle.register.specs.Pairs.{key, look, Distinct}
use Rattle.register.specs.Places.{Ascending}
use Rattle.std.specs.Cmp.Lexicographic.{lists_total}

pub same_refl : (k : List ℕ) → bytes_eq k k ≡ true
same_refl k = (bytes_eq-Decides k k).1 refl

pub same_eq : (a b : List ℕ) → bytes_eq a b ≡ true → a ≡ b
same_eq a b h = (bytes_eq-Decides a b).0 h

self_turned : (o : Ordering) → o ≡ ordering_reverse o → o ≡ Equal
self_turned Less e = let z : ◌≡◌ {A = ℕ} 0 1 = cc in absurd (omega arith)
self_turned Equal e = refl
self_turned Greater e = let z : ◌≡◌ {A = ℕ} 0 1 = cc in absurd (omega arith)

pub order_refl : (a : List ℕ) → order a a ≡ Equal
order_refl a = self_turned (order a a) ((lists_total nat_cmp_total).antisymm a a)

pub order_turn : (a b : List ℕ) → order a b ≡ Greater → order b a ≡ Less
order_turn a b h = (lists_total nat_cmp_total).antisymm b a ∙ ap ordering_reverse h

-- two references in order are not the same
pub less_apart : (a b : List ℕ) → order a b ≡ Less → bytes_eq b a ≡ false
less_apart a b h =
    elim (cases_Bool (bytes_eq b a)) [ inl e ↦ absurd (let f = same_eq b a e in let r = order_refl a in let z : ◌≡◌ {A = ℕ} 0 1 = cc in omega arith) | inr e ↦ e ]

module _ {V : Type 0} where
  pub look_absent : (ps : List (Entry V)) (k : List ℕ) → AllByRecursion (λ p. bytes_eq (key p) k ≡ false) ps → look ps k ≡ None
  look_absent [] k h = refl
  look_absent (p ∷ ps) k h = rw h.0 (look_absent ps k h.1)

  pub distinct_from_ascending : (ps : List (Entry V)) → Ascending ps → Distinct ps
  distinct_from_ascending [] h = tt
  distinct_from_ascending (p ∷ ps) h = (look_absent ps (key p) (All-weaker (λ q. order (key p) (key q) ≡ Less) (λ q. bytes_eq (key q) (key p) ≡ false) (λ q l. less_apart (key p) (key q) l) ps h.0), distinct_from_ascending ps h.1)
