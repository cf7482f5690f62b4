-- Texts are equal or not, and functions from texts changed at one of them.
use Rattle.std.proofs.Common.{◌≡◌, ℕ, Bool, true, false, ◌⊎◌, List, sym, refl, ◌∙◌, inl, inr, arith}
use Rattle.std.proofs.lemmas.Slice.Eq.{bytes_eq-Decides}
use Rattle.std.proofs.lemmas.Bool.{cases_Bool, cond-true, cond-false}
use Rattle.std.specs.Str.{bytes_eq}
use Rattle.book.specs.Keyed.{put}

pub same_refl : (a : List ℕ) → bytes_eq a a ≡ true
same_refl a = (bytes_eq-Decides a a).1 refl

pub same_eq : (a b : List ℕ) → bytes_eq a b ≡ true → a ≡ b
same_eq a b h = (bytes_eq-Decides a b).0 h

pub same_apart : (a b : List ℕ) → (a ≡ b → ⊥) → bytes_eq a b ≡ false
same_apart a b d = elim (cases_Bool (bytes_eq a b)) [ inl h ↦ absurd (d (same_eq a b h)) | inr h ↦ h ]

pub cases_text : (a b : List ℕ) → (a ≡ b) ⊎ (a ≡ b → ⊥)
cases_text a b = elim (cases_Bool (bytes_eq a b)) [
  | inl h ↦ inl (same_eq a b h)
  | inr h ↦ inr (λ e. let t : bytes_eq a b ≡ true = (bytes_eq-Decides a b).1 e in let w : ◌≡◌ {A = Bool} true false = sym t ∙ h in let z : ◌≡◌ {A = ℕ} 0 1 = cc in omega arith)
]

pub put_here : {A : Type 0} (f : List ℕ → A) (k : List ℕ) (x : A) → put f k x k ≡ x
put_here f k x = cond-true (bytes_eq k k) x (f k) (same_refl k)

pub put_apart : {A : Type 0} (f : List ℕ → A) (k : List ℕ) (x : A) (q : List ℕ) → (q ≡ k → ⊥) → put f k x q ≡ f q
put_apart f k x q d = cond-false (bytes_eq k q) x (f q) (same_apart k q (λ e. d (sym e)))
