-- What readings that give back what is spelled, and nothing else, are good for. Assumes nothing.
use Rattle.std.proofs.Common.{◌≡◌, ℕ, List, IfSome, Some, None, Option, sym, ap, ◌∙◌}
use Rattle.format.specs.Laws.{Decoded, Once}
use Rattle.std.proofs.lemmas.Option.{none-some}

pub decoded : {A : Type 0} (In : A → Type 0) (spelled : A → List ℕ) (read : List ℕ → Option A)
    → ((s : List ℕ) → IfSome (read s) (λ a. In a × (s ≡ spelled a))) → ((a : A) → In a → read (spelled a) ≡ Some a)
    → (v : List ℕ) (r : Option A) → r ≡ read v → Decoded In spelled v r
decoded {A} In spelled read right complete v r e = by r e (rw e (right v))
  where
    by : (r : Option A) → r ≡ read v → IfSome r (λ a. In a × (v ≡ spelled a)) → Decoded In spelled v r
    by None e h = λ a i q. absurd (none-some a (e ∙ ap read q ∙ complete a i))
    by (Some a) e h = h

pub once : {A : Type 0} (In : A → Type 0) (spelled : A → List ℕ) (read : List ℕ → Option A)
    → ((a : A) → In a → read (spelled a) ≡ Some a) → Once In spelled
once {A} In spelled read complete a b h k e =
    let q : ◌≡◌ {A = Option A} (Some a) (Some b) = sym (complete a h) ∙ ap read e ∙ complete b k in cc
