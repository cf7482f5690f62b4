-- Which calls can still be made after some.
use Rattle.std.proofs.Common.{◌≡◌, ℕ, ◌+◌, ◌<◌, Bool, true, false, List, Some, None, Option, sym, refl, ap, ◌∙◌, subst, inl, inr, arith}
use Rattle.std.specs.List.{slice_get}
use Rattle.std.proofs.lemmas.Bool.{cases_eq}
use Rattle.conduct.specs.declared.call.Call.{Call}
use Rattle.conduct.specs.declared.call.Call.TheVariants.{Take, Ask, Close}
use Rattle.conduct.specs.declared.call.Answer.{Answer}
use Rattle.conduct.specs.Run.{Orderly, IsQuestion}
use Rattle.conduct.specs.Conducting.{Goes}

-- whether there was a closing among the first calls
abbrev pub Since : List Call → ℕ → Bool → Type 0
Since calls n true = (j : ℕ) × (j < n) × (slice_get calls j ≡ Some Close)
Since calls n false = (j : ℕ) → j < n → slice_get calls j ≡ Some Close → ⊥

module _ (calls : List Call) (n : ℕ) (c : Call) (here : slice_get calls n ≡ Some c) where
  later : Since calls n true → Since calls (n + 1) true
  later s = (s.0, (let h = s.1 in omega arith), s.2)

  none : (c ≡ Close → ⊥) → Since calls n false → Since calls (n + 1) false
  none d s j h e = elim (cases_eq j n) [
    | inl same ↦ (let w : c ≡ Close = cc in d w)
    | inr other ↦ s j (omega arith) e
  ]

  pub since_more : (was now' : Bool) (a : Option Answer) → Goes was c a now' → Since calls n was → Since calls (n + 1) now'
  since_more was now' a go s = by_call was c refl go s
    where
      by_call : (w : Bool) (d : Call) → c ≡ d → Goes w d a now' → Since calls n w → Since calls (n + 1) now'
      by_call false (Take number text) e k t = subst (Since calls (n + 1)) (sym k.1) (none (λ x. let z : ◌≡◌ {A = ℕ} 0 1 = cc in omega arith) t)
      by_call false (Ask q) e k t = subst (Since calls (n + 1)) (sym k.1) (none (λ x. let z : ◌≡◌ {A = ℕ} 0 1 = cc in omega arith) t)
      by_call false Close e k t = subst (Since calls (n + 1)) (sym k.1) (n, (omega arith), here ∙ ap {B = Option Call} Some e)
      by_call true (Take number text) e k t = subst (Since calls (n + 1)) (sym k.1) (later t)
      by_call true (Ask q) e k t = subst (Since calls (n + 1)) (sym k.1) (later t)
      by_call true Close e k t = subst (Since calls (n + 1)) (sym k.1) (later t)

  -- a call that is made keeps the order
  pub orderly_more : (was now' : Bool) (a : Answer) → Goes was c (Some a) now' → Since calls n was → Orderly calls n → Orderly calls (n + 1)
  orderly_more was now' a go s o j k d lt h e f = elim (cases_eq k n) [
    | inl same ↦ (let w : c ≡ d = cc in subst IsQuestion w (asks was c go s))
    | inr other ↦ o j k d lt (omega arith) e f
  ]
    where
      asks : (w : Bool) (x : Call) → Goes w x (Some a) now' → Since calls n w → IsQuestion x
      asks false x g t = absurd (t j (omega arith) e)
      asks true (Take number text) g t = let y = g.0 in let z : ◌≡◌ {A = ℕ} 0 1 = cc in absurd (omega arith)
      asks true (Ask q) g t = tt
      asks true Close g t = let y = g.0 in let z : ◌≡◌ {A = ℕ} 0 1 = cc in absurd (omega arith)

  -- a call that cannot be made would break it
  pub unorderly : (was now' : Bool) → Goes was c None now' → Since calls n was → Orderly calls (n + 1) → ⊥
  unorderly was now' go s o = by_call was c refl go s
    where
      by_call : (w : Bool) (d : Call) → c ≡ d → Goes w d None now' → Since calls n w → ⊥
      by_call false (Take number text) e k t = let y = k.0 in let z : ◌≡◌ {A = ℕ} 0 1 = cc in omega arith
      by_call false (Ask q) e k t = let y = k.0 in let z : ◌≡◌ {A = ℕ} 0 1 = cc in omega arith
      by_call false Close e k t = let y = k.0 in let z : ◌≡◌ {A = ℕ} 0 1 = cc in omega arith
      by_call true (Take number text) e k t = o t.0 n (Take number text) t.1 (omega arith) t.2 (here ∙ ap {B = Option Call} Some e)
      by_call true (Ask q) e k t = let y = k.0 in let z : ◌≡◌ {A = ℕ} 0 1 = cc in omega arith
      by_call true Close e k t = o t.0 n Close t.1 (omega arith) t.2 (here ∙ ap {B = Option Call} Some e)
