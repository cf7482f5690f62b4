-- A list without one of its references.
use Rattle.std.proofs.Common.{◌≡◌, ℕ, zero, suc, ◌<◌, true, false, cond, List, [], ◌∷◌, length, get_or, Some, None, refl, ap, ◌∙◌, inl, inr, arith}
use Rattle.std.specs.List.{remove}
use Rattle.std.specs.Str.{bytes_eq}
use Rattle.std.proofs.lemmas.Bool.{cases_Bool}
use Rattle.register.specs.declared.entry.Entry.{Entry}
use Rattle.register.specs.Pairs.{key, look, Distinct, forgotten}
use Rattle.register.proofs.Pairs.{same_eq, same_flip, clash}

pub forgotten_none : {V : Type 0} (ms : List (Entry V)) (k : List ℕ) → look ms k ≡ None → forgotten ms k ≡ ms
forgotten_none [] k none = refl
forgotten_none (m ∷ ms) k none =
    elim (cases_Bool (bytes_eq (key m) k)) [ inl e ↦ (let bad : Some m.value ≡ None = rw e at none in let z : ◌≡◌ {A = ℕ} 0 1 = cc in absurd (omega arith)) | inr e ↦ (let rest : look ms k ≡ None = rw e at none in rw e (ap (λ l. m ∷ l) (forgotten_none ms k rest))) ]

pub forgotten_at : {V : Type 0} (ms : List (Entry V)) (k : List ℕ) (i : ℕ) (d : Entry V) → Distinct ms → i < length ms → bytes_eq (key (get_or ms i d)) k ≡ true → forgotten ms k ≡ remove ms i
forgotten_at (m ∷ ms) k zero d ok lt h =
    let e = same_eq (key m) k h in
    let none = ok.0 in
    rw h (forgotten_none ms k (rw (← e) none))
forgotten_at (m ∷ ms) k (suc i) d ok lt h =
    let l : i < length ms = omega arith in
    elim (cases_Bool (bytes_eq (key m) k)) [ inl e ↦ absurd (let z = clash m ms i d k ok l e h in omega arith) | inr e ↦ rw e (ap (λ l. m ∷ l) (forgotten_at ms k i d ok.1 l h)) ]
forgotten_at [] k i d ok lt h = absurd (omega arith)

pub look_forgotten : {V : Type 0} (ms : List (Entry V)) (k q : List ℕ) → look (forgotten ms k) q ≡ cond (bytes_eq k q) None (look ms q)
look_forgotten [] k q = elim (cases_Bool (bytes_eq k q)) [ inl e ↦ rw e refl | inr e ↦ rw e refl ]
look_forgotten (m ∷ ms) k q =
    let ih = look_forgotten ms k q in
    elim (cases_Bool (bytes_eq (key m) k)) [
      | inl e ↦ (let f = same_eq (key m) k e in elim (cases_Bool (bytes_eq k q)) [ inl g ↦ rw e (ih ∙ rw g refl) | inr g ↦ rw (e, f) (ih ∙ rw g refl) ])
      | inr e ↦ elim (cases_Bool (bytes_eq (key m) q)) [
        | inl g ↦ (let f = same_eq (key m) q g in let s : bytes_eq k q ≡ false = same_flip k q ∙ rw (← f) e in rw (e, s, g) refl)
        | inr g ↦ rw (e, g) ih
      ]
    ]

pub distinct_forgotten : {V : Type 0} (ms : List (Entry V)) (k : List ℕ) → Distinct ms → Distinct (forgotten ms k)
distinct_forgotten [] k d = tt
distinct_forgotten (m ∷ ms) k d =
    elim (cases_Bool (bytes_eq (key m) k)) [
      | inl e ↦ rw e (distinct_forgotten ms k d.1)
      | inr e ↦ rw e (look_forgotten ms k (key m) ∙ rw (same_flip k (key m), e) d.0, distinct_forgotten ms k d.1)
    ]
