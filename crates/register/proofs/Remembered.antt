-- Learning and forgetting in a list of memos with no reference twice.
use Rattle.std.proofs.Common.{◌≡◌, ℕ, zero, suc, Bool, not, ◌&&◌, T, List, [], ◌∷◌, take, is_some, Some, None, Option, sym, refl, ap, ◌∙◌, subst, inl, inr}
use Rattle.std.specs.Str.{bytes_eq}
use Rattle.std.proofs.lemmas.Bool.{cases_Bool}
use Rattle.register.specs.declared.reference.Reference.{Reference}
use Rattle.register.specs.declared.entry.Entry.{Entry}
use Rattle.register.specs.Pairs.{key, look, Distinct, forgotten}
use Rattle.register.specs.Memos.{Memo, learnt, single}
use Rattle.register.proofs.Pairs.{same_refl}
use Rattle.register.proofs.Forgetting.{look_forgotten, distinct_forgotten}
use Rattle.register.specs.Spelling.{spelling}

split : {V : Type 0} (o : Option V) (b : Bool) → T (not (is_some o) && b) → (o ≡ None) × T b
split None b t = (refl, t)
split (Some v) b t = absurd t

pub distinct_from_single : (ms : List Memo) → T (single ms) → Distinct ms
distinct_from_single [] t = tt
distinct_from_single (m ∷ ms) t = let p = split (look ms (key m)) (single ms) t in (p.0, distinct_from_single ms p.1)

pub single_from_distinct : (ms : List Memo) → Distinct ms → T (single ms)
single_from_distinct [] d = tt
single_from_distinct (m ∷ ms) d = rw d.0 (single_from_distinct ms d.1)

look_take : {V : Type 0} (n : ℕ) (ms : List (Entry V)) (k : List ℕ) → look ms k ≡ None → look (take n ms) k ≡ None
look_take zero ms k none = refl
look_take (suc n) [] k none = refl
look_take (suc n) (m ∷ ms) k none =
    elim (cases_Bool (bytes_eq (key m) k)) [ inl e ↦ (let bad : Some m.value ≡ None = rw e at none in rw e bad) | inr e ↦ (let rest : look ms k ≡ None = rw e at none in rw e (look_take n ms k rest)) ]

pub distinct_take : {V : Type 0} (n : ℕ) (ms : List (Entry V)) → Distinct ms → Distinct (take n ms)
distinct_take zero ms d = tt
distinct_take (suc n) [] d = tt
distinct_take (suc n) (m ∷ ms) d = (look_take n ms (key m) d.0, distinct_take n ms d.1)

-- the newest goes before the others, of which the first are kept, however many that are
pub distinct_newest : (n : ℕ) (ms : List Memo) (r : Reference) (a : Option ℕ) → Distinct ms → Distinct (take n (record { reference = r; value = a } ∷ forgotten ms (spelling r)))
distinct_newest n ms r a d = distinct_take n (record { reference = r; value = a } ∷ forgotten ms (spelling r)) (look_forgotten ms (spelling r) (spelling r) ∙ rw (same_refl (spelling r)) refl, distinct_forgotten ms (spelling r) d)

pub distinct_learnt : (ms : List Memo) (r : Reference) (a : Option ℕ) → Distinct ms → Distinct (learnt ms r a)
distinct_learnt = distinct_newest 16

-- so a reference learnt stands once, whatever number is kept
pub newest_once : (n : ℕ) (ms fs ns : List Memo) (r : Reference) (a : Option ℕ) → T (single ms) → fs ≡ forgotten ms (spelling r) → ns ≡ take n (record { reference = r; value = a } ∷ fs) → T (single ns)
newest_once n ms fs ns r a t f is =
    let P : List Memo → Type 0 = λ l. T (single l) in
    subst P (sym (is ∙ ap (λ l. take n (record { reference = r; value = a } ∷ l)) f)) (single_from_distinct _ (distinct_newest n ms r a (distinct_from_single ms t)))
