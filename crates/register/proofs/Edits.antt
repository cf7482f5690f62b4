-- What a list's edit means for the set of its pairs.
use Rattle.std.proofs.Common.{◌≡◌, ℕ, ◌+◌, ◌<◌, ◌≤◌, Bool, true, false, cond, ltb, List, [], ◌∷◌, ◌++◌, length, get_or, is_ok, IfSome, Some, None, Ok, Err, Option, Result, sym, refl, ap, ◌∙◌, subst, inl, inr, arith}
use Rattle.std.specs.List.{HoldsAt, insert, remove}
use Rattle.std.specs.Str.{bytes_eq}
use Rattle.std.proofs.lemmas.Bool.{cases_Bool}
use Rattle.std.proofs.lemmas.List.{take_all, drop_all}
use Rattle.std.proofs.lemmas.List.Edits.{length-insert, length-remove}
use Rattle.register.specs.declared.call.EnterRefusal.TheVariants.{AlreadyThere, Full}
use Rattle.register.specs.declared.call.EnterRefusal.{EnterRefusal}
use Rattle.register.specs.Pairs.{Pair, key, look, Distinct, forgotten}
use Rattle.register.specs.Places.{Placed}
use Rattle.register.specs.Sets.{Alike, Found, Entered, Struck}
use Rattle.register.proofs.Pairs.{same_eq, look_hit, look_inserted}
use Rattle.register.proofs.Forgetting.{forgotten_at, look_forgotten}

pub alike_refl : (ps : List Pair) → Alike ps ps
alike_refl ps = record { looks = λ q. refl; size = refl }

pub found_at : (ps : List Pair) (k : List ℕ) (i : ℕ) (d : Pair) → Distinct ps → i < length ps → bytes_eq (key (get_or ps i d)) k ≡ true → Found ps ps k (Some (get_or ps i d).value)
found_at ps k i d ok lt h = record { answer = sym (look_hit ps k i d ok lt h); same = alike_refl ps }

pub found_none : (ps : List Pair) (k : List ℕ) → look ps k ≡ None → Found ps ps k None
found_none ps k none = record { answer = sym none; same = alike_refl ps }

pub refused_there : (room : ℕ) (ps : List Pair) (k : List ℕ) (n m : ℕ) → look ps k ≡ Some m → Entered room ps ps k n (Err AlreadyThere)
refused_there room ps k n m some = record { answer = rw some refl; looks = λ q. refl; size = omega arith }

-- a pair that is not there is put in where there is room
pub entered_if : (room : ℕ) (ps qs : List Pair) (i : ℕ) (p : Pair) (r : Result (Unit {0}) EnterRefusal) → look ps (key p) ≡ None → i ≤ length ps → r ≡ cond (ltb (length ps) room) (Ok tt) (Err Full) → qs ≡ cond (is_ok r) (insert ps i p) ps → Entered room ps qs (key p) p.value r
entered_if room ps qs i p (Ok u) none le answer is = record { answer = rw none answer; looks = λ q. rw is (look_inserted ps i p q none le); size = rw is (length-insert ps i p le) }
entered_if room ps qs i p (Err x) none le answer is = record { answer = rw none answer; looks = λ q. rw is refl; size = rw is (omega arith) }

pub behind_insert : (ps : List Pair) (p : Pair) → insert ps (length ps) p ≡ ps ++ p ∷ []
behind_insert ps p = let n : length ps ≤ length ps = omega arith in rw (take_all (length ps) ps n, drop_all (length ps) ps n) refl

-- what holds with a pair put in and without it
pub either : {X : Type 0} (P : X → Type 0) (b : Bool) (x y z : X) → z ≡ cond b x y → P x → P y → P z
either P true x y z is p q = subst P (sym is) p
either P false x y z is p q = subst P (sym is) q

pub struck_none : (ps : List Pair) (k : List ℕ) → look ps k ≡ None → Struck ps ps k None
struck_none ps k none = record {
  answer = sym none;
  looks = λ q. elim (cases_Bool (bytes_eq k q)) [ inl e ↦ (let f = same_eq k q e in rw (e, ← f) none) | inr e ↦ rw e refl ];
  size = omega arith;
}

-- the pair at the reference's place is taken out
pub taken_out : (ps qs : List Pair) (k : List ℕ) (i : ℕ) (p : Pair) → Distinct ps → Placed ps k (Some i) → p ≡ get_or ps i p → qs ≡ remove ps i → Struck ps qs k (Some p.value) × (qs ≡ forgotten ps k)
taken_out ps qs k i p ok at here is =
    let there : look ps k ≡ Some p.value = look_hit ps k i p ok at.0 (at.1 p) ∙ ap (λ e. Some e.value) (sym here) in
    let gone : qs ≡ forgotten ps k = is ∙ sym (forgotten_at ps k i p ok at.0 (at.1 p)) in
    (record { answer = sym there; looks = λ q. rw gone (look_forgotten ps k q); size = rw is (length-remove ps i at.0) }, gone)

-- with no reference twice, a reference's number stands at its place, and the rest is the list without it
pub placed_beside : (ps : List Pair) (k : List ℕ) (r : Option ℕ) → Distinct ps → Placed ps k r → IfSome r (λ i. HoldsAt (λ p. look ps k ≡ Some p.value) ps i)
placed_beside ps k None ok at = tt
placed_beside ps k (Some i) ok at = λ d. look_hit ps k i d ok at.0 (at.1 d)

pub placed_rest : (ps : List Pair) (k : List ℕ) (r : Option ℕ) → Distinct ps → Placed ps k r → IfSome r (λ i. remove ps i ≡ forgotten ps k)
placed_rest ps k None ok at = tt
placed_rest [] k (Some i) ok at = absurd (let lt = at.0 in omega arith)
placed_rest (p ∷ ps) k (Some i) ok at = sym (forgotten_at (p ∷ ps) k i p ok at.0 (at.1 p))

pub removed_size : (ps : List Pair) (i : ℕ) → i < length ps → length (remove ps i) + 1 ≡ length ps
removed_size ps i lt = let n = length-remove ps i lt in omega arith
