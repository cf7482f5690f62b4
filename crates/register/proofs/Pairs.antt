-- Look-ups in lists of pairs with no reference twice.
use Rattle.std.proofs.Common.{◌≡◌, ℕ, zero, suc, ◌<◌, ◌≤◌, true, false, cond, List, [], ◌∷◌, length, get_or, is_some, Some, None, Option, MatchOption, Bor, sym, refl, ap, ◌∙◌, inl, inr, arith}
use Rattle.std.proofs.lemmas.Bool.Decides.{same_from_decides, Decides-like}
use Rattle.std.proofs.lemmas.Bool.{cases_Bool}
use Rattle.std.specs.List.{find, insert, remove, AllWithin, HoldsAt}
use Rattle.std.specs.Option.{option_map}
use Rattle.std.proofs.ByRecursion.{all_from_every}
use Rattle.std.specs.Str.{bytes_eq}
use Rattle.std.proofs.lemmas.Slice.Eq.{bytes_eq-Decides}
use Rattle.register.specs.declared.entry.Entry.{Entry}
pub use Rattle.register.specs.Rising.{same_refl, same_eq}
use Rattle.register.specs.Rising.{look_absent}
use Rattle.register.specs.Places.{Placed}
use Rattle.register.specs.Pairs.{key, look, Distinct}

pub same_flip : (a b : List ℕ) → bytes_eq a b ≡ bytes_eq b a
same_flip a b = same_from_decides (bytes_eq a b) (bytes_eq b a) (bytes_eq-Decides a b) (Decides-like (bytes_eq b a) sym sym (bytes_eq-Decides b a))

pub look_inserted : {V : Type 0} (ps : List (Entry V)) (i : ℕ) (p : Entry V) (q : List ℕ) → look ps (key p) ≡ None → i ≤ length ps → look (insert ps i p) q ≡ cond (bytes_eq (key p) q) (Some p.value) (look ps q)
look_inserted ps zero p q none le = refl
look_inserted (x ∷ xs) (suc i) p q none le =
    let d1 = bytes_eq-Decides (key x) q in
    let d2 = bytes_eq-Decides (key p) q in
    let d3 = bytes_eq-Decides (key x) (key p) in
    let ih : look xs (key p) ≡ None → i ≤ length xs → look (insert xs i p) q ≡ cond (bytes_eq (key p) q) (Some p.value) (look xs q) = look_inserted xs i p q in
    grind arith
look_inserted [] (suc i) p q none le = absurd (omega arith)

pub look_at : {V : Type 0} (ps : List (Entry V)) (i : ℕ) (d : Entry V) → Distinct ps → i < length ps → look ps (key (get_or ps i d)) ≡ Some (get_or ps i d).value
look_at (x ∷ xs) zero d ok lt = let e = same_refl (key x) in grind arith
look_at (x ∷ xs) (suc i) d ok lt =
    let dec = bytes_eq-Decides (key x) (key (get_or xs i d)) in
    let ih : look xs (key (get_or xs i d)) ≡ Some (get_or xs i d).value = look_at xs i d ok.1 (omega arith) in
    grind arith
look_at [] i d ok lt = absurd (omega arith)

pub distinct_inserted : {V : Type 0} (ps : List (Entry V)) (i : ℕ) (p : Entry V) → look ps (key p) ≡ None → i ≤ length ps → Distinct ps → Distinct (insert ps i p)
distinct_inserted ps zero p none le ok = (none, ok)
distinct_inserted (x ∷ xs) (suc i) p none le ok =
    let d1 = bytes_eq-Decides (key x) (key p) in
    let d2 = bytes_eq-Decides (key p) (key x) in
    let n : look xs (key p) ≡ None = grind arith in
    let l = look_inserted xs i p (key x) n (omega arith) in
    (grind arith, distinct_inserted xs i p n (omega arith) ok.1)
distinct_inserted [] (suc i) p none le ok = absurd (omega arith)

-- the first pair's reference is no later pair's
pub clash : {V : Type 0} (x : Entry V) (xs : List (Entry V)) (i : ℕ) (d : Entry V) (q : List ℕ) → Distinct (x ∷ xs) → i < length xs → bytes_eq (key x) q ≡ true → bytes_eq (key (get_or xs i d)) q ≡ true → ◌≡◌ {A = ℕ} 0 1
clash x xs i d q ok lt h k =
    let e = same_eq (key x) q h in
    let f = same_eq (key (get_or xs i d)) q k in
    let none = ok.0 in
    let at = look_at xs i d ok.1 lt in
    cc

pub look_removed : {V : Type 0} (ps : List (Entry V)) (i : ℕ) (d : Entry V) (q : List ℕ) → Distinct ps → i < length ps → look (remove ps i) q ≡ cond (bytes_eq (key (get_or ps i d)) q) None (look ps q)
look_removed (x ∷ xs) zero d q ok lt =
    let none = ok.0 in
    elim (cases_Bool (bytes_eq (key x) q)) [ inl e ↦ (let f = same_eq (key x) q e in rw (e, ← f) none) | inr e ↦ rw e refl ]
look_removed (x ∷ xs) (suc i) d q ok lt =
    let l : i < length xs = omega arith in
    let ih = look_removed xs i d q ok.1 l in
    let no = clash x xs i d q ok l in
    elim (cases_Bool (bytes_eq (key x) q)) [ inl e ↦ elim (cases_Bool (bytes_eq (key (get_or xs i d)) q)) [ inl f ↦ absurd (let z = no e f in omega arith) | inr f ↦ rw (e, f) refl ] | inr e ↦ rw (e, ih) refl ]
look_removed [] i d q ok lt = absurd (omega arith)

pub distinct_removed : {V : Type 0} (ps : List (Entry V)) (i : ℕ) (d : Entry V) → Distinct ps → i < length ps → Distinct (remove ps i)
distinct_removed (x ∷ xs) zero d ok lt = ok.1
distinct_removed (x ∷ xs) (suc i) d ok lt =
    let l : i < length xs = omega arith in
    let gone = look_removed xs i d (key x) ok.1 l in
    let none = ok.0 in
    (elim (cases_Bool (bytes_eq (key (get_or xs i d)) (key x))) [ inl e ↦ gone ∙ rw e refl | inr e ↦ gone ∙ rw e none ], distinct_removed xs i d ok.1 l)
distinct_removed [] i d ok lt = absurd (omega arith)

-- what stands at a place whose reference is k
pub look_hit : {V : Type 0} (ps : List (Entry V)) (k : List ℕ) (i : ℕ) (d : Entry V) → Distinct ps → i < length ps → bytes_eq (key (get_or ps i d)) k ≡ true → look ps k ≡ Some (get_or ps i d).value
look_hit ps k i d ok lt h = let e = same_eq (key (get_or ps i d)) k h in let at = look_at ps i d ok lt in cc

-- what stands somewhere is found
pub look_some : {V : Type 0} (ps : List (Entry V)) (k : List ℕ) (i : ℕ) (d : Entry V) → i < length ps → bytes_eq (key (get_or ps i d)) k ≡ true → is_some (look ps k) ≡ true
look_some (x ∷ xs) k zero d lt h = rw h refl
look_some (x ∷ xs) k (suc i) d lt h =
    elim (cases_Bool (bytes_eq (key x) k)) [ inl e ↦ rw e refl | inr e ↦ rw e (look_some xs k i d (omega arith) h) ]
look_some [] k i d lt h = absurd (omega arith)

found_look : {V : Type 0} (ps : List (Entry V)) (k : List ℕ) → option_map (λ p. p.value) (find (λ p. bytes_eq (key p) k) ps) ≡ look ps k
found_look [] k = refl
found_look (p ∷ ps) k = elim (cases_Bool (bytes_eq (key p) k)) [ inl e ↦ rw e refl | inr e ↦ rw e (found_look ps k) ]

-- what is found is what the first of its reference holds
pub looked : {V : Type 0} (ps : List (Entry V)) (k : List ℕ) (o : Option (Bor (Entry V))) → option_map (λ p. p.now) o ≡ find (λ p. bytes_eq (key p) k) ps → look ps k ≡ option_map (λ p. p.now.value) o
looked ps k None h = sym (found_look ps k) ∙ ap (option_map (λ p. p.value)) (sym h)
looked ps k (Some e) h = sym (found_look ps k) ∙ ap (option_map (λ p. p.value)) (sym h)

-- the first place of a reference
pub placed_first : {V : Type 0} (ps : List (Entry V)) (k : List ℕ) (r : Option ℕ) → MatchOption r (AllWithin (λ p. bytes_eq (key p) k ≡ false) ps 0 (length ps)) (λ i. (i < length ps) × HoldsAt (λ p. bytes_eq (key p) k ≡ true) ps i × AllWithin (λ p. bytes_eq (key p) k ≡ false) ps 0 i) → Placed ps k r
placed_first ps k None h = look_absent ps k (all_from_every (λ p. bytes_eq (key p) k ≡ false) ps h)
placed_first ps k (Some i) h = (h.0, h.1)

-- a place says whether the reference is there
pub placed_there : {V : Type 0} (ps : List (Entry V)) (k : List ℕ) (r : Option ℕ) → Placed ps k r → is_some (look ps k) ≡ is_some r
placed_there ps k None h = ap is_some h
placed_there [] k (Some i) h = absurd (let lt = h.0 in omega arith)
placed_there (p ∷ ps) k (Some i) h = look_some (p ∷ ps) k i p h.0 (h.1 p)
