-- Texts in sixteen bytes: padding changes neither their equality nor their order.
use Rattle.std.proofs.Common.{◌≡◌, ℕ, zero, suc, ◌-◌, ◌<◌, ◌≤◌, Bool, true, false, ◌&&◌, T, eqb, leb, List, [], ◌∷◌, ◌++◌, length, get_or, take, drop, replicate, Some, None, Option, MatchOption, unwrap_or, Less, Greater, sym, refl, ap, ◌∙◌, subst, inl, inr, arith}
use Rattle.std.specs.List.{AllWithin, HoldsAt}
use Rattle.std.proofs.lemmas.List.{drop-replicate, take_all}
use Rattle.std.specs.Ordering.{ordering_then, nat_cmp}
use Rattle.std.specs.Str.{bytes_eq}
use Rattle.std.proofs.lemmas.Slice.Eq.{bytes_eq-Decides}
use Rattle.std.proofs.lemmas.Bool.{cases_Bool, eqb-true, le-leb, leb-true, ne_eqb, eq-eqb, and_parts, false≢true}
use Rattle.std.proofs.lemmas.Bool.Decides.{same_from_decides, Decides-like, nat_tests}
use Rattle.register.specs.Order.{order}
use Rattle.fields.specs.Characters.{set_x}
use Rattle.register.specs.Texts.{all_x, is_text, padded, unpadded, zeros, trails, shaped}
use Rattle.register.specs.Rising.{order_refl}

pub both : (a b : Bool) → T (a && b) → T a × T b
both true b t = (tt, t)
both false b t = absurd t

pub from_T : (b : Bool) → T b → b ≡ true
from_T true t = refl
from_T false t = absurd t

pub to_T : (b : Bool) → b ≡ true → T b
to_T b e = rw e tt

pub zeros_are : (bs : List ℕ) → T (zeros bs) → bs ≡ replicate (length bs) 0
zeros_are [] t = refl
zeros_are (b ∷ bs) t =
    let p = both (eqb b 0) (zeros bs) t in
    let e : b ≡ 0 = eqb-true b 0 (from_T (eqb b 0) p.0) in
    let f = zeros_are bs p.1 in
    cc

pub trails_from_shaped : (bs : List ℕ) → T (shaped bs) → T (trails bs)
trails_from_shaped [] t = tt
trails_from_shaped (b ∷ bs) t =
    let p = both (set_x b) (trails bs) t in
    let P : ℕ → Type 0 = λ x. T (set_x x) in
    elim (cases_Bool (eqb b 0)) [ inl e ↦ absurd (subst P (eqb-true b 0 e) p.0) | inr e ↦ rw e t ]

pub repad : (bs : List ℕ) → T (trails bs) → unpadded bs ++ replicate (length bs - length (unpadded bs)) 0 ≡ bs
repad [] t = refl
repad (b ∷ bs) t =
    elim (cases_Bool (eqb b 0)) [
      | inl e ↦ (let z : T (zeros bs) = rw e at t in let f = zeros_are bs z in let g = eqb-true b 0 e in let s : suc (length bs) - 0 ≡ suc (length bs) = omega arith in rw (e, s) (cc))
      | inr e ↦ (let p : T (set_x b && trails bs) = rw e at t in let ih = repad bs (both (set_x b) (trails bs) p).1 in let s : suc (length bs) - suc (length (unpadded bs)) ≡ length bs - length (unpadded bs) = omega arith in rw (e, s, ih) refl)
    ]

pub unpadded_same : (a b : List ℕ) → length a ≡ length b → T (trails a) → T (trails b) → unpadded a ≡ unpadded b → a ≡ b
unpadded_same a b n s t e = let f = repad a s in let g = repad b t in cc

pub same_unpadded : (a b : List ℕ) → length a ≡ length b → T (trails a) → T (trails b) → bytes_eq a b ≡ bytes_eq (unpadded a) (unpadded b)
same_unpadded a b n s t = same_from_decides (bytes_eq a b) (bytes_eq (unpadded a) (unpadded b)) (bytes_eq-Decides a b) (Decides-like (bytes_eq (unpadded a) (unpadded b)) (unpadded_same a b n s t) (ap unpadded) (bytes_eq-Decides (unpadded a) (unpadded b)))

pub order_unpadded : (a b : List ℕ) → length a ≡ length b → T (trails a) → T (trails b) → order a b ≡ order (unpadded a) (unpadded b)
order_unpadded [] [] n s t = refl
order_unpadded [] (y ∷ ys) n s t = absurd (omega arith)
order_unpadded (x ∷ xs) [] n s t = absurd (omega arith)
order_unpadded (x ∷ xs) (y ∷ ys) n s t =
    elim (cases_Bool (eqb x 0)) [
      | inl e ↦ elim (cases_Bool (eqb y 0)) [
        | inl f ↦ (let q : unpadded (x ∷ xs) ≡ unpadded (y ∷ ys) = rw (e, f) refl in
            let P : List ℕ → Type 0 = λ b. order (x ∷ xs) b ≡ order (unpadded (x ∷ xs)) (unpadded b) in
            subst P (unpadded_same (x ∷ xs) (y ∷ ys) n s t q) (order_refl (x ∷ xs) ∙ sym (order_refl (unpadded (x ∷ xs)))))
        | inr f ↦ (let r : nat_cmp x y ≡ Less = grind (arith, nat_tests) in rw (e, f, r) refl)
      ]
      | inr e ↦ elim (cases_Bool (eqb y 0)) [
        | inl f ↦ (let r : nat_cmp x y ≡ Greater = grind (arith, nat_tests) in rw (e, f, r) refl)
        | inr f ↦ (let p : T (set_x x && trails xs) = rw e at s in
            let q : T (set_x y && trails ys) = rw f at t in
            let ih = order_unpadded xs ys (omega arith) (both (set_x x) (trails xs) p).1 (both (set_x y) (trails ys) q).1 in
            rw (e, f) (ap (ordering_then (nat_cmp x y)) ih))
      ]
    ]

-- what a reference holds is a text
pub text_within : (bs : List ℕ) → length (unpadded bs) ≤ length bs
text_within [] = omega arith
text_within (b ∷ bs) =
    let ih = text_within bs in
    elim (cases_Bool (eqb b 0)) [ inl e ↦ rw e (omega arith) | inr e ↦ rw e (omega arith) ]

pub text_all : (bs : List ℕ) → T (trails bs) → all_x (unpadded bs) ≡ true
text_all [] t = refl
text_all (b ∷ bs) t =
    elim (cases_Bool (eqb b 0)) [
      | inl e ↦ rw e refl
      | inr e ↦ (let p : T (set_x b && trails bs) = rw e at t in let q = both (set_x b) (trails bs) p in rw (e, from_T (set_x b) q.0) (text_all bs q.1))
    ]

pub text_some : (bs : List ℕ) → T (shaped bs) → 1 ≤ length (unpadded bs)
text_some [] t = absurd t
text_some (b ∷ bs) t =
    let p = both (set_x b) (trails bs) t in
    let P : ℕ → Type 0 = λ x. T (set_x x) in
    elim (cases_Bool (eqb b 0)) [ inl e ↦ absurd (subst P (eqb-true b 0 e) p.0) | inr e ↦ rw e (omega arith) ]

pub text_held : (bs : List ℕ) → length bs ≡ 16 → T (shaped bs) → is_text (unpadded bs) ≡ true
text_held bs n t =
    let w = text_within bs in
    let m : length (unpadded bs) ≤ 16 = omega arith in
    rw (le-leb 1 (length (unpadded bs)) (text_some bs t), le-leb (length (unpadded bs)) 16 m) (text_all bs (trails_from_shaped bs t))

-- what is made of a text
zeros_made : (n : ℕ) → T (zeros (replicate n 0))
zeros_made zero = tt
zeros_made (suc n) = zeros_made n

pub padded_trails : (t : List ℕ) (n : ℕ) → all_x t ≡ true → T (trails (t ++ replicate n 0))
padded_trails [] zero h = tt
padded_trails [] (suc n) h = zeros_made n
padded_trails (b ∷ bs) n h =
    let q = and_parts (set_x b) (all_x bs) h in
    let P : ℕ → Type 0 = λ x. set_x x ≡ true in
    elim (cases_Bool (eqb b 0)) [ inl e ↦ absurd (let z : false ≡ true = subst P (eqb-true b 0 e) q.0 in false≢true z) | inr e ↦ rw (e, q.0) (padded_trails bs n q.1) ]

pub padded_shaped : (t : List ℕ) (n : ℕ) → 1 ≤ length t → all_x t ≡ true → T (shaped (t ++ replicate n 0))
padded_shaped [] n le h = absurd (omega arith)
padded_shaped (b ∷ bs) n le h =
    let q = and_parts (set_x b) (all_x bs) h in
    rw q.0 (padded_trails bs n q.1)

pub unpadded_padded : (t : List ℕ) (n : ℕ) → all_x t ≡ true → unpadded (t ++ replicate n 0) ≡ t
unpadded_padded [] zero h = refl
unpadded_padded [] (suc n) h = refl
unpadded_padded (b ∷ bs) n h =
    let q = and_parts (set_x b) (all_x bs) h in
    let P : ℕ → Type 0 = λ x. set_x x ≡ true in
    elim (cases_Bool (eqb b 0)) [ inl e ↦ absurd (let z : false ≡ true = subst P (eqb-true b 0 e) q.0 in false≢true z) | inr e ↦ rw (e, unpadded_padded bs n q.1) refl ]

-- the text ends at the first zero, or with the last byte
pub first_zero : (bs : List ℕ) (n : ℕ) → n < length bs → get_or bs n 0 ≡ 0 → ((k : ℕ) → k < n → get_or bs k 0 ≡ 0 → ⊥) → take n bs ≡ unpadded bs
first_zero [] n lt e h = absurd (omega arith)
first_zero (b ∷ bs) zero lt e h = rw (eq-eqb b 0 e) refl
first_zero (b ∷ bs) (suc n) lt e h = rw (ne_eqb b 0 (h 0 (omega arith))) (ap (λ l. b ∷ l) (first_zero bs n (omega arith) e (λ k l. h (suc k) (omega arith))))

pub no_zero : (bs : List ℕ) → ((k : ℕ) → k < length bs → get_or bs k 0 ≡ 0 → ⊥) → bs ≡ unpadded bs
no_zero [] h = refl
no_zero (b ∷ bs) h = rw (ne_eqb b 0 (h 0 (omega arith))) (ap (λ l. b ∷ l) (no_zero bs (λ k l. h (suc k) (omega arith))))

-- where the first zero stands, or behind all sixteen, the text ends
pub text_ends : (bs : List ℕ) (r : Option ℕ) → length bs ≡ 16 → MatchOption r (AllWithin (λ b. b ≡ 0 → ⊥) bs 0 (length bs)) (λ i. (i < length bs) × HoldsAt (λ b. b ≡ 0) bs i × AllWithin (λ b. b ≡ 0 → ⊥) bs 0 i) → (unwrap_or r 16 ≤ 16) × (take (unwrap_or r 16) bs ≡ unpadded bs)
text_ends bs None n none = (omega arith, take_all 16 bs (omega arith) ∙ no_zero bs (λ k l. none k 0 (omega arith) l))
text_ends bs (Some i) n first = (let lt = first.0 in omega arith, first_zero bs i first.0 (first.1 0) (λ k l. first.2 k 0 (omega arith) l))

pub copied : (t bs : List ℕ) → bs ≡ t → bs ++ drop (length t) (replicate 16 0) ≡ padded t
copied t bs is = rw (is, drop-replicate {X = ℕ} (length t) 16 0) refl

pub text_parts : (t : List ℕ) → is_text t ≡ true → (1 ≤ length t) × (length t ≤ 16) × (all_x t ≡ true)
text_parts t h =
    let p = and_parts (leb 1 (length t)) (leb (length t) 16 && all_x t) h in
    let q = and_parts (leb (length t) 16) (all_x t) p.1 in
    (leb-true 1 (length t) p.0, leb-true (length t) 16 q.0, q.1)
