-- Characters of a class at the front of a text, ISINs and owners. Assumes nothing.
use Rattle.std.proofs.Common.{◌≡◌, ℕ, zero, suc, ◌+◌, ◌≤◌, Bool, true, false, cond, ◌&&◌, ◌||◌, leb, List, [], ◌∷◌, ◌++◌, length, IfSome, Some, None, codes, Decides, Option, sym, refl, ap, ◌∙◌, subst, append-nil, arith}
use Rattle.std.proofs.lemmas.Bool.{and_from, and_parts, le-leb, leb-true, cond-true, cond-false, both_ways}
use Rattle.std.proofs.lemmas.Option.{none-some}
use Rattle.std.specs.Bool.{then_some}
use Rattle.std.specs.List.{AllByRecursion}
use Rattle.std.specs.Option.{option_map}
use Rattle.fields.specs.Characters.{alphanumeric, set_x}
use Rattle.format.specs.Texts.{or_false, after_word, is_end}
use Rattle.format.specs.Runs.{Of, first_of, front, back, after_some, is_of}
use Rattle.format.specs.Folding.{lines}
use Rattle.format.specs.Simple.{is_isin, Isin, lines_on, is_lines, Lines}
use Rattle.format.proofs.NumberLaws.{word_right}
use Rattle.format.proofs.Steps.{Read, first_some}

-- the text does not begin with a character of the class
abbrev pub Stops : (ℕ → Bool) → List ℕ → Type 0
Stops k [] = Unit {0}
Stops k (c ∷ s) = k c ≡ false

abbrev AllIn : (ℕ → Bool) → List ℕ → Type 0
AllIn k l = AllByRecursion (λ c. k c ≡ true) l

front_back : (k : ℕ → Bool) (s : List ℕ) → AllIn k (front k s) × (s ≡ front k s ++ back k s)
front_back k [] = (tt, refl)
front_back k (c ∷ s) = by (k c) refl (front_back k s)
  where
    by : (b : Bool) → k c ≡ b → AllIn k (front k s) × (s ≡ front k s ++ back k s)
        → AllIn k (cond b (c ∷ front k s) []) × (c ∷ s ≡ cond b (c ∷ front k s) [] ++ cond b (back k s) (c ∷ s))
    by true e h = ((e, h.0), ap {B = List ℕ} (λ (t : List ℕ). c ∷ t) h.1)
    by false e h = (tt, refl)

front_append : (k : ℕ → Bool) (l t : List ℕ) → AllIn k l → Stops k t → (front k (l ++ t) ≡ l) × (back k (l ++ t) ≡ t)
front_append k [] [] h e = (refl, refl)
front_append k [] (c ∷ t) h e = (cond-false _ _ _ e, cond-false _ _ _ e)
front_append k (c ∷ l) t h e =
    let r = front_append k l t h.1 e in
    (cond-true _ _ _ h.0 ∙ ap {B = List ℕ} (λ (u : List ℕ). c ∷ u) r.0, cond-true _ _ _ h.0 ∙ r.1)

-- some characters of the class, and then something else
pub some_complete : (k : ℕ → Bool) (lo hi : ℕ) (l t : List ℕ) → Of k lo hi l → Stops k t → after_some k lo hi (l ++ t) ≡ Some t
some_complete k lo hi l t h e =
    let r = front_append k l t h.0 e in
    rw (r.0, r.1) (cond-true _ (Some t) None (and_from _ _ (le-leb lo (length l) h.1) (le-leb (length l) hi h.2)))

pub some_right : (k : ℕ → Bool) (lo hi : ℕ) (s : List ℕ) → IfSome (after_some k lo hi s) (λ t. (l : List ℕ) × Of k lo hi l × (s ≡ l ++ t))
some_right k lo hi s = by (leb lo (length (front k s)) && leb (length (front k s)) hi) refl
  where
    by : (b : Bool) → (leb lo (length (front k s)) && leb (length (front k s)) hi) ≡ b
        → IfSome (cond b (Some (back k s)) None) (λ t. (l : List ℕ) × Of k lo hi l × (s ≡ l ++ t))
    by true e =
        let p = and_parts (leb lo (length (front k s))) (leb (length (front k s)) hi) e in
        let f = front_back k s in
        (front k s, (f.0, leb-true lo (length (front k s)) p.0, leb-true (length (front k s)) hi p.1), f.1)
    by false e = tt

pub of_decides : (k : ℕ → Bool) (lo hi : ℕ) (s : List ℕ) (r : Bool) → r ≡ is_of k lo hi s → Decides r (Of k lo hi s)
of_decides k lo hi s r e = (λ q. to (after_some k lo hi s) (some_right k lo hi s) (sym e ∙ q), λ h. e ∙ from h)
  where
    to : (o : Option (List ℕ)) → IfSome o (λ t. (l : List ℕ) × Of k lo hi l × (s ≡ l ++ t)) → or_false o is_end ≡ true → Of k lo hi s
    to None h q = absurd (both_ways false refl q)
    to (Some []) h q = subst (Of k lo hi) (sym (h.2 ∙ append-nil h.0)) h.1
    to (Some (c ∷ t)) h q = absurd (both_ways false refl q)

    from : Of k lo hi s → is_of k lo hi s ≡ true
    from h = ap (λ o. or_false o is_end) (ap (after_some k lo hi) (sym (append-nil s)) ∙ some_complete k lo hi s [] h tt)

pub isin_decides : (v : List ℕ) (r : Bool) → r ≡ is_isin v → Decides r (Isin v)
isin_decides v r e = (λ q. to (after_word (codes "ISIN ") v) (word_right (codes "ISIN ") v) (sym e ∙ q), λ h. e ∙ ap is_isin h.2 ∙ (of_decides alphanumeric 12 12 h.0 _ refl).1 h.1)
  where
    to : (o : Option (List ℕ)) → IfSome o (λ t. v ≡ codes "ISIN " ++ t) → or_false o (is_of alphanumeric 12 12) ≡ true → Isin v
    to None h q = absurd (both_ways false refl q)
    to (Some t) h q = (t, (of_decides alphanumeric 12 12 t _ refl).0 q, h)

-- one line more
lines_more : (k : ℕ) (l u v : List ℕ) → Of set_x 1 35 l → Lines k u → v ≡ l ++ (13 ∷ 10 ∷ u) → Lines (suc k) v
lines_more k l u v h ([], a, b, c, d) e = absurd (omega arith)
lines_more k l u v h (m ∷ ls, a, b, c, d) e = (l ∷ m ∷ ls, omega arith, omega arith, (h, c), e ∙ ap (λ (x : List ℕ). l ++ (13 ∷ 10 ∷ x)) d)

lines_to : (k : ℕ) (v : List ℕ) → is_lines k v ≡ true → Lines k v
lines_to zero v q = absurd (both_ways false refl q)
lines_to (suc k) v q = by (after_some set_x 1 35 v) (some_right set_x 1 35 v) (lines_to k) q
  where
    after : (l : List ℕ) (t : List ℕ) → Of set_x 1 35 l → v ≡ l ++ t → (o : Option (List ℕ)) → IfSome o (λ u. t ≡ 13 ∷ 10 ∷ u)
        → ((u : List ℕ) → is_lines k u ≡ true → Lines k u) → or_false o (is_lines k) ≡ true → Lines (suc k) v
    after l t h e None f rest q = absurd (both_ways false refl q)
    after l t h e (Some u) f rest q = lines_more k l u v h (rest u q) (e ∙ ap (λ (x : List ℕ). l ++ x) f)

    by : (o : Option (List ℕ)) → IfSome o (λ t. (l : List ℕ) × Of set_x 1 35 l × (v ≡ l ++ t)) → ((u : List ℕ) → is_lines k u ≡ true → Lines k u)
        → or_false o (lines_on (is_lines k)) ≡ true → Lines (suc k) v
    by None h rest q = absurd (both_ways false refl q)
    by (Some []) h rest q = (h.0 ∷ [], omega arith, omega arith, (h.1, tt), h.2 ∙ append-nil h.0)
    by (Some (c ∷ t)) h rest q = after h.0 (c ∷ t) h.1 h.2 (after_word (13 ∷ 10 ∷ []) (c ∷ t)) (word_right (13 ∷ 10 ∷ []) (c ∷ t)) rest q

lines_from : (k : ℕ) (ls : List (List ℕ)) → 1 ≤ length ls → length ls ≤ k → AllByRecursion (Of set_x 1 35) ls → is_lines k (lines ls) ≡ true
lines_from k [] a b h = absurd (omega arith)
lines_from zero (l ∷ ls) a b h = absurd (omega arith)
lines_from (suc k) (l ∷ []) a b h =
    ap (λ o. or_false o (lines_on (is_lines k)))
    (ap (after_some set_x 1 35) (sym (append-nil l)) ∙ some_complete set_x 1 35 l [] h.0 tt)
lines_from (suc k) (l ∷ m ∷ ls) a b h =
    ap (λ o. or_false o (lines_on (is_lines k)))
    (some_complete set_x 1 35 l (13 ∷ 10 ∷ lines (m ∷ ls)) h.0 refl)
    ∙ lines_from k (m ∷ ls) (omega arith) (omega arith) h.1

pub lines_decides : (k : ℕ) (v : List ℕ) (r : Bool) → r ≡ is_lines k v → Decides r (Lines k v)
lines_decides k v r e = (λ q. lines_to k v (sym e ∙ q), λ h. e ∙ ap (is_lines k) h.4 ∙ lines_from k h.0 h.1 h.2 h.3)

-- behind n characters of the class, what stands behind them all
abbrev pub after_more : (ℕ → Bool) → ℕ → ℕ → ℕ → List ℕ → Option (List ℕ)
after_more k lo hi n s = cond (leb lo (n + length (front k s)) && leb (n + length (front k s)) hi) (Some (back k s)) None

run_is : (lo hi m n : ℕ) (s t : List ℕ) → m ≡ n → s ≡ t
    → ◌≡◌ {A = Option (List ℕ)} (cond (leb lo m && leb m hi) (Some s) None) (cond (leb lo n && leb n hi) (Some t) None)
run_is lo hi m n s t e f = cc

pub run_more : (k : ℕ → Bool) (lo hi n c : ℕ) (s t : List ℕ) → Some (c, t) ≡ first_of k s → after_more k lo hi n s ≡ after_more k lo hi (n + 1) t
run_more k lo hi n c s t e =
    let f = first_some k s c t e in
    let a : front k s ≡ c ∷ front k t = ap (front k) f.0 ∙ cond-true _ _ _ f.1 in
    let b : back k s ≡ back k t = ap (back k) f.0 ∙ cond-true _ _ _ f.1 in
    run_is lo hi _ _ _ _ (omega (arith, ap length a)) b

none_first : (k : ℕ → Bool) (s : List ℕ) → None ≡ first_of k s → (front k s ≡ []) × (back k s ≡ s)
none_first k [] e = (refl, refl)
none_first k (c ∷ s) e = by (k c) refl e
  where
    by : (b : Bool) → k c ≡ b → ◌≡◌ {A = Read} None (cond b (Some (c, s)) None) → (front k (c ∷ s) ≡ []) × (back k (c ∷ s) ≡ c ∷ s)
    by true q e = absurd (none-some (c, s) e)
    by false q e = (cond-false _ _ _ q, cond-false _ _ _ q)

pub run_ends : {T : Type 0} (chars : T → List ℕ) (k : ℕ → Bool) (lo hi n : ℕ) (x : T) → None ≡ first_of k (chars x) → n ≤ hi
    → option_map chars (then_some (leb lo n) x) ≡ after_more k lo hi n (chars x)
run_ends chars k lo hi n x e h =
    let f = none_first k (chars x) e in
    by (leb lo n) (leb n hi) (le-leb n hi h) ∙ run_is lo hi _ _ _ _ (omega (arith, ap length f.0)) (sym f.1)
  where
    by : (a b : Bool) → b ≡ true → option_map chars (then_some a x) ≡ cond (a && b) (Some (chars x)) None
    by true b q = sym (cond-true b (Some (chars x)) None q)
    by false b q = refl

-- a line of several, for the loop that reads them
pub lines_next : (k m : ℕ) (s t : List ℕ) (o : Option (List ℕ)) → k ≡ suc m → Some t ≡ after_some set_x 1 35 s → false ≡ is_end t → o ≡ after_word (13 ∷ 10 ∷ []) t
    → is_lines k s ≡ or_false o (is_lines m)
lines_next k m s t o z e f h =
    ap (λ (n : ℕ). is_lines n s) z ∙ ap (λ o. or_false o (lines_on (is_lines m))) (sym e)
    ∙ ap (λ (b : Bool). b || or_false (after_word (13 ∷ 10 ∷ []) t) (is_lines m)) (sym f) ∙ ap (λ o. or_false o (is_lines m)) (sym h)
