-- The first fault is the first. Assumes nothing.
use Rattle.std.proofs.Common.{◌≡◌, ℕ, ◌+◌, Bool, true, false, cond, List, [], ◌∷◌, ◌++◌, length, Some, None, Option, sym, refl, ap, ◌∙◌, subst, append_assoc, arith, length-append}
use Rattle.std.proofs.lemmas.Bool.{both_ways}
use Rattle.fields.specs.Lines.{Lines, rest, line, lines}
use Rattle.fields.specs.Faults.{empty, good_line, line_from, line_fault}
use Rattle.fields.specs.Laws.{unbroken, Good, joined, still_first, BadFrom, FirstBad, LinesJudged}
use Rattle.fields.proofs.Cutting.{split, rest_is, joins}

-- the verdict on what stands at `at`
abbrev Verdict : Bool → ℕ → List ℕ → Option ℕ → Type 0
Verdict first at t None = (ls : List (List ℕ)) × Good first ls × (t ≡ joined ls)
Verdict first at t (Some i) = (j : ℕ) × (i ≡ at + j) × FirstBad first t j

bad_rest : (first : Bool) (t r : List ℕ) → lines t ≡ rest r → empty r ≡ false → BadFrom first t
bad_rest first t r e n = (
  (λ (z : t ≡ []). let y : r ≡ [] = sym (rest_is t r e) ∙ z in both_ways _ n (rw y refl)),
  (λ (l m : List ℕ) (u : unbroken l ≡ true) (g : good_line first l ≡ true) (w : t ≡ l ++ (13 ∷ 10 ∷ m)).
      let q : rest r ≡ line l (lines m) = sym e ∙ ap lines w ∙ joins l m u in
      let f : ◌≡◌ {A = ℕ} 0 1 = cc in omega arith),
)

not_nil : (l m : List ℕ) → l ++ (13 ∷ m) ≡ [] → ⊥
not_nil [] m e = let f : ◌≡◌ {A = ℕ} 0 1 = cc in omega arith
not_nil (c ∷ l) m e = let f : ◌≡◌ {A = ℕ} 0 1 = cc in omega arith

bad_line : (first : Bool) (t k m : List ℕ) (ls : Lines) → lines t ≡ line k ls → t ≡ k ++ (13 ∷ 10 ∷ m) → good_line first k ≡ false → BadFrom first t
bad_line first t k m ls e w n = (
  (λ (z : t ≡ []). not_nil k (10 ∷ m) (sym w ∙ z)),
  (λ (l o : List ℕ) (u : unbroken l ≡ true) (g : good_line first l ≡ true) (v : t ≡ l ++ (13 ∷ 10 ∷ o)).
      let q : line k ls ≡ line l (lines o) = sym e ∙ ap lines v ∙ joins l o u in
      let y : k ≡ l = cc in both_ways _ n (rw y g)),
)

here : (first : Bool) (at : ℕ) (t : List ℕ) → BadFrom first t → Verdict first at t (Some at)
here first at t b = (0, omega arith, record { before = []; left = t; good = tt; whole = refl; place = refl; bad = b })

-- one good line more in front
further : (first : Bool) (at : ℕ) (l m t : List ℕ) (r : Option ℕ) → unbroken l ≡ true → good_line first l ≡ true → t ≡ l ++ (13 ∷ 10 ∷ m)
    → Verdict false (at + (length l + 2)) m r → Verdict first at t r
further first at l m t None u g w v = (l ∷ v.0, (u, g, v.1), rw (w, v.2) refl)
further first at l m t (Some i) u g w v =
    let b = v.2 in
    let p = b.place in
    let q = v.1 in
    let n : length (joined (l ∷ b.before)) ≡ (length l + 2) + v.0 = rw length-append (omega arith) in (
      length (joined (l ∷ b.before)),
      omega arith,
      record {
        before = l ∷ b.before;
        left = b.left;
        good = (u, g, b.good);
        whole = w ∙ ap (λ (x : List ℕ). l ++ (13 ∷ 10 ∷ x)) b.whole ∙ sym (append_assoc l (13 ∷ 10 ∷ joined b.before) b.left);
        place = refl;
        bad = later b.before b.bad;
      },
    )
  where
    later : (ls : List (List ℕ)) {x : List ℕ} → BadFrom (still_first false ls) x → BadFrom false x
    later [] b = b
    later (k ∷ ks) b = b

verdict : (x : Lines) (first : Bool) (at : ℕ) (t : List ℕ) → lines t ≡ x → Verdict first at t (line_from first at x)
verdict (rest r) first at t e = by (empty r) refl
  where
    nil : (r : List ℕ) → empty r ≡ true → r ≡ []
    nil [] p = refl
    nil (c ∷ r) p = let f : ◌≡◌ {A = ℕ} 0 1 = cc in absurd (omega arith)

    by : (b : Bool) → empty r ≡ b → Verdict first at t (cond b None (Some at))
    by true p = ([], tt, rest_is t r e ∙ nil r p)
    by false p = here first at t (bad_rest first t r e p)
verdict (line l ls) first at t e =
    let s = split t l ls e in
    by s.tail s.whole s.one (verdict ls false (at + (length l + 2)) s.tail s.others) (good_line first l) refl
  where
    by : (m : List ℕ) → t ≡ l ++ (13 ∷ 10 ∷ m) → unbroken l ≡ true → Verdict false (at + (length l + 2)) m (line_from false (at + (length l + 2)) ls)
        → (b : Bool) → good_line first l ≡ b → Verdict first at t (cond b (line_from false (at + (length l + 2)) ls) (Some at))
    by m w u v true p = further first at l m t (line_from false (at + (length l + 2)) ls) u p w v
    by m w u v false p = here first at t (bad_line first t l m ls e w p)

pub lines_judged : (text : List ℕ) → LinesJudged text (line_fault text)
lines_judged text = by (line_fault text) (verdict (lines text) true 0 text refl)
  where
    by : (r : Option ℕ) → Verdict true 0 text r → LinesJudged text r
    by None v = v
    by (Some i) v = let p : v.0 ≡ i = let q = v.1 in omega arith in subst (λ (j : ℕ). FirstBad true text j) p v.2

-- and the verdict is the only one
all_good : (ls : List (List ℕ)) (first : Bool) (at : ℕ) → Good first ls → line_from first at (lines (joined ls)) ≡ None
all_good [] first at g = refl
all_good (l ∷ ls) first at g = rw (joins l (joined ls) g.0, g.1) (all_good ls false (at + (length l + 2)) g.2)

at_bad : (first : Bool) (at : ℕ) (t : List ℕ) → BadFrom first t → line_from first at (lines t) ≡ Some at
at_bad first at t b = by (lines t) refl
  where
    by : (x : Lines) → lines t ≡ x → line_from first at x ≡ Some at
    by (rest []) e = absurd (b.0 (rest_is t [] e))
    by (rest (c ∷ r)) e = refl
    by (line l ls) e = let s = split t l ls e in which s.tail s.whole s.one (good_line first l) refl
      where
        which : (m : List ℕ) → t ≡ l ++ (13 ∷ 10 ∷ m) → unbroken l ≡ true → (g : Bool) → good_line first l ≡ g
            → cond g (line_from false (at + (length l + 2)) ls) (Some at) ≡ Some at
        which m w u true p = absurd (b.1 l m u p w)
        which m w u false p = refl

some_bad : (ls : List (List ℕ)) (first : Bool) (at : ℕ) (t : List ℕ) → Good first ls → BadFrom (still_first first ls) t
    → line_from first at (lines (joined ls ++ t)) ≡ Some (at + length (joined ls))
some_bad [] first at t g b = at_bad first at t b ∙ ap {B = Option ℕ} Some (omega arith)
some_bad (l ∷ ls) first at t g b =
    let n : (at + (length l + 2)) + length (joined ls) ≡ at + length (joined (l ∷ ls)) = rw length-append (omega arith) in
    rw (append_assoc, joins l (joined ls ++ t) g.0, g.1) (some_bad ls false (at + (length l + 2)) t g.2 (later ls b) ∙ ap {B = Option ℕ} Some n)
  where
    later : (ls : List (List ℕ)) {x : List ℕ} → BadFrom false x → BadFrom (still_first false ls) x
    later [] b = b
    later (k ∷ ks) b = b

pub judged_is : (text : List ℕ) (r : Option ℕ) → LinesJudged text r → line_fault text ≡ r
judged_is text None j = rw j.2 (all_good j.0 true 0 j.1)
judged_is text (Some i) j =
    let p = j.place in
    let q : 0 + length (joined j.before) ≡ i = omega arith in
    ap line_fault j.whole ∙ some_bad j.before true 0 j.left j.good j.bad ∙ ap {B = Option ℕ} Some q

pub lines_told : (text : List ℕ) (r : Option ℕ) → line_fault text ≡ r → LinesJudged text r
lines_told text r e = subst (λ (r : Option ℕ). LinesJudged text r) e (lines_judged text)
