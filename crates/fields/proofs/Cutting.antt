-- How a text falls into lines. Assumes nothing.
use Rattle.std.proofs.Common.{◌≡◌, ℕ, Bool, true, false, cond, not, eqb, List, [], ◌∷◌, ◌++◌, sym, refl, ap, ◌∙◌, arith}
use Rattle.std.proofs.lemmas.Bool.{eqb-true, and_parts, and_right, and_from, not-true, not_from_false, both_ways}
use Rattle.fields.specs.Lines.{Lines, rest, line, ahead, behind, breaks, lines}
use Rattle.fields.specs.Laws.{unbroken}

pub behind_ahead : (c : ℕ) (x : Lines) → behind (ahead c x) ≡ x
behind_ahead c (rest r) = refl
behind_ahead c (line l ls) = refl

pub lines_break : (t : List ℕ) → lines (13 ∷ 10 ∷ t) ≡ line [] (lines t)
lines_break t = ap (λ (x : Lines). line [] x) (behind_ahead 10 (lines t))

pub lines_on_lem : (c : ℕ) (cs : List ℕ) → breaks c cs ≡ false → lines (c ∷ cs) ≡ ahead c (lines cs)
lines_on_lem c cs e = ap (λ (b : Bool). cond b (line [] (behind (lines cs))) (ahead c (lines cs))) e

-- a CR LF is a CR and an LF
pub broken : (c : ℕ) (cs : List ℕ) → breaks c cs ≡ true → (ds : List ℕ) × (c ∷ cs ≡ 13 ∷ 10 ∷ ds)
broken c [] e = absurd (both_ways _ (and_right (eqb c 13) false refl) e)
broken c (d ∷ ds) e =
    let p : (eqb c 13 ≡ true) × (eqb d 10 ≡ true) = and_parts (eqb c 13) (eqb d 10) e in
    let q : c ≡ 13 = eqb-true c 13 p.0 in
    let r : d ≡ 10 = eqb-true d 10 p.1 in
    (ds, cc)

-- whether a CR LF stands at the start of a line, a byte behind the line does not change, unless it is an LF
pub breaks_in : (c : ℕ) (l m : List ℕ) → breaks c (l ++ (13 ∷ m)) ≡ breaks c l
breaks_in c [] m = refl
breaks_in c (d ∷ l) m = refl

pub joins : (l m : List ℕ) → unbroken l ≡ true → lines (l ++ (13 ∷ 10 ∷ m)) ≡ line l (lines m)
joins [] m u = lines_break m
joins (c ∷ l) m u =
    let p : (not (breaks c l) ≡ true) × (unbroken l ≡ true) = and_parts (not (breaks c l)) (unbroken l) u in
    lines_on_lem c (l ++ (13 ∷ 10 ∷ m)) (breaks_in c l (10 ∷ m) ∙ not-true _ p.0) ∙ ap (ahead c) (joins l m p.1)

pub rest_is : (t r : List ℕ) → lines t ≡ rest r → t ≡ r
rest_is [] r e = cc
rest_is (c ∷ cs) r e = by (λ q p. rest_is cs q p) (breaks c cs) refl
  where
    more : ((q : List ℕ) → lines cs ≡ rest q → cs ≡ q) → (x : Lines) → lines cs ≡ x → ahead c x ≡ rest r → c ∷ cs ≡ r
    more ih (rest q) p z = let s : cs ≡ q = ih q p in cc
    more ih (line l ls) p z = let f : ◌≡◌ {A = ℕ} 0 1 = cc in absurd (omega arith)

    by : ((q : List ℕ) → lines cs ≡ rest q → cs ≡ q) → (b : Bool) → breaks c cs ≡ b → c ∷ cs ≡ r
    by ih true p =
        let d = broken c cs p in
        let q : line [] (lines d.0) ≡ rest r = sym (lines_break d.0) ∙ sym (ap lines d.1) ∙ e in
        let f : ◌≡◌ {A = ℕ} 0 1 = cc in absurd (omega arith)
    by ih false p = more ih (lines cs) refl (sym (lines_on_lem c cs p) ∙ e)

-- a text that begins with a line is that line, CR LF and the text of the other lines
pub record Split (t l : List ℕ) (ls : Lines) : Type 0 where
  pub tail : List ℕ
  pub whole : t ≡ l ++ (13 ∷ 10 ∷ tail)
  pub others : lines tail ≡ ls
  pub one : unbroken l ≡ true

pub split : (t l : List ℕ) (ls : Lines) → lines t ≡ line l ls → Split t l ls
split [] l ls e = let f : ◌≡◌ {A = ℕ} 0 1 = cc in absurd (omega arith)
split (c ∷ cs) l ls e = by (λ k ks p. split cs k ks p) (breaks c cs) refl
  where
    more : ((k : List ℕ) (ks : Lines) → lines cs ≡ line k ks → Split cs k ks) → (x : Lines) → breaks c cs ≡ false → lines cs ≡ x → ahead c x ≡ line l ls → Split (c ∷ cs) l ls
    more ih (rest q) b p z = let f : ◌≡◌ {A = ℕ} 0 1 = cc in absurd (omega arith)
    more ih (line k ks) b p z =
        let s = ih k ks p in
        let y : l ≡ c ∷ k = cc in
        let w = s.whole in
        let v = s.others in
        let n : breaks c k ≡ false = sym (breaks_in c k _) ∙ sym (ap (breaks c) w) ∙ b in
        record {
          tail = s.tail;
          whole = rw y (ap (λ (x : List ℕ). c ∷ x) w);
          others = cc;
          one = rw y (and_from _ _ (not_from_false _ n) s.one);
        }

    by : ((k : List ℕ) (ks : Lines) → lines cs ≡ line k ks → Split cs k ks) → (b : Bool) → breaks c cs ≡ b → Split (c ∷ cs) l ls
    by ih true p =
        let d = broken c cs p in
        let q : line [] (lines d.0) ≡ line l ls = sym (lines_break d.0) ∙ sym (ap lines d.1) ∙ e in
        let y : l ≡ [] = cc in
        record { tail = d.0; whole = rw y d.1; others = cc; one = rw y refl }
    by ih false p = more ih (lines cs) p refl (sym (lines_on_lem c cs p) ∙ e)
