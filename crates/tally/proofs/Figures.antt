-- A vote changes the figure of its own cell, and no other.
use Rattle.std.proofs.Common.{◌≡◌, ℕ, zero, suc, ◌+◌, ◌-◌, ◌%◌, ◌^◌, ◌<◌, ◌≤◌, Bool, true, false, cond, ◌&&◌, eqb, leb, ◌≢◌, List, [], length, get_or, set, replicate, sym, refl, ap, ◌∙◌, ⊎_elim, arith, lit<}
use mathlib.Core.Path.{fun_ext}
use Rattle.std.proofs.lemmas.List.{get_or-set_same, get_or-set_other}
use Rattle.std.proofs.lemmas.Bool.{cases_Bool, cases_eq, cond-true, cond-false, and_parts, and_cases, both_ways, leb-true, eqb-true, eqb-false}
use Rattle.tally.specs.declared.vote.Vote.{Vote}
use Rattle.tally.specs.Residue.{residue}
use Rattle.tally.specs.Scale.{plus, minus}
use Rattle.tally.specs.Ballot.{on_table, cast_in, ballot_weight, ballot, number_at, figures, shifted}
use Rattle.tally.specs.Residues.{same}

-- the place of a cell on the table is one of the numbers
abbrev pub InTable : List (List ℕ) → ℕ → ℕ → Type 0
InTable numbers q c = on_table q c ≡ true → (q - 1 < length numbers) × (c - 1 < length (get_or numbers (q - 1) []))

-- what the test of the table tells
bounds : (q c : ℕ) → on_table q c ≡ true → (1 ≤ q) × (q ≤ 32) × (1 ≤ c) × (c ≤ 16)
bounds q c t =
    let a = and_parts (leb 1 q && leb q 32) (leb 1 c && leb c 16) t in
    let b = and_parts (leb 1 q) (leb q 32) a.0 in
    let d = and_parts (leb 1 c) (leb c 16) a.1 in
    (leb-true 1 q b.0, leb-true q 32 b.1, leb-true 1 c d.0, leb-true c 16 d.1)

-- a number put in its place stands there, and the others stand as they did
put_at : (numbers : List (List ℕ)) (r d n : ℕ) → r < length numbers → d < length (get_or numbers r []) → get_or (get_or (set numbers r (set (get_or numbers r []) d n)) r []) d 0 ≡ n
put_at numbers r d n lt in' = ap (λ l. get_or l d 0) (get_or-set_same numbers r (set (get_or numbers r []) d n) [] lt) ∙ get_or-set_same (get_or numbers r []) d n 0 in'

put_other : (numbers : List (List ℕ)) (r d n i j : ℕ) → r < length numbers → (i ≡ r → j ≢ d) → get_or (get_or (set numbers r (set (get_or numbers r []) d n)) i []) j 0 ≡ get_or (get_or numbers i []) j 0
put_other numbers r d n i j lt ne =
    ⊎_elim
    (λ e. ap (λ k. get_or (get_or (set numbers r (set (get_or numbers r []) d n)) k []) j 0) e
    ∙ ap (λ l. get_or l j 0) (get_or-set_same numbers r (set (get_or numbers r []) d n) [] lt)
    ∙ get_or-set_other (get_or numbers r []) d j n 0 (ne e)
    ∙ ap (λ k. get_or (get_or numbers k []) j 0) (sym e))
    (λ e. ap (λ l. get_or l j 0) (get_or-set_other numbers r i (set (get_or numbers r []) d n) [] e))
    (cases_eq i r)

-- a figure on the table, and one off it
at_true : (b : Bool) (x y u : ℕ) → b ≡ true → x % 2 ^ 64 ≡ (y % 2 ^ 64 + u) % 2 ^ 64 → cond b x 0 % 2 ^ 64 ≡ (cond b y 0 % 2 ^ 64 + u) % 2 ^ 64
at_true b x y u t h = rw t h

at_false : (b : Bool) (x y u : ℕ) → b ≡ false → u % 2 ^ 64 ≡ 0 → cond b x 0 % 2 ^ 64 ≡ (cond b y 0 % 2 ^ 64 + u) % 2 ^ 64
at_false b x y u f h = rw f (omega arith)

second : (b d : Bool) → (b && d) ≡ false → b ≡ true → d ≡ false
second b d f t = ⊎_elim (λ g. absurd (both_ways b g t)) (λ g. g) (and_cases b d f)

module _ (v : Vote) where
  -- any other cell lies in another place
  other : (q c : ℕ) → on_table v.question v.cell ≡ true → on_table q c ≡ true → cast_in v q c ≡ false → q - 1 ≡ v.question - 1 → c - 1 ≢ v.cell - 1
  other q c s t f e g =
      let x = bounds q c t in
      let y = bounds v.question v.cell s in
      ⊎_elim
      (λ a. eqb-false v.question q a (omega (arith, x.0, y.0)))
      (λ a. eqb-false v.cell c a (omega (arith, x.2, y.2)))
      (and_cases (eqb v.question q) (eqb v.cell c) f)

  own : (q c : ℕ) → cast_in v q c ≡ true → (v.question ≡ q) × (v.cell ≡ c)
  own q c t = let x = and_parts (eqb v.question q) (eqb v.cell c) t in (eqb-true v.question q x.0, eqb-true v.cell c x.1)

  -- a vote off the table is cast nowhere on it
  never : (q c : ℕ) → on_table v.question v.cell ≡ false → (on_table q c && cast_in v q c) ≡ false
  never q c f =
      ⊎_elim
      (λ t. let x = and_parts (on_table q c) (cast_in v q c) t in
      let o = own q c x.1 in
      absurd (both_ways (on_table q c) (ap (λ k. on_table k c) (sym o.0) ∙ ap (λ k. on_table v.question k) (sym o.1) ∙ f) x.0))
      (λ g. g)
      (cases_Bool (on_table q c && cast_in v q c))

  -- w is what joins each figure, and nothing but in the vote's own cell
  module _ (numbers : List (List ℕ)) (w : ℕ → ℕ → ℕ) (there : (q c : ℕ) → (on_table q c && cast_in v q c) ≡ false → w q c % 2 ^ 64 ≡ 0) where
    elsewhere : (q c : ℕ) (after : List (List ℕ)) → (on_table q c && cast_in v q c) ≡ false → number_at after q c ≡ number_at numbers q c → figures after q c ≡ residue (2 ^ 64) (lit< tt) ((figures numbers q c).0 + w q c)
    elsewhere q c after f e = let z = there q c f in same (2 ^ 64) _ _ (rw e (omega arith))

    -- n joins the vote's own cell
    moved : (n : ℕ) → ((q c : ℕ) → (on_table q c && cast_in v q c) ≡ true → w q c ≡ n % 2 ^ 64) → InTable numbers v.question v.cell → figures (shifted numbers v.question v.cell n) ≡ (λ q c. residue (2 ^ 64) (lit< tt) ((figures numbers q c).0 + w q c))
    moved n here in' = ⊎_elim on_it off_it (cases_Bool (on_table v.question v.cell))
      where
        r : ℕ
        r = v.question - 1

        d : ℕ
        d = v.cell - 1

        new : ℕ
        new = (number_at numbers v.question v.cell + n) % 2 ^ 64

        after : List (List ℕ)
        after = set numbers r (set (get_or numbers r []) d new)

        off_it : on_table v.question v.cell ≡ false → figures (shifted numbers v.question v.cell n) ≡ (λ q c. residue (2 ^ 64) (lit< tt) ((figures numbers q c).0 + w q c))
        off_it f =
            ap figures (cond-false (on_table v.question v.cell) after numbers f)
            ∙ fun_ext (λ q. fun_ext (λ c. elsewhere q c numbers (never q c f) refl))

        on_it : on_table v.question v.cell ≡ true → figures (shifted numbers v.question v.cell n) ≡ (λ q c. residue (2 ^ 64) (lit< tt) ((figures numbers q c).0 + w q c))
        on_it s =
            let lt = in' s in
            ap figures (cond-true (on_table v.question v.cell) after numbers s) ∙ fun_ext (λ q. fun_ext (λ c.
            ⊎_elim
            (λ t. let y = and_parts (on_table q c) (cast_in v q c) t in
            let o = own q c y.1 in
            let is : number_at after q c ≡ new = ap (λ k. number_at after k c) (sym o.0) ∙ ap (number_at after v.question) (sym o.1) ∙ put_at numbers r d new lt.0 lt.1 in
            let was : number_at numbers q c ≡ number_at numbers v.question v.cell = ap (λ k. number_at numbers k c) (sym o.0) ∙ ap (number_at numbers v.question) (sym o.1) in
            same (2 ^ 64) _ _ (at_true (on_table q c) (number_at after q c) (number_at numbers q c) (w q c) y.0 (omega (arith, is, was, here q c t))))
            (λ f. ⊎_elim
            (λ t. elsewhere q c after f (put_other numbers r d new (q - 1) (c - 1) lt.0 (other q c s t (second (on_table q c) (cast_in v q c) f t))))
            (λ g. same (2 ^ 64) _ _ (at_false (on_table q c) (number_at after q c) (number_at numbers q c) (w q c) g (there q c f)))
            (cases_Bool (on_table q c)))
            (cases_Bool (on_table q c && cast_in v q c))))

  -- what the vote weighs in its own cell, and in any other
  weighs : (q c : ℕ) → (on_table q c && cast_in v q c) ≡ true → ballot_weight v q c ≡ v.quantity
  weighs q c t = cond-true (on_table q c && cast_in v q c) v.quantity 0 t

  weightless : (q c : ℕ) → (on_table q c && cast_in v q c) ≡ false → ballot_weight v q c ≡ 0
  weightless q c f = cond-false (on_table q c && cast_in v q c) v.quantity 0 f

  -- adding joins the weight, and taking back its inverse
  pub adding : (numbers : List (List ℕ)) → InTable numbers v.question v.cell → figures (shifted numbers v.question v.cell v.quantity) ≡ plus ballot (figures numbers) v
  adding numbers = moved numbers (λ q c. ballot_weight v q c % 2 ^ 64) (λ q c f. omega (arith, weightless q c f)) v.quantity (λ q c t. omega (arith, weighs q c t))

  pub taking_back : (numbers : List (List ℕ)) → v.quantity < 2 ^ 64 → InTable numbers v.question v.cell → figures (shifted numbers v.question v.cell ((2 ^ 64 - v.quantity) % 2 ^ 64)) ≡ minus ballot (figures numbers) v
  taking_back numbers fits = moved numbers (λ q c. (2 ^ 64 - ballot_weight v q c % 2 ^ 64) % 2 ^ 64) (λ q c f. omega (arith, weightless q c f)) ((2 ^ 64 - v.quantity) % 2 ^ 64) (λ q c t. omega (arith, weighs q c t, fits))

-- zeros read 0 anywhere
zeros : (n i : ℕ) → get_or {A = ℕ} (replicate n 0) i 0 ≡ 0
zeros zero i = refl
zeros (suc n) zero = refl
zeros (suc n) (suc i) = zeros n i

zero_rows : (m n i j : ℕ) → get_or {A = ℕ} (get_or (replicate m (replicate n 0)) i []) j 0 ≡ 0
zero_rows zero n i j = refl
zero_rows (suc m) n zero j = zeros n j
zero_rows (suc m) n (suc i) j = zero_rows m n i j

-- numbers that are all 0 hold the neutral value
pub emptied : (m n : ℕ) → figures (replicate m (replicate n 0)) ≡ ballot.neutral
emptied m n = fun_ext (λ q. fun_ext (λ c. same (2 ^ 64) _ _ (rw zero_rows (none (on_table q c)))))
  where
    none : (b : Bool) → cond {A = ℕ} b 0 0 % 2 ^ 64 ≡ 0
    none true = refl
    none false = refl
