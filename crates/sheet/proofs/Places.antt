-- Places in a sheet's rows: what stands at a number, and where a part ends. Assumes nothing.
use Rattle.std.proofs.Common.{◌≡◌, ℕ, zero, suc, ◌+◌, ◌<◌, ◌≤◌, true, eqb, ◌⊎◌, List, [], ◌∷◌, length, drop, sym, refl, ap, ◌∙◌, inl, inr, arith}
use Rattle.std.proofs.lemmas.Bool.{eqb-true, and_parts, false≢true, cases_order}
use Rattle.sheet.specs.declared.marks.Mark.{Mark}
use Rattle.sheet.specs.Rows.{FieldRow, Row}
use Rattle.sheet.specs.Rows.Row.{Open, Close, Field}
use Rattle.sheet.specs.Sentences.{Parts, laid, past}
use Rattle.sheet.specs.Sentences.Parts.{end, line, block}
use Rattle.sheet.specs.Marks.{may_repeat}
use Rattle.sheet.specs.Steps.{closing, ends, repeats, reach, again}

pub no_cons : {A : Type 0} (a : A) (l : List A) → [] ≡ a ∷ l → ⊥
no_cons a l e = let n = ap length e in omega arith

pub drop_next : {A : Type 0} (l : List A) (k : ℕ) (a : A) (r : List A) → drop k l ≡ a ∷ r → drop (suc k) l ≡ r
drop_next [] zero a r e = absurd (no_cons a r e)
drop_next (x ∷ l) zero a r e = cc
drop_next [] (suc k) a r e = absurd (no_cons a r e)
drop_next (x ∷ l) (suc k) a r e = drop_next l k a r e

pub drop_within : {A : Type 0} (l : List A) (k : ℕ) (a : A) (r : List A) → drop k l ≡ a ∷ r → k < length l
drop_within [] zero a r e = absurd (no_cons a r e)
drop_within (x ∷ l) zero a r e = omega arith
drop_within [] (suc k) a r e = absurd (no_cons a r e)
drop_within (x ∷ l) (suc k) a r e = let h = drop_within l k a r e in omega arith

-- behind the end nothing stands
pub drop_empty : {A : Type 0} (l : List A) (j k : ℕ) → j ≤ k → drop j l ≡ [] → drop k l ≡ []
drop_empty [] j zero h e = refl
drop_empty [] j (suc k) h e = refl
drop_empty (x ∷ l) zero k h e = absurd (no_cons x l (sym e))
drop_empty (x ∷ l) (suc j) zero h e = absurd (omega arith)
drop_empty (x ∷ l) (suc j) (suc k) h e = drop_empty l j k (omega arith) e

-- two rows of different kinds
abbrev kind : List Row → ℕ
kind [] = 0
kind (Open m nm ∷ rs) = 1
kind (Close cl ∷ rs) = 2
kind (Field fr ∷ rs) = 3

pub closing_past : (p : Parts) (d k : ℕ) (t : List Row) → closing d (laid p t) k ≡ closing d t (past p k)
closing_past end d k t = refl
closing_past (line f rest) d k t = closing_past rest d (suc k) t
closing_past (block m n inner c rest) d k t =
    closing_past inner (suc d) (suc k) (Close c ∷ laid rest t) ∙ closing_past rest d (suc (past inner (suc k))) t

pub reach_past : (p : Parts) (d k x : ℕ) (t : List Row) → reach (suc d) (laid p t) k x ≡ reach (suc d) t (past p k) x
reach_past end d k x t = refl
reach_past (line f rest) d k x t = reach_past rest d (suc k) x t
reach_past (block m n inner c rest) d k x t =
    reach_past inner (suc d) (suc k) x (Close c ∷ laid rest t) ∙ reach_past rest d (suc (past inner (suc k))) x t

pub past_length : (p : Parts) (k : ℕ) (t : List Row) → past p k + length t ≡ k + length (laid p t)
past_length end k t = refl
past_length (line f rest) k t = let h = past_length rest (suc k) t in omega arith
past_length (block m n inner c rest) k t =
    let h = past_length inner (suc k) (Close c ∷ laid rest t) in
    let i = past_length rest (suc (past inner (suc k))) t in
    omega arith

pub closing_up : (d : ℕ) (rs : List Row) (k : ℕ) → k ≤ closing d rs k
closing_up d [] k = omega arith
closing_up d (Open m nm ∷ rs) k = let h = closing_up (suc d) rs (suc k) in omega arith
closing_up zero (Close cl ∷ rs) k = omega arith
closing_up (suc d) (Close cl ∷ rs) k = let h = closing_up d rs (suc k) in omega arith
closing_up d (Field fr ∷ rs) k = let h = closing_up d rs (suc k) in omega arith

up_to : (j k : ℕ) → j < k → (suc j ≡ k) ⊎ (suc j < k)
up_to j k h = elim (cases_order (suc j) k) [ inl s ↦ inl s | inr o ↦ elim o [ inl l ↦ inr l | inr l ↦ absurd (omega arith) ] ]

module _ (rows : List Row) where
  pub drop_past : (p : Parts) (k : ℕ) (t : List Row) → drop k rows ≡ laid p t → drop (past p k) rows ≡ t
  drop_past end k t e = e
  drop_past (line f rest) k t e = drop_past rest (suc k) t (drop_next rows k _ _ e)
  drop_past (block m n inner c rest) k t e =
      drop_past rest _ t (drop_next rows _ _ _ (drop_past inner (suc k) (Close c ∷ laid rest t) (drop_next rows k _ _ e)))

  -- a block is closed by a closing row, if by any
  closing_row : (d : ℕ) (rs : List Row) (k : ℕ) → drop k rows ≡ rs → (kind (drop (closing d rs k) rows) ≡ 0) ⊎ (kind (drop (closing d rs k) rows) ≡ 2)
  closing_row d [] k e = inl (ap kind e)
  closing_row d (Open m nm ∷ rs) k e = closing_row (suc d) rs (suc k) (drop_next rows k _ _ e)
  closing_row zero (Close cl ∷ rs) k e = inr (ap kind e)
  closing_row (suc d) (Close cl ∷ rs) k e = closing_row d rs (suc k) (drop_next rows k _ _ e)
  closing_row d (Field fr ∷ rs) k e = closing_row d rs (suc k) (drop_next rows k _ _ e)

  -- no row closes two blocks that stand in one another
  apart : (rs : List Row) (d c k : ℕ) → drop k rows ≡ rs → d < c → kind (drop (closing d rs k) rows) ≡ 2 → closing d rs k ≡ closing c rs k → ⊥
  apart [] d c k e h f g = let z = ap kind e in omega arith
  apart (Open m nm ∷ rs) d c k e h f g = apart rs (suc d) (suc c) (suc k) (drop_next rows k _ _ e) (omega arith) f g
  apart (Close cl ∷ rs) zero zero k e h f g = omega arith
  apart (Close cl ∷ rs) (suc d) zero k e h f g = omega arith
  apart (Close cl ∷ rs) zero (suc c) k e h f g = let u = closing_up c rs (suc k) in omega arith
  apart (Close cl ∷ rs) (suc d) (suc c) k e h f g = apart rs d c (suc k) (drop_next rows k _ _ e) (omega arith) f g
  apart (Field fr ∷ rs) d c k e h f g = apart rs d c (suc k) (drop_next rows k _ _ e) h f g

  -- a block that begins before row k, which opens one, and ends behind k, has that one in it
  around_here : (rs : List Row) (d j k e : ℕ) (m : Mark) (nm : List ℕ) (t : List Row) → drop j rows ≡ rs → drop k rows ≡ Open m nm ∷ t → closing d rs j ≡ e
      → j ≡ k → (c : ℕ) × (closing (suc c) t (suc k) ≡ e)
  around_here rs d j k e m nm t f g q s =
      let same : rs ≡ Open m nm ∷ t = sym f ∙ ap (λ (i : ℕ). drop i rows) s ∙ g in
      (d, rw (← s) (sym (ap (λ (l : List Row). closing d l j) same) ∙ q))

  around : (rs : List Row) (d j k e : ℕ) (m : Mark) (nm : List ℕ) (t : List Row) → drop j rows ≡ rs → drop k rows ≡ Open m nm ∷ t → k < e → closing d rs j ≡ e
      → (j ≡ k) ⊎ (j < k) → (c : ℕ) × (closing (suc c) t (suc k) ≡ e)
  around [] d j k e m nm t f g u q (inl s) = around_here [] d j k e m nm t f g q s
  around [] d j k e m nm t f g u q (inr l) = absurd (no_cons _ _ (sym (drop_empty rows j k (omega arith) f) ∙ g))
  around (Open m' nm' ∷ rs) d j k e m nm t f g u q (inl s) = around_here (Open m' nm' ∷ rs) d j k e m nm t f g q s
  around (Open m' nm' ∷ rs) d j k e m nm t f g u q (inr l) = around rs (suc d) (suc j) k e m nm t (drop_next rows j _ _ f) g u q (up_to j k l)
  around (Close cl ∷ rs) zero j k e m nm t f g u q (inl s) = around_here (Close cl ∷ rs) zero j k e m nm t f g q s
  around (Close cl ∷ rs) zero j k e m nm t f g u q (inr l) = absurd (omega arith)
  around (Close cl ∷ rs) (suc d) j k e m nm t f g u q (inl s) = around_here (Close cl ∷ rs) (suc d) j k e m nm t f g q s
  around (Close cl ∷ rs) (suc d) j k e m nm t f g u q (inr l) = around rs d (suc j) k e m nm t (drop_next rows j _ _ f) g u q (up_to j k l)
  around (Field fr ∷ rs) d j k e m nm t f g u q (inl s) = around_here (Field fr ∷ rs) d j k e m nm t f g q s
  around (Field fr ∷ rs) d j k e m nm t f g u q (inr l) = around rs d (suc j) k e m nm t (drop_next rows j _ _ f) g u q (up_to j k l)

  -- so of two blocks that one row closes, neither begins before the other
  not_before : (j k e : ℕ) (m m' : Mark) (nm nm' : List ℕ) (s t : List Row) → drop j rows ≡ Open m' nm' ∷ s → drop k rows ≡ Open m nm ∷ t
      → closing zero s (suc j) ≡ e → closing zero t (suc k) ≡ e → kind (drop e rows) ≡ 2 → j < k → ⊥
  not_before j k e m m' nm nm' s t f g p q r l =
      let up : suc k ≤ closing zero t (suc k) = closing_up zero t (suc k) in
      let in-it = around s zero (suc j) k e m nm t (drop_next rows j _ _ f) g (omega arith) p (up_to j k l) in
      apart t zero (suc in-it.0) (suc k) (drop_next rows k _ _ g) (omega arith)
      (ap (λ (i : ℕ). kind (drop i rows)) q ∙ r) (q ∙ sym in-it.1)

  -- row y begins a part that row `last` ends, and that may stand again: a field, or a block
  Returns : ℕ → ℕ → Type 0
  Returns last y =
      ((fr : FieldRow) × (t : List Row) × (drop y rows ≡ Field fr ∷ t) × (y ≡ last) × (may_repeat fr.mark ≡ true))
      ⊎ ((m : Mark) × (nm : List ℕ) × (t : List Row) × (drop y rows ≡ Open m nm ∷ t) × (closing zero t (suc y) ≡ last) × (may_repeat m ≡ true)
      × ((kind (drop last rows) ≡ 0) ⊎ (kind (drop last rows) ≡ 2)))

  returns : (last y : ℕ) → again rows last y ≡ true → Returns last y
  unfolding Returns
  returns last y h = by (drop y rows) refl (and_parts _ _ h)
    where
      by : (rs : List Row) → drop y rows ≡ rs → (repeats rs ≡ true) × (eqb (ends rs y) last ≡ true) → Returns last y
      by [] e q = absurd (false≢true q.0)
      by (Open m nm ∷ rs) e q =
          let s = eqb-true _ _ q.1 in
          let r : (kind (drop last rows) ≡ 0) ⊎ (kind (drop last rows) ≡ 2) = rw s at (closing_row zero rs (suc y) (drop_next rows y _ _ e)) in
          inr (m, nm, rs, e, s, q.0, r)
      by (Close cl ∷ rs) e q = absurd (false≢true q.0)
      by (Field fr ∷ rs) e q = inl (fr, rs, e, eqb-true _ _ q.1, q.0)

  same_kind : (j k : ℕ) → j ≡ k → kind (drop j rows) ≡ kind (drop k rows)
  same_kind j k s = ap (λ (i : ℕ). kind (drop i rows)) s

  same_repeats : (j k : ℕ) → j ≡ k → repeats (drop j rows) ≡ repeats (drop k rows)
  same_repeats j k s = ap (λ (i : ℕ). repeats (drop i rows)) s

  -- a field's row ends the field alone
  pub again_line : (k y : ℕ) (fr : FieldRow) (t : List Row) → drop k rows ≡ Field fr ∷ t → again rows k y ≡ true → (y ≡ k) × (may_repeat fr.mark ≡ true)
  unfolding Returns
  again_line k y fr t f h =
      let a = ap kind f in
      elim (returns k y h) [
        | inl r ↦ (r.3, sym (ap repeats f) ∙ sym (same_repeats y k r.3) ∙ ap repeats r.2 ∙ r.4)
        | inr r ↦ absurd (omega (arith, r.6))
      ]

  -- an opening row ends nothing
  pub again_open : (k y : ℕ) (m : Mark) (nm : List ℕ) (t : List Row) → drop k rows ≡ Open m nm ∷ t → again rows k y ≡ true → ⊥
  unfolding Returns
  again_open k y m nm t f h =
      let a = ap kind f in
      elim (returns k y h) [
        | inl r ↦ omega (arith, same_kind y k r.3, ap kind r.2)
        | inr r ↦ omega (arith, r.6)
      ]

  -- a closing row ends the block that it closes
  pub again_block : (k y e : ℕ) (m : Mark) (nm cl : List ℕ) (t s : List Row) → drop k rows ≡ Open m nm ∷ t → closing zero t (suc k) ≡ e → drop e rows ≡ Close cl ∷ s
      → again rows e y ≡ true → (y ≡ k) × (may_repeat m ≡ true)
  unfolding Returns
  again_block k y e m nm cl t s f q g h =
      let a = ap kind g in
      elim (returns e y h) [
        | inl r ↦ absurd (omega (arith, same_kind y e r.3, ap kind r.2))
        | inr r ↦ elim (cases_order y k) [
          | inl i ↦ (i, sym (ap repeats f) ∙ sym (same_repeats y k i) ∙ ap repeats r.3 ∙ r.5)
          | inr o ↦ elim o [
            | inl l ↦ absurd (not_before y k e m r.0 nm r.1 r.2 t r.3 f r.4 q a l)
            | inr l ↦ absurd (not_before k y e r.0 m r.1 nm t r.2 f r.3 q r.4 a l)
          ]
        ]
      ]
