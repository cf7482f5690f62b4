-- What one row tells a loop over a sheet's rows. Assumes nothing.
use Rattle.std.proofs.Common.{◌≡◌, ℕ, zero, suc, ◌+◌, ◌<◌, ◌≤◌, Bool, true, false, ◌&&◌, ◌||◌, eqb, List, [], ◌∷◌, length, drop, Some, None, Option, sym, refl, ap, ◌∙◌, ap₂, add-one, inl, inr, drop-cons, drop_of_length-le}
use Rattle.std.proofs.lemmas.Bool.{or_left, lt-ltb}
use Rattle.std.proofs.lemmas.Option.{slice_get_within, slice_get_cases, get_or_from_slice_get}
use Rattle.std.specs.List.{slice_get}
use Rattle.sheet.specs.Rows.{Row}
use Rattle.sheet.specs.Rows.Row.{Open, Close, Field}
use Rattle.sheet.specs.Marks.{may_repeat}
use Rattle.sheet.specs.Steps.{closing, ends, repeats, scan, again, follows, may_end}

module _ (rows : List Row) (i : ℕ) where
  pub row_within : (r : Row) → Some r ≡ slice_get rows i → i < length rows
  row_within r e = slice_get_within rows i r (sym e)

  pub rows_within : None ≡ slice_get rows i → length rows ≤ i
  rows_within e = elim (slice_get_cases rows i).1 [ inl r ↦ absurd (cc (e, r.2)) | inr o ↦ o.0 ]

  pub at_row : (r : Row) → Some r ≡ slice_get rows i → drop i rows ≡ r ∷ drop (suc i) rows
  at_row r e = drop-cons rows i r (row_within r e) ∙ ap (λ (x : Row). x ∷ drop (suc i) rows) (get_or_from_slice_get rows i r r (sym e))

  pub past_rows : None ≡ slice_get rows i → drop i rows ≡ []
  past_rows e = drop_of_length-le rows (rows_within e)

-- what the row at a number says of the part that begins there
abbrev repeats_by : Option Row → Bool
repeats_by None = false
repeats_by (Some (Open m n)) = may_repeat m
repeats_by (Some (Close n)) = false
repeats_by (Some (Field f)) = may_repeat f.mark

abbrev ends_by : List Row → ℕ → Option Row → ℕ
ends_by rows i None = i
ends_by rows i (Some (Open m n)) = closing zero (drop (i + 1) rows) (i + 1)
ends_by rows i (Some (Close n)) = i
ends_by rows i (Some (Field f)) = i

pub repeats_read : (rows : List Row) (i : ℕ) → repeats (drop i rows) ≡ repeats_by (slice_get rows i)
repeats_read rows i = by (slice_get rows i) refl
  where
    by : (o : Option Row) → slice_get rows i ≡ o → repeats (drop i rows) ≡ repeats_by o
    by None e = ap repeats (past_rows rows i (sym e))
    by (Some (Open m n)) e = ap repeats (at_row rows i (Open m n) (sym e))
    by (Some (Close n)) e = ap repeats (at_row rows i (Close n) (sym e))
    by (Some (Field f)) e = ap repeats (at_row rows i (Field f) (sym e))

pub ends_read : (rows : List Row) (i : ℕ) → ends (drop i rows) i ≡ ends_by rows i (slice_get rows i)
ends_read rows i = by (slice_get rows i) refl
  where
    by : (o : Option Row) → slice_get rows i ≡ o → ends (drop i rows) i ≡ ends_by rows i o
    by None e = ap (λ (l : List Row). ends l i) (past_rows rows i (sym e))
    by (Some (Open m n)) e = rw add-one (ap (λ (l : List Row). ends l i) (at_row rows i (Open m n) (sym e)))
    by (Some (Close n)) e = ap (λ (l : List Row). ends l i) (at_row rows i (Close n) (sym e))
    by (Some (Field f)) e = ap (λ (l : List Row). ends l i) (at_row rows i (Field f) (sym e))

-- the tests at a row that was read
follows_some : (rows : List Row) (last : Option ℕ) (l x : ℕ) → last ≡ Some l → l < length rows → x < length rows
    → (scan rows (l + 1) x || again rows l x) ≡ follows rows last x
follows_some rows last l x e h i = rw (e, lt-ltb x (length rows) i, lt-ltb l (length rows) h, add-one) refl

pub follows_on : (rows : List Row) (last : Option ℕ) (l x : ℕ) → last ≡ Some l → l < length rows → x < length rows
    → true ≡ scan rows (l + 1) x → true ≡ follows rows last x
follows_on rows last l x e h i s = sym (or_left (scan rows (l + 1) x) (again rows l x) (sym s)) ∙ follows_some rows last l x e h i

pub follows_again : (rows : List Row) (last : Option ℕ) (l x k : ℕ) → last ≡ Some l → l < length rows → x < length rows
    → false ≡ scan rows (l + 1) x → true ≡ repeats (drop x rows) → k ≡ ends (drop x rows) x → eqb k l ≡ follows rows last x
follows_again rows last l x k e h i s r q =
    ap (λ (n : ℕ). eqb n l) q ∙ ap₂ (λ (a b : Bool). a || (b && eqb (ends (drop x rows) x) l)) s r ∙ follows_some rows last l x e h i

pub follows_not : (rows : List Row) (last : Option ℕ) (l x : ℕ) → last ≡ Some l → l < length rows → x < length rows
    → false ≡ scan rows (l + 1) x → false ≡ repeats (drop x rows) → false ≡ follows rows last x
follows_not rows last l x e h i s r =
    ap₂ (λ (a b : Bool). a || (b && eqb (ends (drop x rows) x) l)) s r ∙ follows_some rows last l x e h i

pub end_some : (rows : List Row) (last : Option ℕ) (l n : ℕ) → last ≡ Some l → l < length rows → n ≡ length rows → scan rows (l + 1) n ≡ may_end rows last
end_some rows last l n e h q = rw (e, lt-ltb l (length rows) h, q, add-one) refl
