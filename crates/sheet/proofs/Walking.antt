-- The rows from a number on, one step further. Assumes nothing.
use Rattle.std.proofs.Common.{◌≡◌, ℕ, ◌+◌, ◌<◌, ◌≤◌, Bool, true, List, [], ◌∷◌, length, drop, false, cond, find, option_map, Some, None, Option, ap, ◌∙◌, add-one, sym, refl, arith, length-drop}
use Rattle.std.proofs.lemmas.List.FromFn.{length-enumerate_from}
use Rattle.std.specs.List.{slice_get, enumerate_from, position_from}
use Rattle.sheet.specs.Rows.{Row}
use Rattle.sheet.specs.declared.rows.Row.{Row as KeptRow}
use Rattle.sheet.specs.Coming.{numbered, number_and_row}
use Rattle.sheet.specs.Lawful.{lawful}
use Rattle.sheet.proofs.Scans.{at_row, row_within, past_rows}
use Rattle.sheet.proofs.Keyed.{law_few}

-- a row's number is small
pub row_small : (rows : List Row) → lawful rows ≡ true → (i : ℕ) (r : Row) → Some r ≡ slice_get rows i → i < 64
row_small rows l i r e = let f = law_few rows l in let h = row_within rows i r e in omega arith

-- the rows from a number on, by the row at that number
abbrev numbered_by : List Row → ℕ → Option Row → List (ℕ × Row)
numbered_by rows i None = []
numbered_by rows i (Some r) = (i, r) ∷ numbered (i + 1) rows

pub numbered_read : (rows : List Row) (i : ℕ) → numbered i rows ≡ numbered_by rows i (slice_get rows i)
numbered_read rows i = by (slice_get rows i) refl
  where
    by : (o : Option Row) → slice_get rows i ≡ o → numbered i rows ≡ numbered_by rows i o
    by None e = ap (enumerate_from i) (past_rows rows i (sym e))
    by (Some r) e =
        ap (enumerate_from i) (at_row rows i r (sym e))
        ∙ ap (λ (l : List Row). (i, r) ∷ enumerate_from (i + 1) l) (ap (λ (n : ℕ). drop n rows) (sym (add-one i)))

pub numbered_few : (rows : List Row) → lawful rows ≡ true → (i : ℕ) → length (numbered i rows) ≤ 64
numbered_few rows l i = let f = law_few rows l in omega (arith, length-enumerate_from i (drop i rows), length-drop i rows)

-- numbers in front of the rows do not change which row is the first that passes
pub numbered_position : (t : Row → Bool) (n k : ℕ) (rs : List Row) → position_from (λ (p : ℕ × Row). t p.1) n (enumerate_from k rs) ≡ position_from t n rs
numbered_position t n k [] = refl
numbered_position t n k (r ∷ rs) = ap (λ (o : Option ℕ). cond (t r) (Some n) o) (numbered_position t (n + 1) (k + 1) rs)

-- the number of the first row that is found among the numbered ones is its place
pub numbered_found : (test : Row → Bool) (k : ℕ) (rs : List Row) → option_map (λ (p : ℕ × Row). p.0) (find (λ (p : ℕ × Row). test p.1) (enumerate_from k rs)) ≡ position_from test k rs
numbered_found test k [] = refl
numbered_found test k (r ∷ rs) = by (test r) (numbered_found test (k + 1) rs)
  where
    by : (b : Bool) → option_map (λ (p : ℕ × Row). p.0) (find (λ (p : ℕ × Row). test p.1) (enumerate_from (k + 1) rs)) ≡ position_from test (k + 1) rs
        → option_map (λ (p : ℕ × Row). p.0) (cond b (Some (k, r)) (find (λ (p : ℕ × Row). test p.1) (enumerate_from (k + 1) rs))) ≡ cond b (Some k) (position_from test (k + 1) rs)
    by true e = refl
    by false e = e

-- what is told of the row that is found is its number
pub numbered_told : (o : Option (ℕ × KeptRow)) (r : Option ℕ) (s : Option (ℕ × Row)) → option_map number_and_row o ≡ s → r ≡ option_map (λ (p : ℕ × KeptRow). p.0) o
    → r ≡ option_map (λ (p : ℕ × Row). p.0) s
numbered_told None r s e h = h ∙ ap (option_map (λ (p : ℕ × Row). p.0)) e
numbered_told (Some p) r s e h = h ∙ ap (option_map (λ (p : ℕ × Row). p.0)) e
