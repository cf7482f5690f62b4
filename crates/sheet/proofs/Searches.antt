-- The searches over the rows that are left, each behind its number, as a loop makes them. Assumes nothing.
use Rattle.std.proofs.Common.{◌≡◌, ℕ, zero, suc, ◌+◌, ◌-◌, ◌≤◌, Bool, true, false, cond, ◌&&◌, ◌||◌, eqb, List, [], ◌∷◌, length, drop, Some, None, Option, refl, ap, ◌∙◌, add-one, sub-one, arith, length-drop}
use Rattle.std.proofs.lemmas.Bool.{ne_eqb}
use Rattle.std.specs.List.{enumerate_from}
use Rattle.sheet.specs.Rows.{Row}
use Rattle.sheet.specs.Rows.Row.{Open, Close, Field}
use Rattle.sheet.specs.Marks.{may_miss}
use Rattle.sheet.specs.Coming.{numbered}
use Rattle.sheet.specs.Steps.{closing, reach, passing, scan}

abbrev onward : Option ℕ → (ℕ → Bool) → Bool
onward None f = false
onward (Some d) f = f d

-- `e` is the number of the row behind the last
abbrev pub reaching : ℕ → List (ℕ × Row) → ℕ → ℕ → Bool
reaching d [] e x = eqb e x
reaching d ((i, r) ∷ left) e x = cond (eqb d 0 && eqb i x) true (onward (passing d r) (λ c. reaching c left e x))

abbrev pub closes : ℕ → List (ℕ × Row) → ℕ → ℕ
closes d [] e = e
closes d ((i, Open m n) ∷ left) e = closes (d + 1) left e
closes d ((i, Close n) ∷ left) e = cond (eqb d 0) i (closes (d - 1) left e)
closes d ((i, Field f) ∷ left) e = closes d left e

missing : (b c p : Bool) (d : ℕ) (f : ℕ → Bool) → p ≡ f d → (b || (c && p)) ≡ cond b true (onward (cond c (Some d) None) f)
missing true c p d f e = refl
missing false true p d f e = e
missing false false p d f e = refl

either : (b : Bool) → b ≡ cond b true false
either true = refl
either false = refl

-- inside a block that is passed over nothing is found
deeper : (d k x : ℕ) (b : Bool) → b ≡ cond (eqb (suc d) 0 && eqb k x) true b
deeper d k x b = rw (ne_eqb (suc d) 0 (λ h. omega arith)) refl

reaching_all : (d : ℕ) (rs : List Row) (k x e : ℕ) → e ≡ k + length rs → reach d rs k x ≡ reaching d (enumerate_from k rs) e x
reaching_all d [] k x e q = let z : k ≡ e = omega arith in ap (λ (n : ℕ). eqb n x) z
reaching_all zero (Open m n ∷ rs) k x e q =
    rw add-one (missing (eqb k x) (may_miss m) _ 1 (λ c. reaching c (enumerate_from (suc k) rs) e x) (reaching_all 1 rs (suc k) x e (omega arith)))
reaching_all (suc d) (Open m n ∷ rs) k x e q = rw add-one (reaching_all (suc (suc d)) rs (suc k) x e (omega arith) ∙ deeper d k x _)
reaching_all zero (Close n ∷ rs) k x e q = either (eqb k x)
reaching_all (suc d) (Close n ∷ rs) k x e q = rw add-one (reaching_all d rs (suc k) x e (omega arith) ∙ deeper d k x _)
reaching_all zero (Field f ∷ rs) k x e q =
    rw add-one (missing (eqb k x) (may_miss f.mark) _ 0 (λ c. reaching c (enumerate_from (suc k) rs) e x) (reaching_all 0 rs (suc k) x e (omega arith)))
reaching_all (suc d) (Field f ∷ rs) k x e q = rw add-one (reaching_all (suc d) rs (suc k) x e (omega arith) ∙ deeper d k x _)

closes_all : (d : ℕ) (rs : List Row) (k e : ℕ) → e ≡ k + length rs → closing d rs k ≡ closes d (enumerate_from k rs) e
closes_all d [] k e q = omega arith
closes_all d (Open m n ∷ rs) k e q = rw (add-one, add-one) (closes_all (suc d) rs (suc k) e (omega arith))
closes_all zero (Close n ∷ rs) k e q = refl
closes_all (suc d) (Close n ∷ rs) k e q =
    rw (add-one, ne_eqb (suc d) 0 (λ h. omega arith), sub-one) (closes_all d rs (suc k) e (omega arith))
closes_all d (Field f ∷ rs) k e q = rw add-one (closes_all d rs (suc k) e (omega arith))

module _ (rows : List Row) (from : ℕ) (left : List (ℕ × Row)) (h : from ≤ length rows) (e : left ≡ numbered from rows) where
  pub reaching_from : (x : ℕ) → scan rows from x ≡ reaching 0 left (length rows) x
  reaching_from x = rw e (reaching_all 0 (drop from rows) from x (length rows) (omega (arith, length-drop from rows)))

  pub closes_from : closing 0 (drop from rows) from ≡ closes 0 left (length rows)
  closes_from = rw e (closes_all 0 (drop from rows) from (length rows) (omega (arith, length-drop from rows)))
