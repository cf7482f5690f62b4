-- What a search tells of a colon behind a CR LF and of a bad entry. Assumes nothing.
use Rattle.std.proofs.Common.{◌≡◌, ℕ, zero, suc, ◌+◌, ◌≤◌, Bool, true, false, cond, not, ◌&&◌, eqb, List, [], ◌∷◌, length, Some, SomeIndex, sym, refl, ◌∙◌, add-one, arith}
use Rattle.std.proofs.lemmas.Bool.{or_left, or_right, or_from, and_right}
use Rattle.std.proofs.Math.Bool.{and_assoc}
use Rattle.std.specs.Bool.{OnTrue, OnFalse}
use Rattle.std.specs.List.{position_from}
use Rattle.fields.specs.Characters.{begins}
use Rattle.fields.specs.Lines.{breaks, tail}
use Rattle.fields.specs.Laws.{colon_line}
use Rattle.sheet.specs.Rows.{Row}
use Rattle.reader.specs.declared.table.Entry.{Entry}
use Rattle.writer.specs.Entries.{colon_at, good_entry, entry_from}

-- a colon behind a CR LF, by its place
behind : (c : ℕ) (t : List ℕ) (k : ℕ) → colon_at (c ∷ t) (suc k) ≡ colon_at t k
behind c t k = let a : suc k + 1 ≡ suc (k + 1) = omega arith in let b : suc k + 2 ≡ suc (k + 2) = omega arith in rw (a, b) refl

at_start : (c : ℕ) (cs : List ℕ) → (breaks c cs && begins 58 (tail cs)) ≡ colon_at (c ∷ cs) 0
at_start c [] = and_right _ false refl ∙ sym (and_right (eqb c 13) false refl)
at_start c (d ∷ []) = and_right _ false refl ∙ sym (and_right (eqb c 13) _ (and_right (eqb d 10) false refl))
at_start c (d ∷ e ∷ m) = and_assoc (eqb c 13) (eqb d 10) (eqb e 58)

somewhere : (t : List ℕ) (k : ℕ) → colon_at t k ≡ true → colon_line t ≡ true
somewhere [] k h = h
somewhere (c ∷ cs) zero h = or_left _ _ (at_start c cs ∙ h)
somewhere (c ∷ cs) (suc k) h = or_right (breaks c cs && begins 58 (tail cs)) _ (somewhere cs k (sym (behind c cs k) ∙ h))

nowhere : (t : List ℕ) → ((k : ℕ) → k + 3 ≤ length t → colon_at t k ≡ false) → colon_line t ≡ false
nowhere [] f = refl
nowhere (c ∷ cs) f =
    or_from _ _ (at_start c cs ∙ first cs f)
    (nowhere cs (λ k h. sym (behind c cs k) ∙ f (suc k) (omega arith)))
  where
    first : (cs : List ℕ) → ((k : ℕ) → k + 3 ≤ length (c ∷ cs) → colon_at (c ∷ cs) k ≡ false) → colon_at (c ∷ cs) 0 ≡ false
    first [] f = and_right (eqb c 13) false refl
    first (d ∷ []) f = and_right (eqb c 13) _ (and_right (eqb d 10) false refl)
    first (d ∷ e ∷ m) f = f 0 (omega arith)

pub colon_by : (t : List ℕ) (r : Bool) → OnTrue r (SomeIndex t (λ k. colon_at t k ≡ true))
    → OnFalse r ((k : ℕ) → k + 3 ≤ length t → colon_at t k ≡ false) → r ≡ colon_line t
colon_by t true s n = sym (somewhere t s.0 s.2)
colon_by t false s n = sym (nowhere t n)

module _ (rows : List Row) (bytes : List ℕ) where
  -- the first entry that is not good, by a search
  pub entry_by : (k : ℕ) (es : List Entry) → position_from (λ e. not (good_entry rows bytes e)) k es ≡ entry_from rows bytes k es
  entry_by k [] = refl
  entry_by k (e ∷ es) = rw add-one (by (good_entry rows bytes e) (entry_by (suc k) es))
    where
      by : (b : Bool) → position_from (λ e. not (good_entry rows bytes e)) (suc k) es ≡ entry_from rows bytes (suc k) es
          → cond (not b) (Some k) (position_from (λ e. not (good_entry rows bytes e)) (suc k) es) ≡ cond b (entry_from rows bytes (suc k) es) (Some k)
      by true i = i
      by false i = refl
