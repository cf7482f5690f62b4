-- The values of a row, entry by entry, and the first of them. Assumes nothing.
use Rattle.std.proofs.Common.{◌≡◌, ℕ, ◌+◌, ◌<◌, ◌≤◌, Bool, true, false, cond, eqb, List, [], ◌∷◌, length, get_or, drop, Some, refl, ◌∙◌}
use Rattle.std.proofs.lemmas.List.{at_drop_more, at_drop_all}
use Rattle.std.proofs.lemmas.Bool.{cond-true, cond-false, eq-eqb, ne_eqb}
use Rattle.std.specs.List.{find}
use Rattle.std.specs.Option.{option_map}
use Rattle.reader.specs.declared.table.Entry.{Entry}
use Rattle.message.specs.Values.{first, value_at, values_of, value_of}

pub first_found : (text : List ℕ) (row : ℕ) (es : List Entry) → option_map (value_at text) (find (λ e. eqb e.row row) es) ≡ value_of text es row
first_found text row [] = refl
first_found text row (e ∷ es) = by (first_found text row es) (eqb e.row row)
  where
    by : option_map (value_at text) (find (λ e. eqb e.row row) es) ≡ value_of text es row
        → (b : Bool) → option_map (value_at text) (cond b (Some e) (find (λ e. eqb e.row row) es))
        ≡ first (cond b (value_at text e ∷ values_of text es row) (values_of text es row))
    by h true = refl
    by h false = h

module _ (text : List ℕ) (es : List Entry) (row i : ℕ) (d : Entry) where
  more : i < length es → values_of text (drop i es) row
      ≡ cond (eqb (get_or es i d).row row) (value_at text (get_or es i d) ∷ values_of text (drop (i + 1) es) row) (values_of text (drop (i + 1) es) row)
  more h = at_drop_more (λ l. values_of text l row) es i d h

  -- an entry of the row
  pub values_here : i < length es → (get_or es i d).row ≡ row
      → values_of text (drop i es) row ≡ value_at text (get_or es i d) ∷ values_of text (drop (i + 1) es) row
  values_here h e = more h ∙ cond-true _ _ _ (eq-eqb _ _ e)

  -- and one of another row
  pub values_on : i < length es → ((get_or es i d).row ≡ row → ⊥) → values_of text (drop i es) row ≡ values_of text (drop (i + 1) es) row
  values_on h e = more h ∙ cond-false _ _ _ (ne_eqb _ _ e)

pub values_end : (text : List ℕ) (es : List Entry) (row i : ℕ) → length es ≤ i → values_of text (drop i es) row ≡ []
values_end text es row i h = at_drop_all (λ l. values_of text l row) es i h
