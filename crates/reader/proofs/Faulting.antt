-- The first value that has not its row's format, by a search of the fields. Assumes nothing.
use Rattle.std.proofs.Common.{◌≡◌, ℕ, Bool, true, false, cond, not, find, List, [], ◌∷◌, Some, None, Option, sym, refl, ap, ◌∙◌}
use Rattle.std.specs.Option.{option_map}
use Rattle.fields.specs.declared.walk.Field.{Field as TextField}
use Rattle.sheet.specs.Rows.{Row}
use Rattle.reader.specs.Reading.{Codes}
use Rattle.reader.specs.Values.{field_fits, value_from}

module _ (rows : List Row) (codes : Codes) (text : List ℕ) where
  value_by : (fs : List TextField) → value_from rows codes text fs ≡ option_map (λ (f : TextField). f.value) (find (λ f. not (field_fits rows codes text f)) fs)
  value_by [] = refl
  value_by (f ∷ fs) = by (field_fits rows codes text f) (value_by fs)
    where
      by : (b : Bool) → value_from rows codes text fs ≡ option_map (λ (f : TextField). f.value) (find (λ f. not (field_fits rows codes text f)) fs)
          → cond b (value_from rows codes text fs) (Some f.value)
          ≡ option_map (λ (f : TextField). f.value) (cond (not b) (Some f) (find (λ f. not (field_fits rows codes text f)) fs))
      by true e = e
      by false e = refl

  pub value_found : (fs : List TextField) (o : Option TextField) (r : Option ℕ) → option_map (λ (f : TextField). f) o ≡ find (λ f. not (field_fits rows codes text f)) fs
      → r ≡ option_map (λ (f : TextField). f.value) o → r ≡ value_from rows codes text fs
  value_found fs o r e q = q ∙ same o ∙ ap (option_map (λ (f : TextField). f.value)) e ∙ sym (value_by fs)
    where
      same : (o : Option TextField) → option_map (λ (f : TextField). f.value) o ≡ option_map (λ (f : TextField). f.value) (option_map (λ (f : TextField). f) o)
      same None = refl
      same (Some f) = refl
