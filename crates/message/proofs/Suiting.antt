-- In a text without a bad value, each value of a field's row has its format, under one of its qualifiers. Assumes nothing.
use Rattle.std.proofs.Common.{◌≡◌, ℕ, Bool, true, false, cond, eqb, List, [], ◌∷◌, map, length, Some, None, Option, unwrap_or, sym, refl, ap, ◌∙◌}
use Rattle.std.proofs.lemmas.Bool.{and_parts, eqb-true}
use Rattle.std.specs.List.{slice_get, AllByRecursion}
use Rattle.fields.specs.Fields.{value_in}
use Rattle.fields.specs.declared.headers.Qualifier.{Qualifier}
use Rattle.fields.specs.declared.headers.Tag.{Tag}
use Rattle.fields.specs.declared.walk.Field.{Field as TextField}
use Rattle.sheet.specs.Rows.{FieldRow}
use Rattle.sheet.specs.Rows.{Row}
use Rattle.sheet.specs.Rows.Row.{Field}
use Rattle.sheet.specs.Keys.{key_as, key_of, find_row, row_has}
use Rattle.sheet.specs.Keys.Key.{opens, closes, names}
use Rattle.sheet.specs.Rows.{is_tag, admits}
use Rattle.sheet.proofs.Keyed.{found_row}
use Rattle.reader.specs.Reading.{Codes}
use Rattle.reader.specs.Tables.{entry_of}
use Rattle.reader.specs.Values.{value_fits, row_fits, number_fits, field_fits, value_from}
use Rattle.message.specs.Values.{values_of}
use Rattle.message.proofs.Never.{never, some_none}

-- a field that has the key of a field's row has a qualifier that the row admits
admitted : (f : FieldRow) (t : Tag) (q : Option Qualifier) (v : List ℕ) → row_has (Field f) (key_as t q v) ≡ true
    → admits f.qualifiers q ≡ true
admitted f t q v h = by (is_tag t (49, 54, 82)) (is_tag t (49, 54, 83)) h
  where
    by : (a b : Bool) → row_has (Field f) (cond a (opens v) (cond b (closes v) (names t q))) ≡ true → admits f.qualifiers q ≡ true
    by true b h = never h
    by false true h = never h
    by false false h = (and_parts (is_tag t f.tag) (admits f.qualifiers q) h).1

-- the value has the row's format, under a qualifier that the row admits
abbrev pub Suits : (Option Qualifier → List ℕ → Bool) → FieldRow → List ℕ → Type 0
Suits has f v = (q : Option Qualifier) × (admits f.qualifiers q ≡ true) × (value_fits (has q) q f.format v ≡ true)

module _ (rows : List Row) (codes : Codes) (text : List ℕ) (r : ℕ) (row : FieldRow) (there : slice_get rows r ≡ Some (Field row)) where
  suits_field : (f : TextField) → field_fits rows codes text f ≡ true → find_row rows (key_of text f) ≡ Some r → Suits (codes r) row (value_in text f)
  suits_field f h p =
      let q = f.qualifier in
      let at = found_row rows (key_of text f) r p in
      let s : at.0 ≡ Field row = let e = at.1 in cc in
      let fit : row_fits (codes r q) q (slice_get rows r) (value_in text f) ≡ true =
      sym (ap (λ (o : Option ℕ). number_fits rows codes q o (value_in text f)) p) ∙ h in (
        q,
        admitted row f.tag q (value_in text f) (ap (λ (x : Row). row_has x (key_of text f)) (sym s) ∙ at.2),
        sym (ap (λ (o : Option Row). row_fits (codes r q) q o (value_in text f)) there) ∙ fit,
      )

  pub suits_all : (fs : List TextField) → value_from rows codes text fs ≡ None
      → AllByRecursion (Suits (codes r) row) (values_of text (map (entry_of rows text) fs) r)
  suits_all [] e = tt
  suits_all (f ∷ fs) e = by (field_fits rows codes text f) refl e (suits_all fs)
    where
      -- an entry of the row, and one of another
      on : field_fits rows codes text f ≡ true → (o : Option ℕ) → find_row rows (key_of text f) ≡ o → (b : Bool) → eqb (unwrap_or o (length rows)) r ≡ b
          → AllByRecursion (Suits (codes r) row) (values_of text (map (entry_of rows text) fs) r)
          → AllByRecursion (Suits (codes r) row) (cond b (value_in text f ∷ values_of text (map (entry_of rows text) fs) r) (values_of text (map (entry_of rows text) fs) r))
      on h None p b s all = never (sym (ap (λ (o : Option ℕ). number_fits rows codes f.qualifier o (value_in text f)) p) ∙ h)
      on h (Some i) p true s all = (suits_field f h (p ∙ ap {B = Option ℕ} (λ (n : ℕ). Some n) (eqb-true i r s)), all)
      on h (Some i) p false s all = all

      by : (b : Bool) → field_fits rows codes text f ≡ b → cond b (value_from rows codes text fs) (Some f.value) ≡ None
          → (value_from rows codes text fs ≡ None → AllByRecursion (Suits (codes r) row) (values_of text (map (entry_of rows text) fs) r))
          → AllByRecursion (Suits (codes r) row) (values_of text (map (entry_of rows text) (f ∷ fs)) r)
      by true h e all = on h (find_row rows (key_of text f)) refl (eqb (unwrap_or (find_row rows (key_of text f)) (length rows)) r) refl (all e)
      by false h e all = some_none f.value e
