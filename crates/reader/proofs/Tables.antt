-- The table found is one that the sheet allows, and the only one. Assumes nothing.
use Rattle.std.proofs.Common.{◌≡◌, ℕ, ◌≤◌, List, [], ◌∷◌, map, length, take, Ok, Option, Result, unwrap_or, sym, refl, ap, ◌∙◌, subst, arith}
use Rattle.std.proofs.lemmas.List.{length-map}
use Rattle.fields.specs.declared.walk.Field.{Field as TextField}
use Rattle.fields.specs.Faults.{text_verdict}
use Rattle.fields.specs.Fields.{fields}
use Rattle.fields.specs.Laws.{Told}
use Rattle.fields.proofs.Verdicts.{checked}
use Rattle.sheet.specs.Rows.{Row}
use Rattle.sheet.specs.Keys.{key_of, keys_of}
use Rattle.sheet.specs.Lawful.{Lawful}
use Rattle.sheet.specs.Laws.{KeySentence, Spells}
use Rattle.sheet.specs.Sentences.{IsSentence}
use Rattle.sheet.proofs.Keyed.{only_row}
use Rattle.reader.specs.declared.faults.ReadingFault.{ReadingFault}
use Rattle.reader.specs.declared.table.Entry.{Entry}
use Rattle.reader.specs.Reading.{Codes, read_verdict, table_after}
use Rattle.reader.specs.Tables.{entry_of, table_of, filled}
use Rattle.reader.specs.Laws.{TextSentence, ReadJudged, Allowed, Reads}
use Rattle.reader.proofs.Filling.{fill_front}
use Rattle.reader.proofs.Verdicts.{read_judged, read_complete}

never : {X : Type 0} → ◌≡◌ {A = ℕ} 0 1 → X
never e = absurd (omega arith)

-- entries with the same rows, starts and lengths are the same
same_entry : (a b : Entry) → a.row ≡ b.row → a.start ≡ b.start → a.len ≡ b.len → a ≡ b
same_entry a b p q r =
    ap (λ (x : ℕ). record { row = x; start = a.start; len = a.len }) p
    ∙ ap (λ (x : ℕ). record { row = b.row; start = x; len = a.len }) q ∙ ap (λ (x : ℕ). record { row = b.row; start = b.start; len = x }) r

abbrev heads : List ℕ → ℕ
heads [] = 0
heads (x ∷ xs) = x

abbrev rest : List ℕ → List ℕ
rest [] = []
rest (x ∷ xs) = xs

pub same_entries : (xs ys : List Entry) → map (λ e. e.row) xs ≡ map (λ e. e.row) ys → map (λ e. e.start) xs ≡ map (λ e. e.start) ys
    → map (λ e. e.len) xs ≡ map (λ e. e.len) ys → xs ≡ ys
same_entries [] [] p q r = refl
same_entries [] (b ∷ ys) p q r = never (let f : ◌≡◌ {A = ℕ} 0 1 = cc in f)
same_entries (a ∷ xs) [] p q r = never (let f : ◌≡◌ {A = ℕ} 0 1 = cc in f)
same_entries (a ∷ xs) (b ∷ ys) p q r =
    ap (λ (x : Entry). x ∷ xs) (same_entry a b (ap heads p) (ap heads q) (ap heads r))
    ∙ ap (λ (x : List Entry). b ∷ x) (same_entries xs ys (ap rest p) (ap rest q) (ap rest r))

starts_of : (F : TextField → Entry) → ((f : TextField) → (F f).start ≡ f.value) → (fs : List TextField)
    → map (λ e. e.start) (map F fs) ≡ map (λ f. f.value) fs
starts_of F h [] = refl
starts_of F h (f ∷ fs) = ap (λ (x : ℕ). x ∷ map (λ e. e.start) (map F fs)) (h f) ∙ ap (λ (x : List ℕ). f.value ∷ x) (starts_of F h fs)

lens_of : (F : TextField → Entry) → ((f : TextField) → (F f).len ≡ f.len) → (fs : List TextField)
    → map (λ e. e.len) (map F fs) ≡ map (λ f. f.len) fs
lens_of F h [] = refl
lens_of F h (f ∷ fs) = ap (λ (x : ℕ). x ∷ map (λ e. e.len) (map F fs)) (h f) ∙ ap (λ (x : List ℕ). f.len ∷ x) (lens_of F h fs)

module _ (rows : List Row) (law : Lawful rows) (text : List ℕ) where
  -- the rows that have the keys are those found
  pub rows_are : (fs : List TextField) (w : List ℕ) → Spells rows w (keys_of text fs) → map (λ e. e.row) (map (entry_of rows text) fs) ≡ w
  rows_are [] [] s = refl
  rows_are [] (i ∷ w) s = absurd s
  rows_are (f ∷ fs) [] s = absurd s
  rows_are (f ∷ fs) (i ∷ w) s =
      ap (λ (o : Option ℕ). unwrap_or o (length rows) ∷ map (λ e. e.row) (map (entry_of rows text) fs)) (only_row rows law (key_of text f) i s.0)
      ∙ ap (λ (x : List ℕ). i ∷ x) (rows_are fs w s.1)

  pub table_allowed : Told text (fields text) → KeySentence rows (keys_of text (fields text)) → Allowed rows text (table_of rows text)
  table_allowed t (w, s, k) =
      let e = rows_are (fields text) w s in
      record {
        parts = fields text;
        told = t;
        spells = subst (λ (x : List ℕ). Spells rows x (keys_of text (fields text))) (sym e) s;
        sentence = subst (λ (x : List ℕ). IsSentence rows x) (sym e) k;
        starts = starts_of (entry_of rows text) (λ f. refl) (fields text);
        lens = lens_of (entry_of rows text) (λ f. refl) (fields text);
      }

  pub table_only : (es : List Entry) → Allowed rows text es → es ≡ table_of rows text
  table_only es a =
      let same : a.parts ≡ fields text = (checked text (text_verdict text) refl).told_once a.parts a.told in
      same_entries es (table_of rows text)
      (sym (rows_are (fields text) (map (λ e. e.row) es)
      (subst (λ (fs : List TextField). Spells rows (map (λ e. e.row) es) (keys_of text fs)) same a.spells)))
      (a.starts ∙ ap (λ (fs : List TextField). map (λ f. f.value) fs) same ∙ sym (starts_of (entry_of rows text) (λ f. refl) (fields text)))
      (a.lens ∙ ap (λ (fs : List TextField). map (λ f. f.len) fs) same ∙ sym (lens_of (entry_of rows text) (λ f. refl) (fields text)))

  -- the table found, where the text is read
  front_is : (table after : List Entry) (n : ℕ) → after ≡ filled (table_of rows text) table → n ≡ length (fields text) → n ≤ length table
      → take n after ≡ table_of rows text
  front_is table after n e p h =
      let k : length (table_of rows text) ≡ n = length-map (fields text) (entry_of rows text) ∙ sym p in
      let l : length (table_of rows text) ≤ length table = omega arith in
      rw (e, ← k) (fill_front (table_of rows text) table l)

  module _ (codes : Codes) where
    told_of : TextSentence rows codes text → Told text (fields text)
    told_of s =
        let c = checked text (text_verdict text) refl in subst (λ (fs : List TextField). Told text fs) (c.told_once s.parts s.told) s.told

    ordered_of : TextSentence rows codes text → KeySentence rows (keys_of text (fields text))
    ordered_of s =
        let c = checked text (text_verdict text) refl in
        subst (λ (fs : List TextField). KeySentence rows (keys_of text fs)) (c.told_once s.parts s.told) s.ordered

    found_is : (table after : List Entry) (r : Result ℕ ReadingFault) → r ≡ read_verdict rows codes text (length table)
        → after ≡ table_after rows text table r → (n : ℕ) → r ≡ Ok n → TextSentence rows codes text × (take n after ≡ table_of rows text)
    found_is table after r e t n o =
        let j : ReadJudged rows codes text (length table) (Ok n) =
        subst (λ (x : Result ℕ ReadingFault). ReadJudged rows codes text (length table) x) (sym e ∙ o) (read_judged rows law codes text (length table)) in
        let a : after ≡ filled (table_of rows text) table = t ∙ ap (table_after rows text table) o in
        (j.0, front_is table after n a j.1 j.2)

    pub reads : (table after : List Entry) (r : Result ℕ ReadingFault) → r ≡ read_verdict rows codes text (length table)
        → after ≡ table_after rows text table r → Reads rows codes text table after r
    reads table after r e t =
        record {
          value = e;
          entries = t;
          judged =
              subst (λ (x : Result ℕ ReadingFault). ReadJudged rows codes text (length table) x) (sym e) (read_judged rows law codes text (length table));
          complete = λ s h. e ∙ read_complete rows law codes text (length table) s h;
          allowed = λ n o.
              let f = found_is table after r e t n o in
              subst (λ (es : List Entry). Allowed rows text es) (sym f.1) (table_allowed (told_of f.0) (ordered_of f.0));
          only = λ n o es a. let f = found_is table after r e t n o in table_only es a ∙ sym f.1;
        }
