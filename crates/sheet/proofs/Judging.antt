-- The verdict on the order of a text's fields is right, and there is one. Assumes nothing.
use Rattle.std.proofs.Common.{◌≡◌, ℕ, ◌<◌, Bool, true, false, cond, ltb, ◌⊎◌, List, [], ◌∷◌, ◌++◌, length, is_some, Some, None, Option, sym, refl, ap, ◌∙◌, subst, inl, inr, arith}
use Rattle.std.proofs.lemmas.Bool.{ltb-true, and_parts, cases_Bool, cond-true, cond-false, both_ways}
use Rattle.fields.specs.declared.walk.Field.{Field as TextField}
use Rattle.fields.specs.Fields.{fields}
use Rattle.sheet.specs.Rows.{Row}
use Rattle.sheet.specs.Sentences.{IsSentence}
use Rattle.sheet.specs.Steps.{follows, may_end, Walks, Reads}
use Rattle.sheet.specs.Keys.{Key, key_of, keys_of, find_row}
use Rattle.sheet.specs.Lawful.{lawful}
use Rattle.sheet.specs.Order.{allowed, next_row, order_from, order_fault}
use Rattle.sheet.specs.Laws.{ReadsSentences, Spells, Possible, KeySentence, KeyBegins, KeyJudged}
use Rattle.sheet.proofs.Places.{no_cons}
use Rattle.sheet.proofs.Reading.{reads}
use Rattle.sheet.proofs.Keyed.{law_pairs, only_row, found_row, met}

nothing : {A : Type 0} → ◌≡◌ {A = ℕ} 0 1 → A
nothing e = absurd (omega arith)

-- the next row is found, and may come next
next_found : (rows : List Row) (last : Option ℕ) (k : Key) (i : ℕ) → next_row rows last k ≡ Some i → (find_row rows k ≡ Some i) × (follows rows last i ≡ true)
next_found rows last k i e = by (find_row rows k) refl e
  where
    by : (o : Option ℕ) → find_row rows k ≡ o → allowed rows last o ≡ Some i → (find_row rows k ≡ Some i) × (follows rows last i ≡ true)
    by None f h = nothing cc
    by (Some j) f h = elim (cases_Bool (follows rows last j)) [
      | inl t ↦
          let s = cond-true (follows rows last j) (Some j) None t in
          let q : j ≡ i = cc in
          (cc, sym (ap (follows rows last) q) ∙ t)
      | inr t ↦ let s = cond-false (follows rows last j) (Some j) None t in nothing cc
    ]

next_made : (rows : List Row) (last : Option ℕ) (k : Key) (i : ℕ) → find_row rows k ≡ Some i → follows rows last i ≡ true → next_row rows last k ≡ Some i
next_made rows last k i f t = ap (allowed rows last) f ∙ cond-true (follows rows last i) (Some i) None t

-- each key has a row that may come next; and the text may end behind the last
abbrev Goes : List Row → Option ℕ → List Key → Type 0
Goes rows last [] = Unit {0}
Goes rows last (k ∷ ks) = (i : ℕ) × (next_row rows last k ≡ Some i) × Goes rows (Some i) ks

abbrev Ends : List Row → Option ℕ → List Key → Type 0
Ends rows last [] = may_end rows last ≡ true
Ends rows last (k ∷ ks) = (i : ℕ) × (next_row rows last k ≡ Some i) × Ends rows (Some i) ks

goes_walks : (rows : List Row) (last : Option ℕ) (ks : List Key) → Goes rows last ks → (w : List ℕ) × Spells rows w ks × Walks rows last w
goes_walks rows last [] g = ([], tt, tt)
goes_walks rows last (k ∷ ks) g =
    let n = next_found rows last k g.0 g.1 in
    let r = goes_walks rows (Some g.0) ks g.2 in
    (g.0 ∷ r.0, (found_row rows k g.0 n.0, r.1), (n.1, r.2))

ends_reads : (rows : List Row) (last : Option ℕ) (ks : List Key) → Ends rows last ks → (w : List ℕ) × Spells rows w ks × Reads rows last w
ends_reads rows last [] g = ([], tt, g)
ends_reads rows last (k ∷ ks) g =
    let n = next_found rows last k g.0 g.1 in
    let r = ends_reads rows (Some g.0) ks g.2 in
    (g.0 ∷ r.0, (found_row rows k g.0 n.0, r.1), (n.1, r.2))

-- each number is a row's
abbrev Within : List Row → List ℕ → Type 0
Within rows [] = Unit {0}
Within rows (x ∷ w) = (x < length rows) × Within rows w

row_of : (rows : List Row) (last : Option ℕ) (x : ℕ) → follows rows last x ≡ true → x < length rows
row_of rows None x h = ltb-true _ _ (and_parts (ltb x (length rows)) _ h).0
row_of rows (Some l) x h = ltb-true _ _ (and_parts (ltb x (length rows)) _ h).0

within : (rows : List Row) (last : Option ℕ) (w : List ℕ) → Reads rows last w → Within rows w
within rows last [] r = tt
within rows last (x ∷ w) r = (row_of rows last x r.0, within rows (Some x) w r.1)

within_back : (rows : List Row) (w v : List ℕ) → Within rows (w ++ v) → Within rows v
within_back rows [] v h = h
within_back rows (x ∷ w) v h = within_back rows w v h.1

spells_join : (rows : List Row) (w v : List ℕ) (ks ls : List Key) → Spells rows w ks → Spells rows v ls → Spells rows (w ++ v) (ks ++ ls)
spells_join rows [] v [] ls s t = t
spells_join rows [] v (k ∷ ks) ls s t = absurd s
spells_join rows (i ∷ w) v [] ls s t = absurd s
spells_join rows (i ∷ w) v (k ∷ ks) ls s t = (s.0, spells_join rows w v ks ls s.1 t)

spells_front : (rows : List Row) (w : List ℕ) (ks ls : List Key) → Spells rows w (ks ++ ls)
    → (u : List ℕ) × (v : List ℕ) × (w ≡ u ++ v) × Spells rows u ks
spells_front rows w [] ls s = ([], w, refl, tt)
spells_front rows [] (k ∷ ks) ls s = absurd s
spells_front rows (i ∷ w) (k ∷ ks) ls s =
    let r = spells_front rows w ks ls s.1 in (i ∷ r.0, r.1, ap {B = List ℕ} (λ l. i ∷ l) r.2, (s.0, r.3))

module _ (rows : List Row) (law : lawful rows ≡ true) where
  walks_goes : (last : Option ℕ) (w : List ℕ) (ks : List Key) → Spells rows w ks → Walks rows last w → Goes rows last ks
  walks_goes last [] [] s h = tt
  walks_goes last [] (k ∷ ks) s h = absurd s
  walks_goes last (i ∷ w) [] s h = absurd s
  walks_goes last (i ∷ w) (k ∷ ks) s h =
      (i, next_made rows last k i (only_row rows law k i s.0) h.0, walks_goes (Some i) w ks s.1 h.1)

  reads_ends : (last : Option ℕ) (w : List ℕ) (ks : List Key) → Spells rows w ks → Reads rows last w → Ends rows last ks
  reads_ends last [] [] s h = h
  reads_ends last [] (k ∷ ks) s h = absurd s
  reads_ends last (i ∷ w) [] s h = absurd s
  reads_ends last (i ∷ w) (k ∷ ks) s h =
      (i, next_made rows last k i (only_row rows law k i s.0) h.0, reads_ends (Some i) w ks s.1 h.1)

  pub read : ReadsSentences rows
  read = reads rows (law_pairs rows law)

  -- keys that fields can have, for these rows
  keys_for : (w : List ℕ) → Within rows w → (ks : List Key) × Possible ks × Spells rows w ks
  keys_for [] h = ([], tt, tt)
  keys_for (i ∷ w) h =
      let k = met rows law i h.0 in
      let r = keys_for w h.1 in
      (k.0 ∷ r.0, (k.1, r.1), (k.2, r.2))

  ends_sentence : (ks : List Key) → Ends rows None ks → KeySentence rows ks
  unfolding read
  ends_sentence ks e = let r = ends_reads rows None ks e in (r.0, r.1, read.sound r.0 r.2)

  sentence_ends : (ks : List Key) → KeySentence rows ks → Ends rows None ks
  unfolding read
  sentence_ends ks s = reads_ends None s.0 ks s.1 (read.complete s.0 s.2)

  goes_begins : (ks : List Key) → Goes rows None ks → KeyBegins rows ks
  unfolding read
  goes_begins ks g =
      let r = goes_walks rows None ks g in
      let b = read.goes_on r.0 r.2 in
      let l = keys_for b.0 (within_back rows r.0 b.0 (within rows None (r.0 ++ b.0) (read.complete (r.0 ++ b.0) b.1))) in
      (l.0, l.1, (r.0 ++ b.0, spells_join rows r.0 b.0 ks l.0 r.1 l.2, b.1))

  begins_goes : (ks : List Key) → KeyBegins rows ks → Goes rows None ks
  unfolding read
  begins_goes ks b =
      let s = b.2 in
      let f = spells_front rows s.0 ks b.0 s.1 in
      walks_goes None f.0 ks f.3 (read.begun f.0 (f.1, subst (IsSentence rows) f.2 s.2))

-- where the fields stop, by steps
module _ (rows : List Row) (text : List ℕ) where
  abbrev Strays : Option ℕ → List TextField → ℕ → Type 0
  Strays last fs place =
      (before : List TextField) × (f : TextField) × (behind : List TextField) × (fs ≡ before ++ (f ∷ behind)) × (place ≡ f.start)
      × Goes rows last (keys_of text before) × (Goes rows last (keys_of text (before ++ (f ∷ []))) → ⊥)

  abbrev Breaks : Option ℕ → List TextField → ℕ → Type 0
  Breaks last fs place = (place ≡ length text) × Goes rows last (keys_of text fs) × (Ends rows last (keys_of text fs) → ⊥)

  abbrev Stops : Option ℕ → List TextField → Option ℕ → Type 0
  Stops last fs None = Ends rows last (keys_of text fs)
  Stops last fs (Some place) = Strays last fs place ⊎ Breaks last fs place

  -- the same row comes next
  same_next : (last : Option ℕ) (k : Key) (i : ℕ) → next_row rows last k ≡ Some i → (P : Option ℕ → Type 0) → ((j : ℕ) × (next_row rows last k ≡ Some j) × P (Some j)) → P (Some i)
  same_next last k i e P r = subst P (sym r.1 ∙ e) r.2

  -- one field on
  later : (last : Option ℕ) (f : TextField) (fs : List TextField) (i : ℕ) (o : Option ℕ) → next_row rows last (key_of text f) ≡ Some i → Stops (Some i) fs o
      → Stops last (f ∷ fs) o
  later last f fs i None e s = (i, e, s)
  later last f fs i (Some p) e (inl s) =
      inl (
        f ∷ s.0,
        s.1,
        s.2,
        ap {B = List TextField} (λ l. f ∷ l) s.3,
        s.4,
        (i, e, s.5),
        λ r. s.6 (same_next last (key_of text f) i e (λ o. Goes rows o (keys_of text (s.0 ++ (s.1 ∷ [])))) r),
      )
  later last f fs i (Some p) e (inr s) =
      inr (s.0, (i, e, s.1), λ r. s.2 (same_next last (key_of text f) i e (λ o. Ends rows o (keys_of text fs)) r))

  stops : (last : Option ℕ) (fs : List TextField) → Stops last fs (order_from rows text last fs)
  stops last [] = by (may_end rows last) refl
    where
      by : (b : Bool) → may_end rows last ≡ b → Stops last [] (cond b None (Some (length text)))
      by true e = e
      by false e = inr (refl, tt, λ h. both_ways (may_end rows last) e h)
  stops last (f ∷ fs) = by (next_row rows last (key_of text f)) refl (λ i. stops (Some i) fs)
    where
      by : (n : Option ℕ) → next_row rows last (key_of text f) ≡ n → ((i : ℕ) → Stops (Some i) fs (order_from rows text (Some i) fs))
          → Stops last (f ∷ fs) (cond (is_some n) (order_from rows text n fs) (Some f.start))
      by None e s = inl ([], f, fs, refl, refl, tt, λ r. let a = r.1 in nothing cc)
      by (Some i) e s = later last f fs i (order_from rows text (Some i) fs) e (s i)

  no_cut : (before : List TextField) (f : TextField) (behind : List TextField) → [] ≡ before ++ (f ∷ behind) → ⊥
  no_cut [] f behind e = no_cons f behind e
  no_cut (b ∷ before) f behind e = no_cons b (before ++ (f ∷ behind)) e

  -- where they stop, the test says so
  stopped : (last : Option ℕ) (fs : List TextField) (o : Option ℕ) → Stops last fs o → o ≡ order_from rows text last fs
  stopped last [] None s = sym (cond-true (may_end rows last) None (Some (length text)) s)
  stopped last [] (Some p) (inl s) = absurd (no_cut s.0 s.1 s.2 s.3)
  stopped last [] (Some p) (inr s) = elim (cases_Bool (may_end rows last)) [
    | inl t ↦ absurd (s.2 t)
    | inr t ↦ ap {B = Option ℕ} Some s.0 ∙ sym (cond-false (may_end rows last) None (Some (length text)) t)
  ]
  stopped last (f ∷ fs) o s = by (next_row rows last (key_of text f)) refl o s (λ i. stopped (Some i) fs)
    where
      by : (n : Option ℕ) → next_row rows last (key_of text f) ≡ n → (o : Option ℕ) → Stops last (f ∷ fs) o
          → ((i : ℕ) (o : Option ℕ) → Stops (Some i) fs o → o ≡ order_from rows text (Some i) fs)
          → o ≡ cond (is_some n) (order_from rows text n fs) (Some f.start)
      by None e None s rec = let a = s.1 in nothing cc
      by None e (Some p) (inl ([], g, behind, cut, place, goes, halts)) rec =
          let q : f ≡ g = cc in
          ap {B = Option ℕ} Some (place ∙ sym (ap (λ (x : TextField). x.start) q))
      by None e (Some p) (inl (b ∷ before, g, behind, cut, place, goes, halts)) rec =
          let q : f ≡ b = cc in
          let a = goes.1 in
          let d = ap (λ (x : TextField). next_row rows last (key_of text x)) q in
          nothing cc
      by None e (Some p) (inr s) rec = let a = s.1.1 in nothing cc
      by (Some i) e None s rec = rec i None (same_next last (key_of text f) i e (λ n. Ends rows n (keys_of text fs)) s)
      by (Some i) e (Some p) (inl ([], g, behind, cut, place, goes, halts)) rec =
          let q : f ≡ g = cc in
          absurd (halts (i, sym (ap (λ (x : TextField). next_row rows last (key_of text x)) q) ∙ e, tt))
      by (Some i) e (Some p) (inl (b ∷ before, g, behind, cut, place, goes, halts)) rec =
          let q : f ≡ b = cc in
          let d : next_row rows last (key_of text b) ≡ Some i = sym (ap (λ (x : TextField). next_row rows last (key_of text x)) q) ∙ e in
          let c : fs ≡ before ++ (g ∷ behind) = cc in
          rec i (Some p)
          (inl (
            before,
            g,
            behind,
            c,
            place,
            same_next last (key_of text b) i d (λ n. Goes rows n (keys_of text before)) goes,
            λ r. halts (i, d, r),
          ))
      by (Some i) e (Some p) (inr s) rec =
          rec i (Some p)
          (inr (
            s.0,
            same_next last (key_of text f) i e (λ n. Goes rows n (keys_of text fs)) s.1,
            λ r. s.2 (i, e, r),
          ))

module _ (rows : List Row) (law : lawful rows ≡ true) (text : List ℕ) where
  told : (o : Option ℕ) → Stops rows text None (fields text) o → KeyJudged rows text o
  told None s = ends_sentence rows law _ s
  told (Some p) (inl s) =
      inl (record {
        before = s.0;
        stray = s.1;
        behind = s.2;
        cut = s.3;
        starts = s.4;
        begins = goes_begins rows law _ s.5;
        stops = λ b. s.6 (begins_goes rows law _ b);
      })
  told (Some p) (inr s) =
      inr (record { at_end = s.0; begins = goes_begins rows law _ s.1; unfinished = λ b. s.2 (sentence_ends rows law _ b) })

  untold : (o : Option ℕ) → KeyJudged rows text o → Stops rows text None (fields text) o
  untold None s = sentence_ends rows law _ s
  untold (Some p) (inl s) =
      inl (
        s.before,
        s.stray,
        s.behind,
        s.cut,
        s.starts,
        begins_goes rows law _ s.begins,
        λ g. s.stops (goes_begins rows law _ g),
      )
  untold (Some p) (inr s) = inr (s.at_end, begins_goes rows law _ s.begins, λ e. s.unfinished (ends_sentence rows law _ e))

  pub judged : (o : Option ℕ) → o ≡ order_fault rows text → KeyJudged rows text o
  judged o e = subst (KeyJudged rows text) (sym e) (told (order_fault rows text) (stops rows text None (fields text)))

  pub only : (o : Option ℕ) → o ≡ order_fault rows text → (s : Option ℕ) → KeyJudged rows text s → s ≡ o
  only o e s j = stopped rows text None (fields text) s (untold s j) ∙ sym e
