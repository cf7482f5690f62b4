-- What reading answers is right, and every sentence is read. Assumes nothing.
use Rattle.std.proofs.Common.{◌≡◌, ℕ, ◌≤◌, Bool, true, false, cond, leb, List, [], ◌∷◌, ◌++◌, length, Some, None, Ok, Err, Option, Result, sym, refl, ap, ◌∙◌, subst}
use Rattle.std.proofs.lemmas.Bool.{both_ways, leb-true, leb-false, le-leb}
use Rattle.fields.specs.declared.faults.TextFault.{TextFault}
use Rattle.fields.specs.declared.faults.TextFault.TheVariants as TF
use Rattle.fields.specs.declared.walk.Field.{Field as TextField}
use Rattle.fields.specs.Faults.{text_verdict}
use Rattle.fields.specs.Fields.{fields}
use Rattle.fields.proofs.Verdicts.{checked}
use Rattle.sheet.specs.Rows.{Row}
use Rattle.sheet.specs.Keys.{keys_of}
use Rattle.sheet.specs.Lawful.{Lawful}
use Rattle.sheet.specs.Laws.{KeySentence}
use Rattle.sheet.specs.Order.{order_fault}
use Rattle.sheet.proofs.Judging.{judged, only}
use Rattle.reader.specs.declared.faults.ReadingFault.{ReadingFault}
use Rattle.reader.specs.declared.faults.ReadingFault.TheVariants.{MessageNumber, Length, Character, Line, Order, Value, Table}
use Rattle.reader.specs.Reading.{Codes, fault_at, after_text, sentence_verdict, room_verdict, read_verdict}
use Rattle.reader.specs.Values.{field_fits, value_from, value_fault}
use Rattle.reader.specs.Laws.{AllFit, Fits, TextSentence, SentenceJudged, SentenceChecked, ReadJudged}
use Rattle.reader.proofs.Fitting.{fits_right, fits_complete}

module _ (rows : List Row) (law : Lawful rows) (codes : Codes) (text : List ℕ) where
  -- the first of these fields that does not fit
  pub record UnfitIn (fs : List TextField) (place : ℕ) : Type 0 where
    pub before : List TextField
    pub first : TextField
    pub behind : List TextField
    pub cut : fs ≡ before ++ (first ∷ behind)
    pub starts : place ≡ first.value
    pub fit : AllFit rows codes text before
    pub unfit : Fits rows codes text first → ⊥

  abbrev Found : List TextField → Option ℕ → Type 0
  Found fs None = AllFit rows codes text fs
  Found fs (Some place) = UnfitIn fs place

  found : (fs : List TextField) → Found fs (value_from rows codes text fs)
  found [] = tt
  found (f ∷ fs) = by (field_fits rows codes text f) refl (value_from rows codes text fs) (found fs)
    where
      by : (b : Bool) → field_fits rows codes text f ≡ b → (o : Option ℕ) → Found fs o → Found (f ∷ fs) (cond b o (Some f.value))
      by true p None a = (fits_right rows codes text f p, a)
      by true p (Some place) u =
          record {
            before = f ∷ u.before;
            first = u.first;
            behind = u.behind;
            cut = ap (λ (x : List TextField). f ∷ x) u.cut;
            starts = u.starts;
            fit = (fits_right rows codes text f p, u.fit);
            unfit = u.unfit;
          }
      by false p o a =
          record {
            before = [];
            first = f;
            behind = fs;
            cut = refl;
            starts = refl;
            fit = tt;
            unfit = λ t. both_ways _ p (fits_complete rows codes text law f t);
          }

  all_found : (fs : List TextField) → AllFit rows codes text fs → value_from rows codes text fs ≡ None
  all_found [] a = refl
  all_found (f ∷ fs) a =
      ap (λ (b : Bool). cond b (value_from rows codes text fs) (Some f.value)) (fits_complete rows codes text law f a.0) ∙ all_found fs a.1

  -- the verdict by what each question answers
  abbrev verdict : Result (Unit {0}) TextFault → Option ℕ → Option ℕ → Result (Unit {0}) ReadingFault
  verdict t o v = after_text t (fault_at Order o (fault_at Value v (Ok tt)))

  judged_by : (t : Result (Unit {0}) TextFault) (o v : Option ℕ) → t ≡ text_verdict text → o ≡ order_fault rows text → Found (fields text) v
      → SentenceJudged rows codes text (verdict t o v)
  judged_by (Err TF.Length) o v p q f = (checked text (Err TF.Length) p).judged
  judged_by (Err (TF.Character at)) o v p q f = (checked text (Err (TF.Character at)) p).judged
  judged_by (Err (TF.Line start)) o v p q f = (checked text (Err (TF.Line start)) p).judged
  judged_by (Ok tt) (Some place) v p q f = ((checked text (Ok tt) p).judged, judged rows law text (Some place) q)
  judged_by (Ok tt) None (Some place) p q f = (
    (checked text (Ok tt) p).judged,
    judged rows law text None q,
    record {
      before = f.before;
      first = f.first;
      behind = f.behind;
      cut = f.cut;
      starts = f.starts;
      fit = f.fit;
      unfit = f.unfit;
    },
  )
  judged_by (Ok tt) None None p q f =
      record {
        good = (checked text (Ok tt) p).judged;
        parts = fields text;
        told = (checked text (Ok tt) p).told refl;
        ordered = judged rows law text None q;
        values = f;
      }

  pub sentence_judged : SentenceJudged rows codes text (sentence_verdict rows codes text)
  sentence_judged = judged_by (text_verdict text) (order_fault rows text) (value_fault rows codes text) refl refl (found (fields text))

  -- every sentence passes
  pub sentence_passes : TextSentence rows codes text → sentence_verdict rows codes text ≡ Ok tt
  sentence_passes s =
      let c = checked text (text_verdict text) refl in
      let t : Ok tt ≡ text_verdict text = c.only (Ok tt) s.good in
      let same : s.parts ≡ fields text = c.told_once s.parts s.told in
      let o : None ≡ order_fault rows text =
      only rows law text (order_fault rows text) refl None (subst (λ (fs : List TextField). KeySentence rows (keys_of text fs)) same s.ordered) in
      let v : value_fault rows codes text ≡ None =
      all_found (fields text) (subst (λ (fs : List TextField). AllFit rows codes text fs) same s.values) in
      by (text_verdict text) (order_fault rows text) (value_fault rows codes text) t o v
    where
      by : (a : Result (Unit {0}) TextFault) (o v : Option ℕ) → Ok tt ≡ a → None ≡ o → v ≡ None → verdict a o v ≡ Ok tt
      by a o v p q r = rw (← p, ← q, r) refl

  pub sentence_checked : (r : Result (Unit {0}) ReadingFault) → r ≡ sentence_verdict rows codes text → SentenceChecked rows codes text r
  sentence_checked r e =
      record {
        value = e;
        judged = subst (λ (x : Result (Unit {0}) ReadingFault). SentenceJudged rows codes text x) (sym e) sentence_judged;
        complete = λ s. e ∙ sentence_passes s;
      }

  room_by : (room : ℕ) (s : Result (Unit {0}) ReadingFault) → SentenceJudged rows codes text s → ReadJudged rows codes text room (room_verdict room text s)
  room_by room (Err MessageNumber) j = j
  room_by room (Err Length) j = j
  room_by room (Err (Character at)) j = j
  room_by room (Err (Line start)) j = j
  room_by room (Err (Order start)) j = j
  room_by room (Err (Value start)) j = j
  room_by room (Err (Table len)) j = absurd j
  room_by room (Ok u) j = by (leb (length (fields text)) room) refl
    where
      by : (b : Bool) → leb (length (fields text)) room ≡ b
          → ReadJudged rows codes text room (cond b (Ok (length (fields text))) (Err (Table (length text))))
      by true p = (j, refl, leb-true (length (fields text)) room p)
      by false p = (j, leb-false (length (fields text)) room p, refl)

  pub read_judged : (room : ℕ) → ReadJudged rows codes text room (read_verdict rows codes text room)
  read_judged room = room_by room (sentence_verdict rows codes text) sentence_judged

  pub read_complete : (room : ℕ) → TextSentence rows codes text → length (fields text) ≤ room
      → read_verdict rows codes text room ≡ Ok (length (fields text))
  read_complete room s h =
      ap (room_verdict room text) (sentence_passes s)
      ∙ ap (λ (b : Bool). cond b (Ok (length (fields text))) (Err (Table (length text)))) (le-leb (length (fields text)) room h)
