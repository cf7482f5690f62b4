-- What is written reads back, and what writing answers is right. Assumes nothing.
use Rattle.std.proofs.Common.{◌≡◌, ℕ, Bool, true, false, cond, leb, List, [], ◌∷◌, ◌++◌, map, length, take, drop, Some, None, Ok, Err, Option, Result, sym, refl, ap, ◌∙◌, subst, ap₂, arith}
use Rattle.std.proofs.lemmas.List.{take_at, length-map}
use Rattle.std.proofs.lemmas.Bool.{leb-true, leb-false, le-leb, lt-leb, cond-true, cond-false}
use Rattle.fields.specs.declared.walk.Field.{Field as TextField}
use Rattle.fields.specs.Faults.{text_verdict}
use Rattle.fields.specs.Fields.{fields, value_in, after}
use Rattle.fields.specs.Laws.{Told}
use Rattle.fields.proofs.Verdicts.{checked}
use Rattle.sheet.specs.Rows.{Row}
use Rattle.sheet.specs.Keys.{key_as, keys_of, row_has}
use Rattle.sheet.specs.Lawful.{Lawful}
use Rattle.sheet.specs.Laws.{Spells as SpellsKeys}
use Rattle.reader.specs.declared.faults.ReadingFault.{ReadingFault}
use Rattle.reader.specs.declared.faults.ReadingFault.TheVariants as RF
use Rattle.reader.specs.declared.table.Entry.{Entry as TableEntry}
use Rattle.reader.specs.Reading.{Codes, sentence_verdict}
use Rattle.reader.specs.Tables.{entry_of, table_of}
use Rattle.reader.specs.Laws.{TextSentence, SentenceJudged}
use Rattle.reader.proofs.Tables.{rows_are}
use Rattle.reader.proofs.Verdicts.{sentence_judged, sentence_passes, read_complete}
use Rattle.writer.specs.declared.faults.WritingFault.{WritingFault}
use Rattle.writer.specs.declared.faults.WritingFault.TheVariants.{Output}
use Rattle.writer.specs.Entries.{part_in, keyed, entry_fault}
use Rattle.writer.specs.Spelling.{spelled_by, spelled_text, tag_in}
use Rattle.writer.specs.Writing.{after_entries, room_verdict, after_spelling, write_verdict, output_after}
use Rattle.writer.specs.Laws.{GoodEntry, AllGood, WriteJudged, ReadsBack, Writes}
use Rattle.writer.proofs.Judged.{key_complete, single_complete, all_good, first_bad, none_bad}
use Rattle.writer.proofs.Items.{Item, RightItems, item_text, items_text, field_at, placed, value_at_lem, next_place, next_text, values_are, items_told}
use Rattle.writer.proofs.Rowed.{qualifier_for, item_in, item_spelled, right_item, row_key}
use Rattle.writer.proofs.Outcomes.{Outcome}

module _ (rows : List Row) (law : Lawful rows) (bytes : List ℕ) where
  -- the fields that good entries spell
  abbrev items : (es : List TableEntry) → AllGood rows bytes es → List Item
  items [] a = []
  items (e ∷ es) a = item_in a.0.row (part_in bytes e) ∷ items es a.1

  has_key : (e : TableEntry) (g : GoodEntry rows bytes e) → keyed g.row (part_in bytes e) ≡ true
  has_key e g = key_complete g.row (part_in bytes e) g.key

  texts_same : (es : List TableEntry) (a : AllGood rows bytes es) → spelled_text rows bytes es ≡ items_text (items es a)
  texts_same [] a = refl
  texts_same (e ∷ es) a =
      ap₂ (λ (x y : List ℕ). x ++ y)
      (ap (λ (o : Option Row). spelled_by o (part_in bytes e)) a.0.there ∙ item_spelled a.0.row (part_in bytes e) (has_key e a.0))
      (texts_same es a.1)

  items_right : (es : List TableEntry) (a : AllGood rows bytes es) → RightItems (items es a)
  items_right [] a = tt
  items_right (e ∷ es) a = (
    right_item rows law e.row a.0.row (part_in bytes e) a.0.there (has_key e a.0) (single_complete (part_in bytes e) a.0.single),
    items_right es a.1,
  )

  values_same : (es : List TableEntry) (a : AllGood rows bytes es) → map (λ i. i.value) (items es a) ≡ map (part_in bytes) es
  values_same [] a = refl
  values_same (e ∷ es) a = ap (λ (vs : List (List ℕ)). part_in bytes e ∷ vs) (values_same es a.1)

  -- their keys are those of the entries' rows
  keys_same : (es : List TableEntry) (a : AllGood rows bytes es) (p text : List ℕ) (at : ℕ) → at ≡ length p → text ≡ p ++ items_text (items es a)
      → SpellsKeys rows (map (λ e. e.row) es) (keys_of text (placed at (items es a)))
  keys_same [] a p text at z w = tt
  keys_same (e ∷ es) a p text at z w =
      let r = a.0.row in
      let part = part_in bytes e in
      let i = item_in r part in
      let v : value_in text (field_at at i) ≡ part = value_at_lem p text (items_text (items es a.1)) i at z w in (
        (
          r,
          a.0.there,
          ap (λ (x : List ℕ). row_has r (key_as (tag_in r) (qualifier_for r part) x)) v ∙ row_key rows law e.row r part a.0.there (has_key e a.0),
        ),
        keys_same es a.1 (p ++ item_text i) text (after (field_at at i)) (next_place p i at z) (next_text p text i (items es a.1) w),
      )

  entry_values : (text : List ℕ) (fs : List TextField) → map (part_in text) (map (entry_of rows text) fs) ≡ map (value_in text) fs
  entry_values text [] = refl
  entry_values text (f ∷ fs) = ap (λ (vs : List (List ℕ)). value_in text f ∷ vs) (entry_values text fs)

  pub reads_back : (codes : Codes) (es : List TableEntry) → AllGood rows bytes es → (text : List ℕ) → text ≡ spelled_text rows bytes es
      → TextSentence rows codes text → ReadsBack rows codes es bytes text
  reads_back codes es a text w s =
      let is = items es a in
      let e : text ≡ items_text is = w ∙ texts_same es a in
      let t : Told text (placed 0 is) = subst (λ (x : List ℕ). Told x (placed 0 is)) (sym e) (items_told is (items_right es a)) in
      let f : placed 0 is ≡ fields text = (checked text (text_verdict text) refl).told_once (placed 0 is) t in
      let k : map (λ e. e.row) (table_of rows text) ≡ map (λ e. e.row) es =
      ap (λ (fs : List TextField). map (λ e. e.row) (map (entry_of rows text) fs)) (sym f)
      ∙ rows_are rows law text (placed 0 is) (map (λ e. e.row) es) (keys_same es a [] text 0 refl e) in
      let n : length (fields text) ≡ length es =
      sym (length-map (fields text) (entry_of rows text)) ∙ sym (length-map (table_of rows text) (λ e. e.row)) ∙ ap length k
      ∙ length-map es (λ e. e.row) in
      record {
        sentence = s;
        read = λ room h. read_complete rows law codes text room s (omega arith) ∙ ap {B = Result ℕ ReadingFault} Ok n;
        same_rows = k;
        same_values =
            entry_values text (fields text) ∙ ap (λ (fs : List TextField). map (value_in text) fs) (sym f) ∙ values_are is [] text 0 refl e
            ∙ values_same es a;
      }

  module _ (codes : Codes) (es : List TableEntry) where
    room_judged : (room : ℕ) → AllGood rows bytes es → TextSentence rows codes (spelled_text rows bytes es)
        → WriteJudged rows codes es bytes room (room_verdict room (length (spelled_text rows bytes es)))
    room_judged room a s = by (leb (length (spelled_text rows bytes es)) room) refl
      where
        by : (b : Bool) → leb (length (spelled_text rows bytes es)) room ≡ b
            → WriteJudged rows codes es bytes room (cond b (Ok (length (spelled_text rows bytes es))) (Err Output))
        by true p = (a, s, refl, leb-true _ _ p)
        by false p = (a, s, leb-false _ _ p)

    judged_by : (room : ℕ) (o : Option ℕ) (v : Result (Unit {0}) ReadingFault) → o ≡ entry_fault rows bytes es
        → SentenceJudged rows codes (spelled_text rows bytes es) v
        → WriteJudged rows codes es bytes room (after_spelling room (length (spelled_text rows bytes es)) (after_entries o v))
    judged_by room (Some k) v p j = first_bad rows bytes es k p
    judged_by room None (Ok u) p j = room_judged room (all_good rows bytes es p) j
    judged_by room None (Err RF.MessageNumber) p j = j
    judged_by room None (Err RF.Length) p j = (all_good rows bytes es p, j)
    judged_by room None (Err (RF.Character at)) p j = (all_good rows bytes es p, j)
    judged_by room None (Err (RF.Line at)) p j = (all_good rows bytes es p, j)
    judged_by room None (Err (RF.Order at)) p j = (all_good rows bytes es p, j)
    judged_by room None (Err (RF.Value at)) p j = (all_good rows bytes es p, j)
    judged_by room None (Err (RF.Table len)) p j = absurd j

    pub write_judged : (room : ℕ) → WriteJudged rows codes es bytes room (write_verdict rows codes es bytes room)
    write_judged room =
        judged_by room (entry_fault rows bytes es) (sentence_verdict rows codes (spelled_text rows bytes es)) refl
        (sentence_judged rows law codes (spelled_text rows bytes es))

    -- good entries that spell a sentence fail for want of room alone
    pub room_left : (room : ℕ) → AllGood rows bytes es → TextSentence rows codes (spelled_text rows bytes es)
        → write_verdict rows codes es bytes room ≡ room_verdict room (length (spelled_text rows bytes es))
    room_left room a s =
        ap₂ (λ (o : Option ℕ) (v : Result (Unit {0}) ReadingFault). after_spelling room (length (spelled_text rows bytes es)) (after_entries o v))
        (none_bad rows bytes 0 es a) (sentence_passes rows law codes (spelled_text rows bytes es) s)

    pub writes : (out after : List ℕ) (r : Result ℕ WritingFault) → Outcome rows codes es bytes out after r → Writes rows codes es bytes out after r
    writes out after r o =
        let j : WriteJudged rows codes es bytes (length out) r =
        subst (λ (x : Result ℕ WritingFault). WriteJudged rows codes es bytes (length out) x) (sym o.value) (write_judged (length out)) in
        record {
          value = o.value;
          output = o.output;
          judged = j;
          complete = λ a s h. o.value ∙ room_left (length out) a s ∙ cond-true _ _ _ (le-leb _ _ h);
          full = λ a s h. o.value ∙ room_left (length out) a s ∙ cond-false _ _ _ (lt-leb _ _ h);
          reads_back = λ n p.
              let k : WriteJudged rows codes es bytes (length out) (Ok n) =
              subst (λ (x : Result ℕ WritingFault). WriteJudged rows codes es bytes (length out) x) p j in
              let t : take n after ≡ spelled_text rows bytes es =
              ap (take n) (o.output ∙ ap (output_after (spelled_text rows bytes es) out) p)
              ∙ take_at (spelled_text rows bytes es) (drop (length (spelled_text rows bytes es)) out) n (sym k.2) in
              reads_back codes es k.0 (take n after) t (subst (λ (x : List ℕ). TextSentence rows codes x) (sym t) k.1);
        }
