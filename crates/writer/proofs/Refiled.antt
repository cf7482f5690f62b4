-- Writing the table that reading found gives the text. Assumes nothing.
use Rattle.std.proofs.Common.{◌≡◌, ℕ, ◌-◌, ◌<◌, ◌≤◌, Bool, true, false, cond, leb, List, [], ◌∷◌, ◌++◌, map, length, take, drop, replicate, Some, Ok, Err, Option, Result, unwrap_or, sym, refl, ap, ◌∙◌, subst, ap₂, arith}
use lib.ListN.{length-replicate}
use Rattle.std.proofs.lemmas.List.{take_at}
use Rattle.std.proofs.lemmas.Bool.{leb-false, le-leb, cond-true}
use Rattle.std.specs.List.{slice_get}
use Rattle.fields.specs.declared.walk.Field.{Field as TextField}
use Rattle.fields.specs.Faults.{text_verdict}
use Rattle.fields.specs.Fields.{fields, after, value_in, spelled}
use Rattle.fields.specs.Laws.{AllRight, Gapless, Told}
use Rattle.fields.proofs.Verdicts.{checked}
use Rattle.sheet.specs.Rows.{Row}
use Rattle.sheet.specs.Keys.{key_of}
use Rattle.sheet.specs.Lawful.{Lawful}
use Rattle.sheet.proofs.Keyed.{only_row}
use Rattle.reader.specs.declared.faults.ReadingFault.{ReadingFault}
use Rattle.reader.specs.declared.table.Entry.{Entry}
use Rattle.reader.specs.Reading.{Codes, read_verdict, table_after}
use Rattle.reader.specs.Tables.{entry_of, table_of}
use Rattle.reader.specs.Laws.{Fits, AllFit, TextSentence, ReadJudged, Reads}
use Rattle.reader.proofs.Tables.{table_only}
use Rattle.reader.proofs.Verdicts.{read_complete, read_judged}
use Rattle.writer.specs.declared.faults.WritingFault.{WritingFault}
use Rattle.writer.specs.declared.faults.WritingFault.TheVariants.{Output}
use Rattle.writer.specs.declared.filing.FilingFault.{FilingFault}
use Rattle.writer.specs.declared.filing.FilingFault.TheVariants.{Reading, Writing}
use Rattle.writer.specs.Spelling.{spelled_by, spelled_text}
use Rattle.writer.specs.Writing.{room_verdict, write_verdict, output_after}
use Rattle.writer.specs.Laws.{AllGood, Writes}
use Rattle.writer.specs.Filing.{file_verdict, Inverse, Refiles}
use Rattle.writer.proofs.Judged.{never, single_right}
use Rattle.writer.proofs.Rowed.{of_row}
use Rattle.writer.proofs.Finished.{room_left}

gapless_le : (fs : List TextField) (at end : ℕ) → Gapless at end fs → at ≤ end
gapless_le [] at end g = omega arith
gapless_le (f ∷ fs) at end g = let i = gapless_le fs (after f) end g.2 in let v = g.1 in omega arith

module _ (rows : List Row) (law : Lawful rows) (codes : Codes) (text : List ℕ) where
  -- the row of a field's entry is the field's row
  row_there : (f : TextField) (t : Fits rows codes text f) → slice_get rows (entry_of rows text f).row ≡ Some t.row
  row_there f t =
      ap (λ (o : Option ℕ). slice_get rows (unwrap_or o (length rows))) (only_row rows law (key_of text f) t.number (t.row, t.there, t.keyed)) ∙ t.there

  tables_good : (fs : List TextField) (at : ℕ) → AllRight text fs → AllFit rows codes text fs → Gapless at (length text) fs
      → AllGood rows text (map (entry_of rows text) fs)
  tables_good [] at r t g = tt
  tables_good (f ∷ fs) at r t g =
      let i = gapless_le fs (after f) (length text) g.2 in (
        record {
          row = t.0.row;
          there = row_there f t.0;
          within = omega arith;
          key = (of_row t.0.row f.tag f.qualifier (value_in text f) t.0.keyed r.0.keyed).key;
          single = single_right (value_in text f) r.0.single;
        },
        tables_good fs (after f) r.1 t.1 g.2,
      )

  tables_same : (fs : List TextField) → AllRight text fs → AllFit rows codes text fs → spelled_text rows text (map (entry_of rows text) fs) ≡ spelled text fs
  tables_same [] r t = refl
  tables_same (f ∷ fs) r t =
      let o = of_row t.0.row f.tag f.qualifier (value_in text f) t.0.keyed r.0.keyed in
      ap₂ (λ (x y : List ℕ). x ++ y)
      (ap (λ (x : Option Row). spelled_by x (value_in text f)) (row_there f t.0) ∙ ap (λ (h : List ℕ). h ++ (value_in text f ++ (13 ∷ 10 ∷ []))) o.head)
      (tables_same fs r.1 t.1)

  pub inverse : TextSentence rows codes text → Inverse rows codes text
  inverse s =
      let same : s.parts ≡ fields text = (checked text (text_verdict text) refl).told_once s.parts s.told in
      let t : Told text (fields text) = subst (λ (fs : List TextField). Told text fs) same s.told in
      let v : AllFit rows codes text (fields text) = subst (λ (fs : List TextField). AllFit rows codes text fs) same s.values in
      let g = tables_good (fields text) 0 t.right v t.in_order in
      let w : spelled_text rows text (table_of rows text) ≡ text = tables_same (fields text) t.right v ∙ t.spelled_out in
      record {
        good = g;
        same = w;
        written = λ room.
            room_left rows law text codes (table_of rows text) room g (subst (λ (x : List ℕ). TextSentence rows codes x) (sym w) s)
            ∙ ap (λ (x : List ℕ). room_verdict room (length x)) w;
      }

  module _ (table : List Entry) (out : List ℕ) where
    abbrev outcome : Result ℕ ReadingFault → Result ℕ FilingFault
    outcome v = file_verdict (length out) (length text) v

    told_filed : (n : ℕ) (v : Result ℕ ReadingFault) → ReadJudged rows codes text (length table) v → Ok n ≡ outcome v
        → TextSentence rows codes text × (n ≡ length text)
    told_filed n (Err e) j p = never (cc)
    told_filed n (Ok k) j p = (j.0, by (leb (length text) (length out)) p)
      where
        by : (b : Bool) → Ok n ≡ cond b (Ok (length text)) (Err (Writing Output)) → n ≡ length text
        by true q = cc
        by false q = never (cc)

    told_room : (f : WritingFault) (v : Result ℕ ReadingFault) → ReadJudged rows codes text (length table) v → Err (Writing f) ≡ outcome v
        → TextSentence rows codes text × (f ≡ Output) × (length out < length text)
    told_room f (Err e) j p = never (cc)
    told_room f (Ok k) j p = let q = by (leb (length text) (length out)) refl p in (j.0, q.0, q.1)
      where
        by : (b : Bool) → leb (length text) (length out) ≡ b → Err (Writing f) ≡ cond b (Ok (length text)) (Err (Writing Output))
            → (f ≡ Output) × (length out < length text)
        by true e q = never (cc)
        by false e q = (cc, leb-false _ _ e)

    refiles : (entries : List Entry) (after : List ℕ) (r : Result ℕ FilingFault) → r ≡ outcome (read_verdict rows codes text (length table))
        → entries ≡ table_after rows text table (read_verdict rows codes text (length table)) → after ≡ output_after text out r
        → Refiles rows codes text table entries out after r
    refiles entries after r v t w =
        record {
          value = v;
          table_after = t;
          output = w;
          inverse = inverse;
          files = λ s h k.
              let e : r ≡ Ok (length text) = v ∙ ap outcome (read_complete rows law codes text (length table) s h) ∙ cond-true _ _ _ (le-leb _ _ k) in
              (e, w ∙ ap (output_after text out) e);
          filed = λ n p.
              let q = told_filed n (read_verdict rows codes text (length table)) (read_judged rows law codes text (length table)) (sym p ∙ v) in
              (q.0, q.1, ap (take n) (w ∙ ap (output_after text out) p) ∙ take_at text (drop (length text) out) n (sym q.1));
          only_room = λ f p.
              told_room f (read_verdict rows codes text (length table)) (read_judged rows law codes text (length table)) (sym p ∙ v);
        }

    -- refused by the reading
    pub unread : (entries : List Entry) (after : List ℕ) (e : ReadingFault) → Reads rows codes text table entries (Err e)
        → after ≡ replicate (length out) 0 → Refiles rows codes text table entries out after (Err (Reading e))
    unread entries after e d w =
        refiles entries after (Err (Reading e)) (ap outcome d.value) (d.entries ∙ ap (table_after rows text table) d.value) w

    -- what is read is the sentence's table, and writing it answers for want of room alone
    found_written : (entries : List Entry) (n : ℕ) (mid : List ℕ) (w : Result ℕ WritingFault) → Reads rows codes text table entries (Ok n)
        → Writes rows codes (take (n - 0) entries) text out mid w
        → (w ≡ room_verdict (length out) (length text)) × (mid ≡ output_after text out w)
    found_written entries n mid w d t =
        let k : n - 0 ≡ n = omega arith in
        let e : take (n - 0) entries ≡ table_of rows text =
        ap (λ (i : ℕ). take i entries) k ∙ table_only rows law text (take n entries) (d.allowed n refl) in
        let i = inverse d.judged.0 in (
          t.value ∙ ap (λ (es : List Entry). write_verdict rows codes es text (length out)) e ∙ i.written (length out),
          t.output ∙ ap (λ (es : List Entry). output_after (spelled_text rows text es) out w) e ∙ ap (λ (x : List ℕ). output_after x out w) i.same,
        )

    pub unwritten : (entries : List Entry) (n : ℕ) (mid after : List ℕ) (f : WritingFault) → Reads rows codes text table entries (Ok n)
        → Writes rows codes (take (n - 0) entries) text out mid (Err f) → after ≡ replicate (length mid) 0
        → Refiles rows codes text table entries out after (Err (Writing f))
    unwritten entries n mid after f d t w =
        let l : length mid ≡ length out = ap length t.output ∙ length-replicate (length out) 0 in
        let p = found_written entries n mid (Err f) d t in
        refiles entries after (Err (Writing f)) (by (leb (length text) (length out)) p.0 ∙ ap outcome d.value)
        (d.entries ∙ ap (table_after rows text table) d.value) (w ∙ ap (λ (k : ℕ). replicate k 0) l)
      where
        by : (b : Bool) → Err f ≡ cond b (Ok (length text)) (Err Output) → Err (Writing f) ≡ cond b (Ok (length text)) (Err (Writing Output))
        by true q = never (cc)
        by false q = let e : f ≡ Output = cc in ap {B = Result ℕ FilingFault} (λ (x : WritingFault). Err (Writing x)) e

    pub rewritten : (entries : List Entry) (n : ℕ) (mid after : List ℕ) (m : ℕ) → Reads rows codes text table entries (Ok n)
        → Writes rows codes (take (n - 0) entries) text out mid (Ok m) → after ≡ mid → Refiles rows codes text table entries out after (Ok m)
    rewritten entries n mid after m d t w =
        let p = found_written entries n mid (Ok m) d t in
        refiles entries after (Ok m) (by (leb (length text) (length out)) p.0 ∙ ap outcome d.value)
        (d.entries ∙ ap (table_after rows text table) d.value) (w ∙ p.1)
      where
        by : (b : Bool) → Ok m ≡ cond b (Ok (length text)) (Err Output) → Ok m ≡ cond b (Ok (length text)) (Err (Writing Output))
        by true q = let e : m ≡ length text = cc in ap {B = Result ℕ FilingFault} Ok e
        by false q = never (cc)
