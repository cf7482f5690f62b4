-- The verdict on a text is right, is the only right one, and tells its fields. Assumes nothing.
use Rattle.std.proofs.Common.{◌≡◌, ℕ, Bool, true, false, cond, leb, List, length, Some, None, Ok, Err, Option, Result, sym, refl, ap, ◌∙◌, subst, arith}
use Rattle.std.proofs.lemmas.Bool.{leb-true, le-leb, and_parts, and_from, both_ways}
use Rattle.fields.specs.declared.faults.TextFault.{TextFault}
use Rattle.fields.specs.declared.faults.TextFault.TheVariants.{Length, Character, Line}
use Rattle.fields.specs.Faults.{good_length, alphabet_fault, line_fault, fault_at, text_verdict}
use Rattle.fields.specs.Fields.{fields}
use Rattle.fields.specs.Laws.{Sized, BytesJudged, TextJudged, Told, Checked}
use Rattle.fields.proofs.Alphabet.{bytes_told, bytes_judged, bytes_once}
use Rattle.fields.proofs.Judging.{lines_told, judged_is}
use Rattle.fields.proofs.Places.{told}
use Rattle.fields.proofs.Only.{only}

sized : (text : List ℕ) → good_length text ≡ true → Sized text
sized text e =
    let p = and_parts (leb 1 (length text)) (leb (length text) 10000) e in (leb-true 1 (length text) p.0, leb-true (length text) 10000 p.1)

good_length_lem : (text : List ℕ) → Sized text → good_length text ≡ true
good_length_lem text s = and_from _ _ (le-leb 1 (length text) s.0) (le-leb (length text) 10000 s.1)

-- the verdict by what each question answers
abbrev verdict : Bool → Option ℕ → Option ℕ → Result (Unit {0}) TextFault
verdict sizes letters lines = cond sizes (fault_at Character letters (fault_at Line lines (Ok tt))) (Err Length)

judged_by : (text : List ℕ) (b : Bool) (i j : Option ℕ) → good_length text ≡ b → alphabet_fault text ≡ i → line_fault text ≡ j
    → TextJudged text (verdict b i j)
judged_by text false i j p q r = λ s. both_ways _ p (good_length_lem text s)
judged_by text true (Some at) j p q r = (sized text p, bytes_told text (Some at) q)
judged_by text true None (Some at) p q r = (sized text p, bytes_told text None q, lines_told text (Some at) r)
judged_by text true None None p q r = (sized text p, bytes_told text None q, lines_told text None r)

letters_are : (text : List ℕ) (r : Option ℕ) → BytesJudged text r → alphabet_fault text ≡ r
letters_are text r b = bytes_once text (alphabet_fault text) r (bytes_judged text) b

verdict_is : (text : List ℕ) (s : Result (Unit {0}) TextFault) → TextJudged text s → s ≡ text_verdict text
verdict_is text (Ok tt) (s, b, l) = rw (good_length_lem text s, letters_are text None b, judged_is text None l) refl
verdict_is text (Err Length) n = by (good_length text) refl
  where
    by : (b : Bool) → good_length text ≡ b → Err Length ≡ verdict b (alphabet_fault text) (line_fault text)
    by true e = absurd (n (sized text e))
    by false e = refl
verdict_is text (Err (Character at)) (s, b) = rw (good_length_lem text s, letters_are text (Some at) b) refl
verdict_is text (Err (Line start)) (s, b, l) = rw (good_length_lem text s, letters_are text None b, judged_is text (Some start) l) refl

told_by : (text : List ℕ) (b : Bool) (i j : Option ℕ) → line_fault text ≡ j → verdict b i j ≡ Ok tt → Told text (fields text)
told_by text false i j r e = let f : ◌≡◌ {A = ℕ} 0 1 = cc in absurd (omega arith)
told_by text true (Some at) j r e = let f : ◌≡◌ {A = ℕ} 0 1 = cc in absurd (omega arith)
told_by text true None (Some at) r e = let f : ◌≡◌ {A = ℕ} 0 1 = cc in absurd (omega arith)
told_by text true None None r e = told text r

pub checked : (text : List ℕ) (r : Result (Unit {0}) TextFault) → r ≡ text_verdict text → Checked text r
checked text r e =
    record {
      value = e;
      judged =
          subst (λ (s : Result (Unit {0}) TextFault). TextJudged text s) (sym e)
          (judged_by text (good_length text) (alphabet_fault text) (line_fault text) refl refl refl);
      only = λ s t. verdict_is text s t ∙ sym e;
      told = λ o. told_by text (good_length text) (alphabet_fault text) (line_fault text) refl (sym e ∙ o);
      told_once = λ fs t. sym (sym (ap fields t.spelled_out) ∙ only fs text 0 t.in_order t.right);
    }
