-- The turns of the loops over bytes and lines. Assumes nothing.
use Rattle.std.proofs.Common.{◌≡◌, ℕ, zero, suc, ◌+◌, ◌-◌, ◌<◌, ◌≤◌, Bool, true, false, cond, not, eqb, find, List, [], ◌∷◌, ◌++◌, length, take, drop, is_some, Some, None, Option, sym, refl, ap, ◌∙◌, subst, ap₂, add-zero, length-append, arith, Bor, IfSome}
use lib.Seq.{drop-append-add}
use Rattle.std.specs.Option.{option_map, option_map_or}
use Rattle.std.proofs.lemmas.List.{at_drop_more, drop_all, drop-drop, length-take-le, length-drop}
use Rattle.std.proofs.lemmas.Bool.{eqb-true, ne_eqb, and_parts, and_right}
use Rattle.fields.specs.declared.headers.Header.{Header}
use Rattle.fields.specs.declared.lines.Line.{Line}
use Rattle.fields.specs.declared.walk.Field.{Field}
use Rattle.fields.specs.Lines.{Lines, rest, line, ahead, lines, LineAt, break_at}
use Rattle.fields.specs.Placed.{Place, placed_line, unended, placed, header_in, ends, heads}
use Rattle.fields.specs.Headers.{header}
use Rattle.fields.specs.Fields.{continued, opened, fields_from, left, HeadAt, Next}
use Rattle.fields.specs.Faults.{good_line, bad_line, line_from}
use Rattle.fields.proofs.Cutting.{lines_break, lines_on_lem, split, rest_is}
use Rattle.fields.proofs.Places.{skipped}

-- n bytes and CR LF begin the text, and are its first line
pub record FirstLine (t : List ℕ) (n : ℕ) : Type 0 where
  pub within : n + 2 ≤ length t
  pub cut : lines t ≡ line (take n t) (lines (drop (n + 2) t))

break_behind : (c : ℕ) (t : List ℕ) (k : ℕ) → break_at (c ∷ t) (suc k) ≡ break_at t k
break_behind c t k = let e : suc k + 1 ≡ suc (k + 1) = omega arith in rw e refl

-- the first CR LF ends the first line
pub line_first : (t : List ℕ) (n : ℕ) → n + 2 ≤ length t → break_at t n ≡ true → ((k : ℕ) → k < n → break_at t k ≡ false) → FirstLine t n
line_first t n h e f = record { within = h; cut = cut t n h e f }
  where
    cut : (t : List ℕ) (n : ℕ) → n + 2 ≤ length t → break_at t n ≡ true → ((k : ℕ) → k < n → break_at t k ≡ false)
        → lines t ≡ line (take n t) (lines (drop (n + 2) t))
    cut [] n h e f = absurd (omega arith)
    cut (c ∷ []) n h e f = absurd (omega arith)
    cut (c ∷ d ∷ t) zero h e f =
        let p = and_parts (eqb c 13) (eqb d 10) e in
        let a : c ≡ 13 = eqb-true c 13 p.0 in
        let b : d ≡ 10 = eqb-true d 10 p.1 in
        rw (a, b) (lines_break t)
    cut (c ∷ d ∷ t) (suc n) h e f =
        let s : suc n + 2 ≡ suc (n + 2) = omega arith in
        rw s (lines_on_lem c (d ∷ t) (f 0 (omega arith)) ∙ ap (ahead c) (cut (d ∷ t) n (omega arith) (sym (break_behind c (d ∷ t) n) ∙ e) (λ k l. sym (break_behind c (d ∷ t) k) ∙ f (suc k) (omega arith))))

-- where there is none, no line is ended
pub line_none : (t : List ℕ) → ((k : ℕ) → k + 2 ≤ length t → break_at t k ≡ false) → lines t ≡ rest t
line_none [] f = refl
line_none (c ∷ []) f = lines_on_lem c [] (and_right (eqb c 13) false refl)
line_none (c ∷ d ∷ t) f = lines_on_lem c (d ∷ t) (f 0 (omega arith)) ∙ ap (ahead c) (line_none (d ∷ t) (λ k l. sym (break_behind c (d ∷ t) k) ∙ f (suc k) (omega arith)))

-- a line of the text from its first line from there on
pub line_there : (text : List ℕ) (start n : ℕ) → start ≤ length text → FirstLine (drop start text) n → LineAt text start (take n (drop start text))
line_there text start n h f =
    let w = f.within in
    let d = length-drop start text in
    let k : length (take n (drop start text)) ≡ n = length-take-le n (drop start text) (omega arith) in
    record {
      within = omega arith;
      cut =
          f.cut
          ∙ ap (λ (t : List ℕ). line (take n (drop start text)) (lines t))
          (drop-drop (n + 2) start text ∙ ap (λ (j : ℕ). drop (start + (j + 2)) text) (sym k));
    }

-- the first bad line is the line at fault
fault_from : (x : Lines) (at : ℕ) → line_from (eqb at 0) at x ≡ option_map (λ (p : Place). p.0) (find bad_line (placed at x))
fault_from (rest []) at = refl
fault_from (rest (c ∷ cs)) at = refl
fault_from (line l ls) at =
    let next = ne_eqb (at + (length l + 2)) 0 (λ e. omega arith) in
    by (rw next at (fault_from ls (at + (length l + 2)))) (good_line (eqb at 0) l)
  where
    by : line_from false (at + (length l + 2)) ls ≡ option_map (λ (p : Place). p.0) (find bad_line (placed (at + (length l + 2)) ls))
        → (b : Bool) → cond b (line_from false (at + (length l + 2)) ls) (Some at)
        ≡ option_map (λ (p : Place). p.0) (cond (not b) (Some (at, Some l)) (find bad_line (placed (at + (length l + 2)) ls)))
    by e true = e
    by e false = refl

pub fault_found : (x : Lines) (l : Option Line) (r : Option ℕ) → option_map placed_line l ≡ find bad_line (placed 0 x)
    → r ≡ option_map (λ (l : Line). l.start) l → r ≡ line_from true 0 x
fault_found x None r e m = m ∙ sym (fault_from x 0 ∙ ap (option_map (λ (p : Place). p.0)) (sym e))
fault_found x (Some l) r e m = m ∙ sym (fault_from x 0 ∙ ap (option_map (λ (p : Place). p.0)) (sym e))

ended_length : (t l m : List ℕ) → t ≡ l ++ (13 ∷ 10 ∷ m) → length t ≡ length l + (2 + length m)
ended_length t l m w = rw (w, length-append) (omega arith)

-- the lines that continue a field end where the first other line starts, or where the text does
continued_from : (x : Lines) (t : List ℕ) (at : ℕ) → lines t ≡ x
    → at + continued x ≡ option_map_or (λ (p : Place). p.0) (find ends (placed at x)) (at + length t)
continued_from (rest r) t at e = by r (rest_is t r e)
  where
    by : (r : List ℕ) → t ≡ r → at + 0 ≡ option_map_or (λ (p : Place). p.0) (find ends (unended at r)) (at + length t)
    by [] s = rw s refl
    by (c ∷ cs) s = add-zero at
continued_from (line l ls) t at e =
    let s = split t l ls e in
    let n : length t ≡ length l + (2 + length s.tail) = ended_length t l s.tail s.whole in
    by s.tail n (is_some (header l)) (continued_from ls s.tail (at + (length l + 2)) s.others)
  where
    by : (m : List ℕ) → length t ≡ length l + (2 + length m) → (b : Bool)
        → (at + (length l + 2)) + continued ls ≡ option_map_or (λ (p : Place). p.0) (find ends (placed (at + (length l + 2)) ls)) ((at + (length l + 2)) + length m)
        → at + cond b 0 (length l + (2 + continued ls))
        ≡ option_map_or (λ (p : Place). p.0) (cond b (Some (at, Some l)) (find ends (placed (at + (length l + 2)) ls))) (at + length t)
    by m n true i = add-zero at
    by m n false i =
        let a : at + (length l + (2 + continued ls)) ≡ (at + (length l + 2)) + continued ls = omega arith in
        let b : at + length t ≡ (at + (length l + 2)) + length m = omega arith in
        rw (a, b) i

continued_within : (x : Lines) (t : List ℕ) → lines t ≡ x → continued x ≤ length t
continued_within (rest r) t e = omega arith
continued_within (line l ls) t e =
    let s = split t l ls e in
    let n : length t ≡ length l + (2 + length s.tail) = ended_length t l s.tail s.whole in
    by s.tail n (is_some (header l)) (continued_within ls s.tail s.others)
  where
    by : (m : List ℕ) → length t ≡ length l + (2 + length m) → (b : Bool) → continued ls ≤ length m
        → cond b 0 (length l + (2 + continued ls)) ≤ length t
    by m n true i = omega arith
    by m n false i = omega arith

pub continued_found : (text : List ℕ) (from : ℕ) (l : Option Line) (r : ℕ) → from ≤ length text
    → option_map placed_line l ≡ find ends (placed from (lines (drop from text)))
    → r ≡ option_map_or (λ (l : Line). l.start) l (length text)
    → (r ≡ from + continued (lines (drop from text))) × (r ≤ length text)
continued_found text from l r h e m =
    let d : from + length (drop from text) ≡ length text = rw length-drop (omega arith) in
    let k = continued_from (lines (drop from text)) (drop from text) from refl in
    let w = continued_within (lines (drop from text)) (drop from text) refl in
    let z : r ≡ from + continued (lines (drop from text)) = m ∙ by l ∙ sym (k ∙ rw (← e, d) refl) in
    (z, omega arith)
  where
    by : (l : Option Line) → option_map_or (λ (l : Line). l.start) l (length text) ≡ option_map_or (λ (p : Place). p.0) (option_map placed_line l) (length text)
    by None = refl
    by (Some l) = refl

left_on : (text : List ℕ) (s : ℕ) (l : List ℕ) → LineAt text s l → None ≡ header l → left text s ≡ left text (s + (length l + 2))
left_on text s l a e =
    ap (fields_from s) a.cut
    ∙ sym (ap (λ (o : Option Header). opened o s (length l + continued (lines (drop (s + (length l + 2)) text))) ++ left text (s + (length l + 2))) e)

-- the first line with a header, from place `at` on
line_here : (text : List ℕ) (at : ℕ) (l : List ℕ) (ls : Lines) → lines (drop at text) ≡ line l ls
    → LineAt text at l × (lines (drop (at + (length l + 2)) text) ≡ ls)
line_here text at l ls e =
    let s = split (drop at text) l ls e in
    by s.tail s.whole s.others (ended_length (drop at text) l s.tail s.whole)
  where
    by : (m : List ℕ) → drop at text ≡ l ++ (13 ∷ 10 ∷ m) → lines m ≡ ls → length (drop at text) ≡ length l + (2 + length m)
        → LineAt text at l × (lines (drop (at + (length l + 2)) text) ≡ ls)
    by m w o n =
        let d = length-drop at text in
        let z : length l + 2 ≡ length l + suc (suc 0) = refl in
        let t : drop (at + (length l + 2)) text ≡ m = sym (drop-drop (length l + 2) at text) ∙ rw (w, drop-append-add) refl in
        let p : lines (drop (at + (length l + 2)) text) ≡ ls = ap lines t ∙ o in
        (record { within = omega arith; cut = e ∙ ap (line l) (sym p) }, p)

abbrev Found : List ℕ → ℕ → Option Place → Type 0
Found text at None = left text at ≡ []
Found text at (Some (s, None)) = ⊥
Found text at (Some (s, Some l)) = LineAt text s l × (at ≤ s) × (left text at ≡ left text s)

head_from : (x : Lines) (text : List ℕ) (at : ℕ) → lines (drop at text) ≡ x → Found text at (find heads (placed at x))
head_from (rest []) text at e = ap (fields_from at) e
head_from (rest (c ∷ cs)) text at e = ap (fields_from at) e
head_from (line l ls) text at e =
    let h = line_here text at l ls e in
    by h.0 (header l) refl (head_from ls text (at + (length l + 2)) h.1)
  where
    moved : (p : Option Place) → left text at ≡ left text (at + (length l + 2)) → Found text (at + (length l + 2)) p → Found text at p
    moved None q f = q ∙ f
    moved (Some (s, None)) q f = f
    moved (Some (s, Some k)) q f = (f.0, omega (arith, f.1), q ∙ f.2)

    by : LineAt text at l → (o : Option Header) → header l ≡ o → Found text (at + (length l + 2)) (find heads (placed (at + (length l + 2)) ls))
        → Found text at (cond (is_some o) (Some (at, Some l)) (find heads (placed (at + (length l + 2)) ls)))
    by a None q f = moved (find heads (placed (at + (length l + 2)) ls)) (left_on text at l a (sym q)) f
    by a (Some h) q f = (a, omega arith, refl)

pub head_found : (text : List ℕ) (at : ℕ) (p : Option Place) → p ≡ find heads (placed at (lines (drop at text))) → Found text at p
head_found text at p e = subst (Found text at) (sym e) (head_from (lines (drop at text)) text at refl)

left_field : (text : List ℕ) (s end : ℕ) (l : List ℕ) (h : Header) → LineAt text s l → Some h ≡ header l → h.len ≤ length l
    → end ≡ (s + (length l + 2)) + continued (lines (drop (s + (length l + 2)) text)) → end ≤ length text
    → Next text s (record { start = s; tag = h.tag; qualifier = h.qualifier; value = s + h.len; len = (end - 2) - (s + h.len) })
left_field text s end l h a e b z w = record { found = found; onward = omega arith; within = omega arith }
  where
    len : (length l + continued (lines (drop (s + (length l + 2)) text))) - h.len ≡ (end - 2) - (s + h.len)
    len = omega arith

    stop : end ≡ (s + h.len) + (((end - 2) - (s + h.len)) + 2)
    stop = omega arith

    rest_of : left text (s + (length l + 2)) ≡ left text ((s + h.len) + (((end - 2) - (s + h.len)) + 2))
    rest_of =
        skipped (lines (drop (s + (length l + 2)) text)) (drop (s + (length l + 2)) text) (s + (length l + 2)) refl
        ∙ ap (λ (t : List ℕ). fields_from ((s + (length l + 2)) + continued (lines (drop (s + (length l + 2)) text))) (lines t)) (drop-drop _ (s + (length l + 2)) text)
        ∙ ap (left text) (sym z ∙ stop)

    found : left text s
        ≡ record { start = s; tag = h.tag; qualifier = h.qualifier; value = s + h.len; len = (end - 2) - (s + h.len) }
        ∷ left text ((s + h.len) + (((end - 2) - (s + h.len)) + 2))
    found =
        ap (fields_from s) a.cut
        ∙ sym (ap (λ (o : Option Header). opened o s (length l + continued (lines (drop (s + (length l + 2)) text))) ++ left text (s + (length l + 2))) e)
        ∙ ap₂ {C = List Field} (λ (j : ℕ) (fs : List Field). record { start = s; tag = h.tag; qualifier = h.qualifier; value = s + h.len; len = j } ∷ fs) len rest_of

pub head_at : (text : List ℕ) (at : ℕ) (l : Line) (b : Bor (List ℕ)) (h : Header) {o : Option Header} → Some (placed_line l) ≡ find heads (placed at (lines (drop at text)))
    → l.bytes ≡ Some b → o ≡ header_in (placed_line l) → o ≡ Some h → IfSome o (λ h. IfSome l.bytes (λ b. h.len ≤ length b.now))
    → HeadAt text at l.start b.now h
head_at text at l b h e p q r w =
    let f = rw p at (head_found text at (Some (placed_line l)) e) in
    let g = rw (r, p) at w in
    let k : Some h ≡ header b.now = sym r ∙ q ∙ ap (λ (o : Option (Bor (List ℕ))). header_in (l.start, option_map (λ x. x.now) o)) p in
    record { there = f.0; read = k; value = g; onward = f.1; same = f.2 }

-- the field that it begins
pub head_field : (text : List ℕ) (at s end : ℕ) (l : List ℕ) (h : Header) → HeadAt text at s l h
    → end ≡ (s + (length l + 2)) + continued (lines (drop (s + (length l + 2)) text)) → end ≤ length text
    → Next text at (record { start = s; tag = h.tag; qualifier = h.qualifier; value = s + h.len; len = (end - 2) - (s + h.len) })
head_field text at s end l h a z w =
    let n = left_field text s end l h a.there a.read a.value z w in
    let i = a.onward in
    let o = n.onward in
    record { found = a.same ∙ n.found; onward = omega arith; within = n.within }

-- the lines that are left, and their places
pub placed_on : (text : List ℕ) (at : ℕ) (l : List ℕ) → LineAt text at l
    → placed at (lines (drop at text)) ≡ (at, Some l) ∷ placed (at + (length l + 2)) (lines (drop (at + (length l + 2)) text))
placed_on text at l a = ap (placed at) a.cut

pub placed_rest : (text : List ℕ) (at : ℕ) → at < length text → lines (drop at text) ≡ rest (drop at text)
    → placed at (lines (drop at text)) ≡ (at, None) ∷ placed (length text) (lines (drop (length text) text))
placed_rest text at h e =
    ap (placed at) e ∙ at_drop_more (unended at) text at 0 h
    ∙ ap (λ (t : List ℕ). (at, None) ∷ placed (length text) (lines t)) (sym (drop_all (length text) text (omega arith)))
