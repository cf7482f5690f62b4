-- Where the fields of a text stand. Assumes nothing.
use Rattle.std.proofs.Common.{◌≡◌, ℕ, suc, ◌+◌, ◌≤◌, Bool, true, false, cond, not, List, [], ◌∷◌, ◌++◌, length, take, drop, is_some, Some, None, Option, sym, refl, ap, ◌∙◌, subst, add-zero, arith, length-append}
use lib.Seq.{drop-append-add}
use Rattle.std.proofs.lemmas.Bool.{and_parts}
use Rattle.fields.specs.declared.headers.Header.{Header}
use Rattle.fields.specs.declared.walk.Field.{Field}
use Rattle.fields.specs.Characters.{begins}
use Rattle.fields.specs.Lines.{Lines, rest, line, lines}
use Rattle.fields.specs.Headers.{header}
use Rattle.fields.specs.Fields.{continued, opened, fields_from, fields, second, spelled}
use Rattle.fields.specs.Faults.{empty, good_line, line_from, line_fault}
use Rattle.fields.specs.Laws.{Gapless, Told}
use Rattle.fields.proofs.Cutting.{split, rest_is}
use Rattle.fields.proofs.Heads.{headed}
use Rattle.fields.proofs.Spelling.{Ended, all_spelled}
use Rattle.fields.proofs.Singles.{all_right}

-- a text without a bad line ends with CR LF, and begins with a field
pub ended : (x : Lines) (first : Bool) (at : ℕ) → line_from first at x ≡ None → Ended x
ended (rest []) first at e = refl
ended (rest (c ∷ r)) first at e = let f : ◌≡◌ {A = ℕ} 0 1 = cc in absurd (omega arith)
ended (line l ls) first at e = by (λ p. ended ls false (at + (length l + 2)) p) (good_line first l) e
  where
    by : (line_from false (at + (length l + 2)) ls ≡ None → Ended ls) → (b : Bool)
        → cond b (line_from false (at + (length l + 2)) ls) (Some at) ≡ None → Ended ls
    by ih true p = ih p
    by ih false p = let f : ◌≡◌ {A = ℕ} 0 1 = cc in absurd (omega arith)

pub opens : (l : List ℕ) → good_line true l ≡ true → is_some (header l) ≡ true
opens l e =
    let p = and_parts (not (empty l)) _ e in
    let q = and_parts (not (begins 45 l)) _ p.1 in
    by (begins 58 l) (is_some (header l)) q.1
  where
    by : (b s : Bool) → cond b s false ≡ true → s ≡ true
    by true s p = p
    by false s p = let f : ◌≡◌ {A = ℕ} 0 1 = cc in absurd (omega arith)

begun : (x : Lines) → line_from true 0 x ≡ None → continued x ≡ 0
begun (rest r) e = refl
begun (line l ls) e = by (good_line true l) refl e
  where
    by : (b : Bool) → good_line true l ≡ b → cond b (line_from false (0 + (length l + 2)) ls) (Some 0) ≡ None
        → cond (is_some (header l)) 0 (length l + (2 + continued ls)) ≡ 0
    by true q p = rw (opens l q) refl
    by false q p = let f : ◌≡◌ {A = ℕ} 0 1 = cc in absurd (omega arith)

shifted : (a b c d : ℕ) (fs : List Field) → a ≡ c → b ≡ d → Gapless a b fs → Gapless c d fs
shifted a b c d fs p q g = rw (← p, ← q) g

all_gapless : (x : Lines) (t : List ℕ) (at : ℕ) → lines t ≡ x → Ended x → Gapless (at + continued x) (at + length t) (fields_from at x)
all_gapless (rest r) t at e d = let s : t ≡ [] = rest_is t r e ∙ d in rw s refl
all_gapless (line l ls) t at e d =
    let s = split t l ls e in
    by s.tail s.whole (header l) refl (all_gapless ls s.tail (at + (length l + 2)) s.others d)
  where
    by : (m : List ℕ) → t ≡ l ++ (13 ∷ 10 ∷ m) → (o : Option Header) → header l ≡ o
        → Gapless ((at + (length l + 2)) + continued ls) ((at + (length l + 2)) + length m) (fields_from (at + (length l + 2)) ls)
        → Gapless (at + cond (is_some o) 0 (length l + (2 + continued ls))) (at + length t)
        (opened o at (length l + continued ls) ++ fields_from (at + (length l + 2)) ls)
    by m v None g i =
        let n : length t ≡ length l + (2 + length m) = rw (v, length-append) (omega arith) in
        shifted _ _ _ _ _ (omega arith) (omega arith) i
    by m v (Some h) g i =
        let n : length t ≡ length l + (2 + length m) = rw (v, length-append) (omega arith) in
        let d = headed l h g in
        let z = d.size in
        let y : length l ≡ length ((58 ∷ h.tag.0 ∷ h.tag.1 ∷ h.tag.2 ∷ 58 ∷ second h.qualifier) ++ d.more) = ap length d.whole in
        let w : length l ≡ (5 + length (second h.qualifier)) + length d.more = y ∙ simp length-append (omega arith) in
        (omega arith, omega arith, shifted _ _ _ _ _ (omega arith) (omega arith) i)

pub told : (text : List ℕ) → line_fault text ≡ None → Told text (fields text)
told text e =
    let d = ended (lines text) true 0 e in
    let z = begun (lines text) e in
    record {
      right = all_right (lines text) true 0 text [] text 0 refl e refl refl;
      spelled_out =
          subst (λ (k : ℕ). take k text ++ spelled text (fields text) ≡ text) z (all_spelled (lines text) text [] text 0 refl d refl refl);
      in_order = shifted _ _ _ _ _ (omega arith) (omega arith) (all_gapless (lines text) text 0 refl d);
    }

-- past the lines that continue a field, the fields are the same
pub skipped : (x : Lines) (t : List ℕ) (at : ℕ) → lines t ≡ x → fields_from at x ≡ fields_from (at + continued x) (lines (drop (continued x) t))
skipped (rest r) t at e = sym (rw (add-zero, e) refl)
skipped (line l ls) t at e =
    let s = split t l ls e in
    by s.tail s.whole (header l) refl (skipped ls s.tail (at + (length l + 2)) s.others)
  where
    by : (m : List ℕ) → t ≡ l ++ (13 ∷ 10 ∷ m) → (o : Option Header) → header l ≡ o
        → fields_from (at + (length l + 2)) ls ≡ fields_from ((at + (length l + 2)) + continued ls) (lines (drop (continued ls) m))
        → let k = cond (is_some o) 0 (length l + (2 + continued ls)) in
        opened o at (length l + continued ls) ++ fields_from (at + (length l + 2)) ls ≡ fields_from (at + k) (lines (drop k t))
    by m v None g i =
        let a : (at + (length l + 2)) + continued ls ≡ at + (length l + (2 + continued ls)) = omega arith in
        let q : 2 + continued ls ≡ suc (suc (continued ls)) = omega arith in
        let b : drop (length l + (2 + continued ls)) t ≡ drop (continued ls) m = rw (v, q) (drop-append-add l (13 ∷ 10 ∷ m) (suc (suc (continued ls)))) in
        rw (← a, b) i
    by m v (Some h) g i = sym (rw (add-zero, e, g) refl)

-- a field has at least two bytes
pub few : (x : Lines) (t : List ℕ) (at : ℕ) → lines t ≡ x → length (fields_from at x) ≤ length t
few (rest r) t at e = omega arith
few (line l ls) t at e =
    let s = split t l ls e in
    by s.tail s.whole (header l) (few ls s.tail (at + (length l + 2)) s.others)
  where
    by : (m : List ℕ) → t ≡ l ++ (13 ∷ 10 ∷ m) → (o : Option Header) → length (fields_from (at + (length l + 2)) ls) ≤ length m
        → length (opened o at (length l + continued ls) ++ fields_from (at + (length l + 2)) ls) ≤ length t
    by m v None i = let n : length t ≡ length l + (2 + length m) = rw (v, length-append) (omega arith) in omega arith
    by m v (Some h) i = let n : length t ≡ length l + (2 + length m) = rw (v, length-append) (omega arith) in omega arith
