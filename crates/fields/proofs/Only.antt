-- A text has no other fields. Assumes nothing.
use Rattle.std.proofs.Common.{◌≡◌, ℕ, suc, ◌+◌, ◌-◌, ◌≤◌, Bool, true, false, cond, not, ◌&&◌, eqb, List, [], ◌∷◌, ◌++◌, length, drop, is_some, Some, None, Option, sym, refl, ap, ◌∙◌, subst, ap₂, append_assoc, arith, length-append, length-drop}
use Rattle.std.proofs.lemmas.List.{length-take-le}
use Rattle.std.proofs.lemmas.Bool.{and_parts, and_left, and_from, not-true, not_from_false, or_parts, cond-false}
use Rattle.fields.specs.declared.headers.Tag.{Tag}
use Rattle.fields.specs.declared.headers.Qualifier.{Qualifier}
use Rattle.fields.specs.declared.headers.Header.{Header}
use Rattle.fields.specs.declared.walk.Field.{Field}
use Rattle.fields.specs.Characters.{digit, capital, begins, alphanumeric}
use Rattle.fields.specs.Lines.{Lines, rest, line, ahead, behind, breaks, tail, lines}
use Rattle.fields.specs.Headers.{tagged, qualified, header}
use Rattle.fields.specs.Fields.{continued, opened, fields_from, second, after, value_in, spelled}
use Rattle.fields.specs.Laws.{colon_line, Keyed, AllRight, Gapless}
use Rattle.fields.proofs.Cutting.{behind_ahead, lines_break, lines_on_lem, breaks_in, broken}
use Rattle.fields.proofs.Heads.{is_digit_not_cr, is_capital_not_cr, is_alphanumeric_not_cr, read_bare, read_qualified}

-- bytes in front of the first line
abbrev aheads : List ℕ → Lines → Lines
aheads [] x = x
aheads (c ∷ cs) x = ahead c (aheads cs x)

aheads_line : (p l : List ℕ) (ls : Lines) → aheads p (line l ls) ≡ line (p ++ l) ls
aheads_line [] l ls = refl
aheads_line (d ∷ p) l ls = ap (ahead d) (aheads_line p l ls)

-- lines, a CR LF, and more lines
abbrev attach : Lines → Lines → Lines
attach (rest r) y = line r y
attach (line l x) y = line l (attach x y)

behind_attach : (x y : Lines) → behind (attach x y) ≡ attach (behind x) y
behind_attach (rest r) y = refl
behind_attach (line l x) y = refl

ahead_attach : (c : ℕ) (x y : Lines) → ahead c (attach x y) ≡ attach (ahead c x) y
ahead_attach c (rest r) y = refl
ahead_attach c (line l x) y = refl

lines_attach : (v t : List ℕ) → lines (v ++ (13 ∷ 10 ∷ t)) ≡ attach (lines v) (lines t)
lines_attach [] t = lines_break t
lines_attach (c ∷ v) t =
    ap₂ (λ (b : Bool) (x : Lines). cond b (line [] (behind x)) (ahead c x)) (breaks_in c v (10 ∷ t)) (lines_attach v t) ∙ by (breaks c v)
  where
    by : (b : Bool) → cond b (line [] (behind (attach (lines v) (lines t)))) (ahead c (attach (lines v) (lines t)))
        ≡ attach (cond b (line [] (behind (lines v))) (ahead c (lines v))) (lines t)
    by true = ap (line []) (behind_attach (lines v) (lines t))
    by false = ahead_attach c (lines v) (lines t)

-- no CR
abbrev calm : List ℕ → Bool
calm [] = true
calm (c ∷ p) = not (eqb c 13) && calm p

lines_calm : (p x : List ℕ) → calm p ≡ true → lines (p ++ x) ≡ aheads p (lines x)
lines_calm [] x u = refl
lines_calm (c ∷ p) x u =
    let q = and_parts (not (eqb c 13)) _ u in
    lines_on_lem c (p ++ x) (and_left _ _ (not-true _ q.0)) ∙ ap (ahead c) (lines_calm p x q.1)

-- no line but the first begins with a colon
abbrev plain : Lines → Bool
plain (rest r) = not (begins 58 r)
plain (line l x) = not (begins 58 l) && plain x

abbrev later : Lines → Bool
later (rest r) = true
later (line l x) = plain x

plain_first : (v : List ℕ) (x : Lines) → lines v ≡ x → begins 58 v ≡ false → later x ≡ true → plain x ≡ true
plain_first [] x e b u = subst (λ (x : Lines). plain x ≡ true) e refl
plain_first (c ∷ v) x e b u = subst (λ (x : Lines). plain x ≡ true) e (by (breaks c v) (lines v) (subst (λ (x : Lines). later x ≡ true) (sym e) u))
  where
    by : (t : Bool) (y : Lines) → later (cond t (line [] (behind y)) (ahead c y)) ≡ true → plain (cond t (line [] (behind y)) (ahead c y)) ≡ true
    by true y p = p
    by false (rest r) p = not_from_false _ b
    by false (line l z) p = and_from _ _ (not_from_false _ b) p

later_ahead : (c : ℕ) (x : Lines) → later (ahead c x) ≡ later x
later_ahead c (rest r) = refl
later_ahead c (line l x) = refl

later_is : (v : List ℕ) → colon_line v ≡ false → later (lines v) ≡ true
later_is [] e = refl
later_is (c ∷ v) e =
    let p = or_parts (breaks c v && begins 58 (tail v)) (colon_line v) e in
    by (breaks c v) refl p.0 (later_is v p.1)
  where
    inner : (v : List ℕ) → breaks c v ≡ true → begins 58 (tail v) ≡ false → later (lines v) ≡ true → plain (behind (lines v)) ≡ true
    inner v b n i =
        let d = broken c v b in
        let w : v ≡ 10 ∷ d.0 = let z = d.1 in cc in
        at d.0 (subst (λ (v : List ℕ). begins 58 (tail v) ≡ false) w n) (subst (λ (v : List ℕ). later (lines v) ≡ true) w i)
        (ap (λ (v : List ℕ). behind (lines v)) w)
      where
        at : (s : List ℕ) → begins 58 s ≡ false → later (ahead 10 (lines s)) ≡ true → behind (lines v) ≡ behind (ahead 10 (lines s)) → plain (behind (lines v)) ≡ true
        at s m j q =
            subst (λ (x : Lines). plain x ≡ true) (sym (q ∙ behind_ahead 10 (lines s)))
            (plain_first s (lines s) refl m (sym (later_ahead 10 (lines s)) ∙ j))

    by : (t : Bool) → breaks c v ≡ t → (t && begins 58 (tail v)) ≡ false → later (lines v) ≡ true → later (cond t (line [] (behind (lines v))) (ahead c (lines v))) ≡ true
    by true b n i = inner v b n i
    by false b n i = later_ahead c (lines v) ∙ i

later_calm : (p : List ℕ) (x : Lines) → later (aheads p x) ≡ later x
later_calm [] x = refl
later_calm (c ∷ p) x = later_ahead c (aheads p x) ∙ later_calm p x

-- a line that begins with no colon has no header
headless : (l : List ℕ) → begins 58 l ≡ false → header l ≡ None
headless [] b = refl
headless (c ∷ l) b = cond-false (tagged (c ∷ l)) _ _ (and_left _ _ b)

-- the bytes of lines
abbrev size : Lines → ℕ
size (rest r) = length r
size (line l x) = length l + (2 + size x)

size_ahead : (c : ℕ) (x : Lines) → size (ahead c x) ≡ suc (size x)
size_ahead c (rest r) = refl
size_ahead c (line l x) = omega arith

size_lines : (v : List ℕ) → size (lines v) ≡ length v
size_lines [] = refl
size_lines (c ∷ v) = by (breaks c v) refl (size_lines v)
  where
    cut : (s : List ℕ) → v ≡ 10 ∷ s → size (lines v) ≡ length v → 0 + (2 + size (behind (lines v))) ≡ suc (length v)
    cut s w i =
        let a : size (ahead 10 (lines s)) ≡ suc (length s) = subst (λ (v : List ℕ). size (lines v) ≡ length v) w i in
        let b = size_ahead 10 (lines s) in
        let d : size (behind (lines v)) ≡ size (lines s) = ap (λ (v : List ℕ). size (behind (lines v))) w ∙ ap size (behind_ahead 10 (lines s)) in
        let n : length v ≡ suc (length s) = ap length w in
        omega arith

    by : (t : Bool) → breaks c v ≡ t → size (lines v) ≡ length v → size (cond t (line [] (behind (lines v))) (ahead c (lines v))) ≡ suc (length v)
    by true b i = let d = broken c v b in cut d.0 (let z = d.1 in cc) i
    by false b i = size_ahead c (lines v) ∙ ap suc i

-- lines that begin with no colon only continue a field
attach_continued : (x y : Lines) → plain x ≡ true → continued y ≡ 0 → continued (attach x y) ≡ size x + 2
attach_continued (rest r) y p z = ap (λ (o : Option Header). cond (is_some o) 0 (length r + (2 + continued y))) (headless r (not-true _ p)) ∙ omega arith
attach_continued (line l x) y p z =
    let q = and_parts (not (begins 58 l)) _ p in
    let i = attach_continued x y q.1 z in
    ap (λ (o : Option Header). cond (is_some o) 0 (length l + (2 + continued (attach x y)))) (headless l (not-true _ q.0)) ∙ omega arith

attach_fields : (x y : Lines) (n : ℕ) → plain x ≡ true → fields_from n (attach x y) ≡ fields_from (n + (size x + 2)) y
attach_fields (rest r) y n p = ap (λ (o : Option Header). opened o n (length r + continued y) ++ fields_from (n + (length r + 2)) y) (headless r (not-true _ p))
attach_fields (line l x) y n p =
    let q = and_parts (not (begins 58 l)) _ p in
    let a : (n + (length l + 2)) + (size x + 2) ≡ n + ((length l + (2 + size x)) + 2) = omega arith in
    ap (λ (o : Option Header). opened o n (length l + continued (attach x y)) ++ fields_from (n + (length l + 2)) (attach x y)) (headless l (not-true _ q.0))
    ∙ attach_fields x y (n + (length l + 2)) q.1 ∙ ap (λ (k : ℕ). fields_from k y) a

-- a header, lines that only continue it, and what begins with a field or is nothing
one_field : (p : List ℕ) (x y : Lines) (n : ℕ) (h : Header) → ((l : List ℕ) → header (p ++ l) ≡ Some h) → later x ≡ true → continued y ≡ 0
    → (fields_from n (aheads p (attach x y)) ≡ opened (Some h) n (length p + size x) ++ fields_from (n + ((length p + size x) + 2)) y)
    × (continued (aheads p (attach x y)) ≡ 0)
one_field p (rest r) y n h g u z =
    let k : length (p ++ r) ≡ length p + length r = length-append p r in
    let s : length (p ++ r) + continued y ≡ length p + length r = omega arith in (
      ap (fields_from n) (aheads_line p r y)
          ∙ ap₂ (λ (o : Option Header) (i : ℕ). opened o n i ++ fields_from (n + (length (p ++ r) + 2)) y) (g r) s
          ∙ ap (λ (j : ℕ). opened (Some h) n (length p + length r) ++ fields_from (n + (j + 2)) y) k,
      ap continued (aheads_line p r y) ∙ ap (λ (o : Option Header). cond (is_some o) 0 (length (p ++ r) + (2 + continued y))) (g r),
    )
one_field p (line l x) y n h g u z =
    let k : length (p ++ l) ≡ length p + length l = length-append p l in
    let c = attach_continued x y u z in
    let s : length (p ++ l) + continued (attach x y) ≡ length p + (length l + (2 + size x)) = omega arith in
    let j : (n + (length (p ++ l) + 2)) + (size x + 2) ≡ n + ((length p + (length l + (2 + size x))) + 2) = omega arith in (
      ap (fields_from n) (aheads_line p l (attach x y))
          ∙ ap₂ (λ (o : Option Header) (i : ℕ). opened o n i ++ fields_from (n + (length (p ++ l) + 2)) (attach x y)) (g l) s
          ∙ ap (λ (fs : List Field). opened (Some h) n (length p + (length l + (2 + size x))) ++ fs)
          (attach_fields x y (n + (length (p ++ l) + 2)) u ∙ ap (λ (i : ℕ). fields_from i y) j),
      ap continued (aheads_line p l (attach x y)) ∙ ap (λ (o : Option Header). cond (is_some o) 0 (length (p ++ l) + (2 + continued (attach x y)))) (g l),
    )

-- what a right field is spelled with
record Shape (g : Tag) (q : Option Qualifier) (v : List ℕ) : Type 0 where
  front : List ℕ
  more : List ℕ
  quiet : calm front ≡ true
  spelt : (t : List ℕ) → ((58 ∷ g.0 ∷ g.1 ∷ g.2 ∷ 58 ∷ second q) ++ (v ++ (13 ∷ 10 ∷ []))) ++ t ≡ front ++ (more ++ (13 ∷ 10 ∷ t))
  heads : (l : List ℕ) → header (front ++ l) ≡ Some (record { tag = g; qualifier = q; len = 5 + length (second q) })
  long : length front + length more ≡ (5 + length (second q)) + length v
  plainly : later (lines more) ≡ true

tag_calm : (g : Tag) → (digit g.0 && (digit g.1 && capital g.2)) ≡ true → (q : List ℕ) → calm q ≡ true → calm (58 ∷ g.0 ∷ g.1 ∷ g.2 ∷ 58 ∷ q) ≡ true
tag_calm g e q u =
    let x = and_parts (digit g.0) _ e in
    let y = and_parts (digit g.1) _ x.1 in
    and_from _ _ (not_from_false _ (is_digit_not_cr g.0 x.0))
    (and_from _ _ (not_from_false _ (is_digit_not_cr g.1 y.0)) (and_from _ _ (not_from_false _ (is_capital_not_cr g.2 y.1)) u))

tag_there : (g : Tag) (l : List ℕ) → (digit g.0 && (digit g.1 && capital g.2)) ≡ true → true ≡ tagged (58 ∷ g.0 ∷ g.1 ∷ g.2 ∷ 58 ∷ l)
tag_there g l e =
    let x = and_parts (digit g.0) _ e in
    let y = and_parts (digit g.1) _ x.1 in
    sym (and_from _ _ x.0 (and_from _ _ y.0 (and_from _ _ y.1 refl)))

abbrev key : Qualifier → List ℕ → List ℕ
key q l = q.0 ∷ q.1 ∷ q.2 ∷ q.3 ∷ 47 ∷ l

signs_calm : (q : Qualifier) → (alphanumeric q.0 && (alphanumeric q.1 && (alphanumeric q.2 && alphanumeric q.3))) ≡ true → calm (key q []) ≡ true
signs_calm q e =
    let x = and_parts (alphanumeric q.0) _ e in
    let y = and_parts (alphanumeric q.1) _ x.1 in
    let z = and_parts (alphanumeric q.2) _ y.1 in
    and_from _ _ (not_from_false _ (is_alphanumeric_not_cr q.0 x.0))
    (and_from _ _ (not_from_false _ (is_alphanumeric_not_cr q.1 y.0))
    (and_from _ _ (not_from_false _ (is_alphanumeric_not_cr q.2 z.0)) (and_from _ _ (not_from_false _ (is_alphanumeric_not_cr q.3 z.1)) refl)))

signs_there : (g : Tag) (q : Qualifier) (l : List ℕ) → (alphanumeric q.0 && (alphanumeric q.1 && (alphanumeric q.2 && alphanumeric q.3))) ≡ true
    → true ≡ qualified (58 ∷ g.0 ∷ g.1 ∷ g.2 ∷ 58 ∷ 58 ∷ key q l)
signs_there g q l e =
    let x = and_parts (alphanumeric q.0) _ e in
    let y = and_parts (alphanumeric q.1) _ x.1 in
    let z = and_parts (alphanumeric q.2) _ y.1 in
    sym (and_from _ _ x.0 (and_from _ _ y.0 (and_from _ _ z.0 (and_from _ _ z.1 refl))))

shape : (g : Tag) (q : Option Qualifier) (v : List ℕ) → (digit g.0 && (digit g.1 && capital g.2)) ≡ true → Keyed g q v → colon_line v ≡ false
    → Shape g q v
shape g None v d k c =
    record {
      front = 58 ∷ g.0 ∷ g.1 ∷ g.2 ∷ 58 ∷ [];
      more = v;
      quiet = tag_calm g d [] refl;
      spelt = λ t. ap (λ (x : List ℕ). 58 ∷ g.0 ∷ g.1 ∷ g.2 ∷ 58 ∷ x) (append_assoc v (13 ∷ 10 ∷ []) t);
      heads = λ l. sym (read_bare (58 ∷ g.0 ∷ g.1 ∷ g.2 ∷ 58 ∷ l) _ _ _ refl refl refl (tag_there g l d) (sym k));
      long = omega arith;
      plainly = later_is v c;
    }
shape g (Some q) v d k c =
    record {
      front = 58 ∷ g.0 ∷ g.1 ∷ g.2 ∷ 58 ∷ 58 ∷ key q [];
      more = k.2.0;
      quiet = tag_calm g d (58 ∷ key q []) (signs_calm q k.1);
      spelt = λ t.
          ap (λ (x : List ℕ). 58 ∷ g.0 ∷ g.1 ∷ g.2 ∷ 58 ∷ 58 ∷ x)
          (append_assoc v (13 ∷ 10 ∷ []) t ∙ ap (λ (x : List ℕ). x ++ (13 ∷ 10 ∷ t)) k.2.1);
      heads = λ l.
          sym (read_qualified (58 ∷ g.0 ∷ g.1 ∷ g.2 ∷ 58 ∷ 58 ∷ key q l) _ _ _ _ _ _ _ refl refl refl
          (tag_there g (58 ∷ key q l) d) (sym k.0) (signs_there g q l k.1) refl refl refl refl);
      long = let n = ap length k.2.1 in omega arith;
      plainly =
          sym (later_calm (key q []) (lines k.2.0))
          ∙ ap later (sym (lines_calm (key q []) k.2.0 (signs_calm q k.1)))
          ∙ ap (λ (x : List ℕ). later (lines x)) (sym k.2.1) ∙ later_is v c;
    }

gapless_le : (fs : List Field) (at end : ℕ) → Gapless at end fs → at ≤ end
gapless_le [] at end g = omega arith
gapless_le (f ∷ fs) at end g = let i = gapless_le fs (after f) end g.2 in let v = g.1 in omega arith

-- the bytes of right fields begin with a field or are none
begun : (fs : List Field) (text : List ℕ) → AllRight text fs → continued (lines (spelled text fs)) ≡ 0
begun [] text r = refl
begun (f ∷ fs) text r =
    let s = shape f.tag f.qualifier (value_in text f) r.0.tag r.0.keyed r.0.single in
    ap (λ (t : List ℕ). continued (lines t)) (s.spelt (spelled text fs))
    ∙ ap continued (lines_calm s.front _ s.quiet ∙ ap (aheads s.front) (lines_attach s.more (spelled text fs)))
    ∙ (one_field s.front (lines s.more) (lines (spelled text fs)) 0 _ s.heads s.plainly (begun fs text r.1)).1

same_field : (f : Field) (a b c : ℕ) → a ≡ f.start → b ≡ f.value → c ≡ f.len
    → record { start = a; tag = f.tag; qualifier = f.qualifier; value = b; len = c } ≡ f
same_field f a b c p q r = rw (p, q, r) refl

pub only : (fs : List Field) (text : List ℕ) (at : ℕ) → Gapless at (length text) fs → AllRight text fs → fields_from at (lines (spelled text fs)) ≡ fs
only [] text at g r = refl
only (f ∷ fs) text at g r =
    let s = shape f.tag f.qualifier (value_in text f) r.0.tag r.0.keyed r.0.single in
    ap (λ (t : List ℕ). fields_from at (lines t)) (s.spelt (spelled text fs))
    ∙ ap (fields_from at) (lines_calm s.front _ s.quiet ∙ ap (aheads s.front) (lines_attach s.more (spelled text fs)))
    ∙ (one_field s.front (lines s.more) (lines (spelled text fs)) at _ s.heads s.plainly (begun fs text r.1)).0
    ∙ by (length s.front + size (lines s.more)) (ap (λ (n : ℕ). length s.front + n) (size_lines s.more) ∙ s.long) (only fs text (after f) g.2 r.1)
  where
    len : length (value_in text f) ≡ f.len
    len =
        let i = gapless_le fs (after f) (length text) g.2 in
        let d = length-drop f.value text in
        length-take-le f.len (drop f.value text) (omega arith)

    by : (n : ℕ) → n ≡ (5 + length (second f.qualifier)) + length (value_in text f) → fields_from (after f) (lines (spelled text fs)) ≡ fs
        → record { start = at; tag = f.tag; qualifier = f.qualifier; value = at + (5 + length (second f.qualifier)); len = n - (5 + length (second f.qualifier)) }
        ∷ fields_from (at + (n + 2)) (lines (spelled text fs)) ≡ f ∷ fs
    by n e i =
        let v = g.1 in
        let k : at + (n + 2) ≡ after f = omega (arith, len) in
        ap₂ {C = List Field} (λ (x : Field) (y : List Field). x ∷ y) (same_field f _ _ _ (sym g.0) (sym v) (omega (arith, len)))
        (ap (λ (j : ℕ). fields_from j (lines (spelled text fs))) k ∙ i)
