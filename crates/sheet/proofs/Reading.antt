-- The step test reads exactly the sentences, and walks exactly their beginnings. Assumes nothing.
use Rattle.std.proofs.Common.{◌≡◌, ℕ, zero, suc, ◌+◌, ◌<◌, ◌≤◌, true, false, ◌&&◌, ◌||◌, eqb, ltb, ◌⊎◌, List, [], ◌∷◌, ◌++◌, length, drop, Some, None, sym, refl, ap, ◌∙◌, subst, inl, inr, append_assoc, append-nil, arith, length-append, length-drop}
use lib.Seq.{drop-length}
use Rattle.std.proofs.lemmas.Bool.{eqb-true, eq-eqb, ltb-true, lt-ltb, and_parts, and_from, or_cases, or_left, or_right, false≢true}
use Rattle.sheet.specs.declared.marks.Mark.{Mark}
use Rattle.sheet.specs.declared.marks.Mark.TheVariants.{Once, AtMostOnce, AtLeastOnce, AnyNumber}
use Rattle.sheet.specs.Rows.{FieldRow, Row}
use Rattle.sheet.specs.Rows.Row.{Open, Close, Field}
use Rattle.sheet.specs.Marks.{Allows, may_miss, may_repeat}
use Rattle.sheet.specs.Sentences.{Parts, laid, past, Times, Sentence, IsSentence}
use Rattle.sheet.specs.Sentences.Parts.{end, line, block}
use Rattle.sheet.specs.Steps.{reach, scan, again, step, Walks, Reads}
use Rattle.sheet.specs.Lawful.{paired}
use Rattle.sheet.specs.Laws.{ReadsSentences, Nested}
use Rattle.std.specs.Str.{bytes_eq}
use Rattle.std.proofs.lemmas.Slice.Eq.{bytes_eq-Decides}
use Rattle.sheet.proofs.Meaning.{laid_as_one}
use Rattle.sheet.proofs.Places.{drop_next, drop_within, drop_past, closing_past, reach_past, past_length, again_line, again_open, again_block}

-- what comes next: a text's first row number, or at its end the number behind the last row
abbrev target : List Row → List ℕ → ℕ
target rows [] = length rows
target rows (x ∷ w) = x

-- each row of the text may be followed by the next, and the last by the end
abbrev Onward : List Row → List ℕ → Type 0
Onward rows [] = Unit {0}
Onward rows (x ∷ w) = (x < length rows) × (step rows x (target rows w) ≡ true) × Onward rows w

abbrev Accepted : List Row → List ℕ → Type 0
Accepted rows w = (scan rows zero (target rows w) ≡ true) × Onward rows w

-- each row of the text, and the first of these behind `last`, may be followed by the next
abbrev Leads : List Row → ℕ → List ℕ → Type 0
Leads rows last [] = Unit {0}
Leads rows last (x ∷ w) = (x < length rows) × (step rows last x ≡ true) × Leads rows x w

abbrev Begun : List Row → List ℕ → Type 0
Begun rows [] = Unit {0}
Begun rows (x ∷ w) = (x < length rows) × (scan rows zero x ≡ true) × Leads rows x w

-- how often a mark allows, and what the step test asks of it
none_allowed : (m : Mark) → Allows m 0 → may_miss m ≡ true
none_allowed Once h = absurd (omega arith)
none_allowed AtMostOnce h = refl
none_allowed AtLeastOnce h = absurd (omega arith)
none_allowed AnyNumber h = refl

allowed_none : (m : Mark) → may_miss m ≡ true → Allows m 0
allowed_none Once h = absurd (false≢true h)
allowed_none AtMostOnce h = omega arith
allowed_none AtLeastOnce h = absurd (false≢true h)
allowed_none AnyNumber h = tt

more_allowed : (m : Mark) (c : ℕ) → Allows m (suc c) → (c ≡ 0) ⊎ (may_repeat m ≡ true)
more_allowed Once c h = inl (omega arith)
more_allowed AtMostOnce c h = inl (omega arith)
more_allowed AtLeastOnce c h = inr refl
more_allowed AnyNumber c h = inr refl

allowed_more : (m : Mark) (c : ℕ) → (c ≡ 0) ⊎ (may_repeat m ≡ true) → Allows m (suc c)
allowed_more Once c (inl h) = omega arith
allowed_more Once c (inr h) = absurd (false≢true h)
allowed_more AtMostOnce c (inl h) = omega arith
allowed_more AtMostOnce c (inr h) = absurd (false≢true h)
allowed_more AtLeastOnce c h = omega arith
allowed_more AnyNumber c h = tt

module _ (rows : List Row) where
  -- the text w can be read to its end from the place before row k
  abbrev From : ℕ → List ℕ → Type 0
  From k w = (scan rows k (target rows w) ≡ true) × Onward rows w

  -- the same from the place where row `last` has just been read
  abbrev After : ℕ → List ℕ → Type 0
  After last w = (step rows last (target rows w) ≡ true) × Onward rows w

  from_after : (e : ℕ) (w : List ℕ) → From (suc e) w → After e w
  from_after e w h = (or_left _ _ h.0, h.1)

  -- a part with the mark m, from row k to row e, each turn of which is a P
  record Part (k e : ℕ) (m : Mark) (P : List ℕ → Type 0) : Type 0 where
    within : k < length rows
    scans : (x : ℕ) → scan rows k x ≡ (eqb k x || (may_miss m && scan rows (suc e) x))
    only : (y : ℕ) → again rows e y ≡ true → (y ≡ k) × (may_repeat m ≡ true)
    back : may_repeat m ≡ true → again rows e k ≡ true
    into : (w : List ℕ) → After k w → (x : List ℕ) × (z : List ℕ) × (w ≡ x ++ z) × P (k ∷ x) × After e z
    out : (x : List ℕ) → P x → (y : List ℕ) × (x ≡ k ∷ y) × ((z : List ℕ) → After e z → After k (y ++ z))

  module _ (k e : ℕ) (m : Mark) (P : List ℕ → Type 0) (g : Part k e m P) where
    -- one turn and more, and then v
    items : (c : ℕ) (u v : List ℕ) → Times P (suc c) u → (c ≡ 0) ⊎ (may_repeat m ≡ true) → After e v → (y : List ℕ) × (u ≡ k ∷ y) × After k (y ++ v)
    items zero u v t r a =
        let o = g.out t.0 t.3 in
        let e₁ = t.2 in
        let e₂ = t.4 in
        let e₃ = o.1 in
        let e₄ = append-nil t.0 in
        (o.0, cc, o.2 v a)
    items (suc c) u v t (inl r) a = absurd (omega arith)
    items (suc c) u v t (inr r) a =
        let o = g.out t.0 t.3 in
        let i = items c t.1 v t.4 (inr r) a in
        let y = o.0 in
        let y₁ = i.0 in
        let e₁ = t.2 in
        let e₂ = i.1 in
        let e₃ = o.1 in
        (y ++ (k ∷ y₁), cc, rw append_assoc (o.2 (k ∷ (y₁ ++ v)) (or_right _ _ (g.back r), (g.within, i.2.0, i.2.1))))

    part_complete : (c : ℕ) (u v : List ℕ) → Allows m c → Times P c u → From (suc e) v → From k (u ++ v)
    part_complete zero u v h t f = rw t (rw (g.scans (target rows v)) (or_right _ _ (and_from _ _ (none_allowed m h) f.0)), f.1)
    part_complete (suc c) u v h t f =
        let i = items c u v t (more_allowed m c h) (from_after e v f) in
        rw i.1 (rw (g.scans k) (or_left _ _ (eq-eqb k k refl)), (g.within, i.2.0, i.2.1))

    -- a return is to row k
    returned : (z : List ℕ) → again rows e (target rows z) ≡ true → Onward rows z → (y : List ℕ) × (z ≡ k ∷ y) × (may_repeat m ≡ true) × After k y
    returned [] h o = let q = g.only _ h in let w = g.within in absurd (omega (arith, q.0))
    returned (x ∷ y) h o =
        let q = g.only _ h in
        (y, ap {B = List ℕ} (λ i. i ∷ y) q.0, q.1, (subst (λ (i : ℕ). step rows i (target rows y) ≡ true) q.0 o.1, o.2))

    -- from behind row k, the turns that are read, of one that has begun
    abbrev Turns : List ℕ → Type 0
    Turns w =
        (c : ℕ) × (y : List ℕ) × (z : List ℕ) × (w ≡ y ++ z) × Times P (suc c) (k ∷ y) × ((c ≡ 0) ⊎ (may_repeat m ≡ true)) × From (suc e) z

    -- it was one turn
    once : (w x z : List ℕ) → w ≡ x ++ z → P (k ∷ x) → From (suc e) z → Turns w
    once w x z q p h = (0, x, z, q, (k ∷ x, [], sym (append-nil (k ∷ x)), p, refl), inl refl, h)

    -- it was one turn and then others
    oftener : (w x z y : List ℕ) → w ≡ x ++ z → P (k ∷ x) → z ≡ k ∷ y → may_repeat m ≡ true → Turns y → Turns w
    oftener w x z y q p r n t = (
      suc t.0,
      x ++ (k ∷ t.1),
      t.2,
      q ∙ ap {B = List ℕ} (λ l. x ++ l) (r ∙ ap {B = List ℕ} (λ l. k ∷ l) t.3) ∙ sym (append_assoc x (k ∷ t.1) t.2),
      (k ∷ x, k ∷ t.1, refl, p, t.4),
      inr n,
      t.6,
    )

    turns : (f : ℕ) (w : List ℕ) → length w ≤ f → After k w → Turns w
    turns zero w h a =
        let i = g.into w a in
        elim (or_cases _ _ i.4.0) [
          | inl s ↦ once w i.0 i.1 i.2 i.3 (s, i.4.1)
          | inr s ↦ let j = returned i.1 s i.4.1 in absurd (omega (arith, ap length i.2, length-append i.0 i.1, ap length j.1))
        ]
    turns (suc f) w h a =
        let i = g.into w a in
        elim (or_cases _ _ i.4.0) [
          | inl s ↦ once w i.0 i.1 i.2 i.3 (s, i.4.1)
          | inr s ↦
              let j = returned i.1 s i.4.1 in
              oftener w i.0 i.1 j.0 i.2 i.3 j.1 j.2
              (turns f j.0 (omega (arith, ap length i.2, length-append i.0 i.1, ap length j.1)) j.3)
        ]

    part_sound : (w : List ℕ) → From k w
        → (c : ℕ) × (u : List ℕ) × (v : List ℕ) × Allows m c × (w ≡ u ++ v) × Times P c u × From (suc e) v
    part_sound w h =
        elim (or_cases _ _ (sym (g.scans (target rows w)) ∙ h.0)) [
          | inl s ↦ begun w (eqb-true _ _ s) h.1
          | inr s ↦ let q = and_parts _ _ s in (0, [], w, allowed_none m q.0, refl, refl, (q.1, h.1))
        ]
      where
        begun : (w : List ℕ) → k ≡ target rows w → Onward rows w
            → (c : ℕ) × (u : List ℕ) × (v : List ℕ) × Allows m c × (w ≡ u ++ v) × Times P c u × From (suc e) v
        begun [] q o = let i = g.within in absurd (omega arith)
        begun (x ∷ w) q o =
            let t = turns (length w) w (omega arith) (subst (λ (i : ℕ). step rows i (target rows w) ≡ true) (sym q) o.1, o.2) in
            (suc t.0, k ∷ t.1, t.2, allowed_more m t.0 t.5, ap {B = List ℕ} (λ i. i ∷ w) (sym q) ∙ ap {B = List ℕ} (λ l. k ∷ l) t.3, t.4, t.6)

  -- the parts p at row k: what is read from there is a sentence of theirs and then what is read behind them, and the other way round
  abbrev Sound : Parts → ℕ → Type 0
  Sound p k = (w : List ℕ) → From k w → (u : List ℕ) × (v : List ℕ) × (w ≡ u ++ v) × Sentence p k u × From (past p k) v

  abbrev Complete : Parts → ℕ → Type 0
  Complete p k = (u v : List ℕ) → Sentence p k u → From (past p k) v → From k (u ++ v)

  -- the sentences of a part and then of the rest
  abbrev Then : ℕ → Mark → (List ℕ → Type 0) → Parts → List ℕ → Type 0
  Then e m P rest w =
      (n : ℕ) × (u : List ℕ) × (v : List ℕ) × Allows m n × (w ≡ u ++ v) × Times P n u × Sentence rest (suc e) v

  then_sound : (k e : ℕ) (m : Mark) (P : List ℕ → Type 0) (rest : Parts) → Part k e m P → Sound rest (suc e)
      → (w : List ℕ) → From k w → (u : List ℕ) × (v : List ℕ) × (w ≡ u ++ v) × Then e m P rest u × From (past rest (suc e)) v
  then_sound k e m P rest g i w h =
      let a = part_sound k e m P g w h in
      let b = i a.2 a.6 in (
        a.1 ++ b.0,
        b.1,
        a.4 ∙ ap {B = List ℕ} (λ l. a.1 ++ l) b.2 ∙ sym (append_assoc a.1 b.0 b.1),
        (a.0, a.1, b.0, a.3, refl, a.5, b.3),
        b.4,
      )

  then_complete : (k e : ℕ) (m : Mark) (P : List ℕ → Type 0) (rest : Parts) → Part k e m P → Complete rest (suc e)
      → (u v : List ℕ) → Then e m P rest u → From (past rest (suc e)) v → From k (u ++ v)
  then_complete k e m P rest g i u v s f =
      let a = part_complete k e m P g s.0 s.1 (s.2 ++ v) s.3 s.5 (i s.2 v s.6 f) in
      rw (s.4, append_assoc) a

  line_part : (k : ℕ) (fr : FieldRow) (t : List Row) → drop k rows ≡ Field fr ∷ t → Part k k fr.mark (λ x. x ≡ k ∷ [])
  line_part k fr t d =
      record {
        within = drop_within rows k _ _ d;
        scans = λ x. rw (d, drop_next rows k _ _ d) refl;
        only = λ y. again_line rows k y fr t d;
        back = λ r. rw d (and_from _ _ r (eq-eqb k k refl));
        into = λ w a. ([], w, refl, refl, a);
        out = λ x p. ([], p, λ z a. a);
      }

  block_part : (k : ℕ) (m : Mark) (n : List ℕ) (inner : Parts) (cl : List ℕ) (t : List Row) → drop k rows ≡ Open m n ∷ laid inner (Close cl ∷ t)
      → Sound inner (suc k) → Complete inner (suc k)
      → Part k (past inner (suc k)) m (λ x. (b : List ℕ) × (x ≡ k ∷ (b ++ past inner (suc k) ∷ [])) × Sentence inner (suc k) b)
  block_part k m n inner cl t d s c =
      record {
        within = drop_within rows k _ _ d;
        scans = λ x. rw (d, reach_past inner zero (suc k) x (Close cl ∷ t), drop_next rows e _ _ d₂) refl;
        only = λ y. again_block rows k y e m n cl _ t d (closing_past inner zero (suc k) (Close cl ∷ t)) d₂;
        back = λ r. rw d (and_from _ _ r (eq-eqb _ _ (closing_past inner zero (suc k) (Close cl ∷ t))));
        into = λ w a. elim (or_cases _ _ a.0) [ inl h ↦ inside w (s w (h, a.1)) | inr h ↦ absurd (again_open rows k _ m n _ d h) ];
        out = λ x p. (p.0 ++ (e ∷ []), p.1, λ z a. rw append_assoc (from_after k _ (c p.0 (e ∷ z) p.2 (opens z a))));
      }
    where
      e : ℕ
      e = past inner (suc k)

      d₁ : drop (suc k) rows ≡ laid inner (Close cl ∷ t)
      d₁ = drop_next rows k _ _ d

      d₂ : drop e rows ≡ Close cl ∷ t
      d₂ = drop_past rows inner (suc k) _ d₁

      opens : (z : List ℕ) → After e z → From e (e ∷ z)
      opens z a = (rw d₂ (eq-eqb e e refl), (drop_within rows e _ _ d₂, a.0, a.1))

      shut : (z : List ℕ) → From e z → (y : List ℕ) × (z ≡ e ∷ y) × After e y
      shut z h = by z (eqb-true _ _ (rw d₂ at h.0)) h.1
        where
          by : (z : List ℕ) → e ≡ target rows z → Onward rows z → (y : List ℕ) × (z ≡ e ∷ y) × After e y
          by [] q o = let i = drop_within rows e _ _ d₂ in absurd (omega arith)
          by (x ∷ y) q o = (y, ap {B = List ℕ} (λ i. i ∷ y) (sym q), (subst (λ (i : ℕ). step rows i (target rows y) ≡ true) (sym q) o.1, o.2))

      inside : (w : List ℕ) → (u : List ℕ) × (v : List ℕ) × (w ≡ u ++ v) × Sentence inner (suc k) u × From e v
          → (x : List ℕ) × (z : List ℕ) × (w ≡ x ++ z) × ((b : List ℕ) × (◌≡◌ {A = List ℕ} (k ∷ x) (k ∷ (b ++ e ∷ []))) × Sentence inner (suc k) b) × After e z
      inside w i =
          let j = shut i.1 i.4 in
          (i.0 ++ (e ∷ []), j.0, i.2 ∙ ap {B = List ℕ} (λ l. i.0 ++ l) j.1 ∙ sym (append_assoc i.0 (e ∷ []) j.0), (i.0, refl, i.3), j.2)

  both : (p : Parts) (k : ℕ) (t : List Row) → drop k rows ≡ laid p t → Sound p k × Complete p k
  both end k t d = (λ w h. ([], w, refl, refl, h), λ u v s h. rw s h)
  both (line fr rest) k t d =
      let i = both rest (suc k) t (drop_next rows k _ _ d) in
      let g = line_part k fr _ d in
      (then_sound k k fr.mark _ rest g i.0, then_complete k k fr.mark _ rest g i.1)
  both (block m n inner cl rest) k t d =
      let d₁ = drop_next rows k _ _ d in
      let h = both inner (suc k) (Close cl ∷ laid rest t) d₁ in
      let e = past inner (suc k) in
      let i = both rest (suc e) t (drop_next rows e _ _ (drop_past rows inner (suc k) _ d₁)) in
      let g = block_part k m n inner cl (laid rest t) d h.0 h.1 in
      (then_sound k e m _ rest g i.0, then_complete k e m _ rest g i.1)

  module _ (p : Parts) (lays : rows ≡ laid p []) where
    past_end : past p 0 ≡ length rows
    past_end = let h = past_length p 0 [] in let i = ap length lays in omega arith

    accepted_sentence : (w : List ℕ) → Accepted rows w → Sentence p 0 w
    accepted_sentence w h =
        let i = (both p 0 [] lays).0 w h in
        let n = nothing i.1 i.4 in
        subst (Sentence p 0) (sym (i.2 ∙ ap {B = List ℕ} (λ l. i.0 ++ l) n ∙ append-nil i.0)) i.3
      where
        nothing : (v : List ℕ) → From (past p 0) v → v ≡ []
        nothing [] f = refl
        nothing (x ∷ v) f =
            let d : drop (past p 0) rows ≡ [] = drop_past rows p 0 [] lays in
            let q = eqb-true _ _ (rw d at f.0) in
            let l = f.1.0 in
            let n = past_end in
            absurd (omega arith)

    sentence_accepted : (w : List ℕ) → Sentence p 0 w → Accepted rows w
    sentence_accepted w h =
        let d : drop (past p 0) rows ≡ [] = drop_past rows p 0 [] lays in
        rw append-nil at ((both p 0 [] lays).1 w [] h (rw d (eq-eqb _ _ past_end), tt))

  -- a text that has begun well goes on with each row in its turn
  count : List Row → ℕ → List ℕ
  count [] k = []
  count (r ∷ rs) k = k ∷ count rs (suc k)

  found_here : (rs : List Row) (r : Row) (k : ℕ) → reach zero (r ∷ rs) k k ≡ true
  found_here rs (Open m n) k = or_left _ _ (eq-eqb k k refl)
  found_here rs (Close n) k = eq-eqb k k refl
  found_here rs (Field fr) k = or_left _ _ (eq-eqb k k refl)

  counted : (rs : List Row) (k : ℕ) → drop k rows ≡ rs → k ≤ length rows → From k (count rs k)
  unfolding count
  counted [] k d h = (rw d (eq-eqb _ _ (omega (arith, length-drop k rows, ap length d))), tt)
  counted (r ∷ rs) k d h =
      let l = drop_within rows k _ _ d in
      let i = from_after k _ (counted rs (suc k) (drop_next rows k _ _ d) (omega arith)) in
      (rw d (found_here rs r k), (l, i.0, i.1))

  goes_on : (last : ℕ) (w : List ℕ) → last < length rows → Leads rows last w → (v : List ℕ) × After last (w ++ v)
  goes_on last [] h l = (count (drop (suc last) rows) (suc last), from_after last _ (counted _ (suc last) refl h))
  goes_on last (x ∷ w) h l = let i = goes_on x w l.0 l.2 in (i.0, (l.1, (l.0, i.1.0, i.1.1)))

  begun_accepted : (w : List ℕ) → Begun rows w → (v : List ℕ) × Accepted rows (w ++ v)
  begun_accepted [] h = (count rows 0, counted rows 0 refl (omega arith))
  begun_accepted (x ∷ w) h = let i = goes_on x w h.0 h.2 in (i.0, (h.1, (h.0, i.1.0, i.1.1)))

  after_leads : (last : ℕ) (w v : List ℕ) → After last (w ++ v) → Leads rows last w
  after_leads last [] v h = tt
  after_leads last (x ∷ w) v h = (h.1.0, h.0, after_leads x w v (h.1.1, h.1.2))

  accepted_begun : (w v : List ℕ) → Accepted rows (w ++ v) → Begun rows w
  accepted_begun [] v h = tt
  accepted_begun (x ∷ w) v h = (h.1.0, h.0, after_leads x w v (h.1.1, h.1.2))

  -- the same said with the tests `follows` and `mayEnd`
  no_return : (l : ℕ) → again rows l (length rows) ≡ false
  no_return l = rw drop-length refl

  after_reads : (l : ℕ) (w : List ℕ) → l < length rows → After l w → Reads rows (Some l) w
  after_reads l [] h a =
      elim (or_cases _ _ a.0) [
        | inl s ↦ and_from _ _ (lt-ltb _ _ h) s
        | inr s ↦ absurd (false≢true (sym (no_return l) ∙ s))
      ]
  after_reads l (x ∷ w) h a =
      (and_from _ _ (lt-ltb _ _ a.1.0) (and_from _ _ (lt-ltb _ _ h) a.0), after_reads x w a.1.0 (a.1.1, a.1.2))

  reads_after : (l : ℕ) (w : List ℕ) → Reads rows (Some l) w → After l w
  reads_after l [] r = (or_left (scan rows (suc l) (length rows)) _ (and_parts (ltb l (length rows)) _ r).1, tt)
  reads_after l (x ∷ w) r =
      let q = and_parts _ _ r.0 in
      let i = reads_after x w r.1 in
      ((and_parts _ _ q.1).1, (ltb-true _ _ q.0, i.0, i.1))

  accepted_reads : (w : List ℕ) → Accepted rows w → Reads rows None w
  accepted_reads [] a = a.0
  accepted_reads (x ∷ w) a = (and_from _ _ (lt-ltb _ _ a.1.0) a.0, after_reads x w a.1.0 (a.1.1, a.1.2))

  reads_accepted : (w : List ℕ) → Reads rows None w → Accepted rows w
  reads_accepted [] r = (r, tt)
  reads_accepted (x ∷ w) r =
      let q = and_parts _ _ r.0 in
      let i = reads_after x w r.1 in
      (q.1, (ltb-true _ _ q.0, i.0, i.1))

  leads_walks : (l : ℕ) (w : List ℕ) → l < length rows → Leads rows l w → Walks rows (Some l) w
  leads_walks l [] h a = tt
  leads_walks l (x ∷ w) h a = (and_from _ _ (lt-ltb _ _ a.0) (and_from _ _ (lt-ltb _ _ h) a.1), leads_walks x w a.0 a.2)

  walks_leads : (l : ℕ) (w : List ℕ) → Walks rows (Some l) w → Leads rows l w
  walks_leads l [] r = tt
  walks_leads l (x ∷ w) r = let q = and_parts _ _ r.0 in (ltb-true _ _ q.0, (and_parts _ _ q.1).1, walks_leads x w r.1)

  begun_walks : (w : List ℕ) → Begun rows w → Walks rows None w
  begun_walks [] a = tt
  begun_walks (x ∷ w) a = (and_from _ _ (lt-ltb _ _ a.0) a.1, leads_walks x w a.0 a.2)

  walks_begun : (w : List ℕ) → Walks rows None w → Begun rows w
  walks_begun [] r = tt
  walks_begun (x ∷ w) r = let q = and_parts _ _ r.0 in (ltb-true _ _ q.0, q.1, walks_leads x w r.1)

-- rows whose blocks pair lay out parts; with some blocks open, each has parts up to its closing row. So many more may be opened in
-- one another.
abbrev Layers : ℕ → List (List ℕ) → List Row → Type 0
Layers more [] rs = (p : Parts) × (rs ≡ laid p []) × Nested more p
Layers more (o ∷ os) rs =
    (p : Parts) × (c : List ℕ) × (t : List Row) × (rs ≡ laid p (Close c ∷ t)) × Nested more p × (o ≡ c) × Layers (suc more) os t

layers : (rs : List Row) (os : List (List ℕ)) (more : ℕ) → more + length os ≡ 4 → paired os rs ≡ true → Layers more os rs
layers [] [] more q h = (end, refl, tt)
layers [] (o ∷ os) more q h = absurd (false≢true h)
layers (Open m n ∷ rs) [] zero q h = absurd (omega arith)
layers (Open m n ∷ rs) [] (suc more) q h =
    let i = layers rs (n ∷ []) more (omega arith) h in
    let j = i.6 in (
      block m n i.0 i.1 j.0,
      ap {B = List Row} (λ l. Open m n ∷ l) (i.3 ∙ ap (λ (l : List Row). laid i.0 (Close i.1 ∷ l)) j.1),
      (i.5, i.4, j.2),
    )
layers (Open m n ∷ rs) (o ∷ os) zero q h = absurd (omega (arith, ltb-true _ _ (and_parts (ltb (length (o ∷ os)) 4) (paired (n ∷ (o ∷ os)) rs) h).0))
layers (Open m n ∷ rs) (o ∷ os) (suc more) q h =
    let i = layers rs (n ∷ (o ∷ os)) more (omega arith) (and_parts (ltb (length (o ∷ os)) 4) (paired (n ∷ (o ∷ os)) rs) h).1 in
    let j = i.6 in (
      block m n i.0 i.1 j.0,
      j.1,
      j.2,
      ap {B = List Row} (λ l. Open m n ∷ l) (i.3 ∙ ap (λ (l : List Row). laid i.0 (Close i.1 ∷ l)) j.3),
      (i.5, i.4, j.4),
      j.5,
      j.6,
    )
layers (Close n ∷ rs) [] more q h = absurd (false≢true h)
layers (Close n ∷ rs) (o ∷ os) more q h =
    let a = and_parts (bytes_eq o n) (paired os rs) h in
    (end, n, rs, refl, tt, (bytes_eq-Decides o n).0 a.0, layers rs os (suc more) (omega arith) a.1)
layers (Field f ∷ rs) [] more q h =
    let i = layers rs [] more q h in (line f i.0, ap {B = List Row} (λ l. Field f ∷ l) i.1, i.2)
layers (Field f ∷ rs) (o ∷ os) more q h =
    let i = layers rs (o ∷ os) more q h in
    (line f i.0, i.1, i.2, ap {B = List Row} (λ l. Field f ∷ l) i.3, i.4, i.5, i.6)

pub layers_of : (rows : List Row) → paired [] rows ≡ true → (p : Parts) × (rows ≡ laid p []) × Nested 4 p
layers_of rows h = layers rows [] 4 refl h

-- the theorem
pub reads : (rows : List Row) → paired [] rows ≡ true → ReadsSentences rows
reads rows pairs =
    let l = layers_of rows pairs in
    let yes₁ : (v : List ℕ) → Accepted rows v → IsSentence rows v = λ v h. (l.0, l.1, accepted_sentence rows l.0 l.1 v h) in
    let yes₂ : (v : List ℕ) → IsSentence rows v → Accepted rows v = λ v h. sentence_accepted rows h.0 h.1 v h.2 in
    record {
      sound = λ w h. yes₁ w (reads_accepted rows w h);
      complete = λ w h. accepted_reads rows w (yes₂ w h);
      goes_on = λ w h. let i = begun_accepted rows w (walks_begun rows w h) in (i.0, yes₁ (w ++ i.0) i.1);
      begun = λ w h. begun_walks rows w (accepted_begun rows w h.0 (yes₂ (w ++ h.0) h.1));
      laid_once = λ p q a b. laid_as_one p q (sym a ∙ b);
    }
