-- What a taken message makes of each reference, and that the laws of the book outlast it.
use Rattle.std.proofs.Common.{◌≡◌, ℕ, ◌⊎◌, List, [], ◌∷◌, ◌++◌, Some, None, Option, sym, refl, ap, ◌∙◌, subst, inl, inr, arith}
use Rattle.std.specs.Option.{option_map}
use Rattle.message.specs.declared.status.Process.{Process}
use Rattle.message.specs.declared.status.StatusCode.{StatusCode}
use Rattle.book.specs.declared.status.StatusEvent.{StatusEvent}
use Rattle.book.specs.declared.status.StatusEvent.TheVariants.{Acceptance, Rejection, Cancellation, Refusal, Nothing}
use Rattle.book.specs.States.{event_of}
use Rattle.book.specs.Keyed.{put}
use Rattle.book.specs.Book.{Terms, Instruction}
use Rattle.book.specs.Orders.{Ordered, Claimed, lodged, asked, eventually, without, after}
use Rattle.book.specs.Orders.Ordered.{lodge, cancel, report}
use Rattle.book.specs.Questions.{Unused, Named, Same, Alone}
use Rattle.conduct.specs.History.{Ends, Standing}
use Rattle.conduct.specs.Laws.{Told, Apart}
use Rattle.book.proofs.Keys.{cases_text, put_here, put_apart}
use Rattle.conduct.proofs.Histories.{standing_new, standing_kept, standing_cases}

-- the terms of what is found, if anything
abbrev terms_in : Option Instruction → Option Terms
terms_in o = option_map (λ i. i.terms) o

abbrev Unlodged : Ordered → List ℕ → Type 0
Unlodged o q = (t : Terms) (p : Option (List ℕ)) → o ≡ lodge t p → t.reference ≡ q → ⊥

-- what a taken message makes of a reference, which is then found so: it lodges it, ends it, or passes it by and leaves its terms
data Turn (b : List ℕ → Option Instruction) (o : Ordered) (q : List ℕ) (x : Option Instruction) : Type 0 where
  lodges : (t : Terms) (p : Option (List ℕ)) → o ≡ lodge t p → t.reference ≡ q → x ≡ Some (lodged t) → Turn b o q x
  ends : Ends o q → Unlodged o q → x ≡ None → Turn b o q x
  passes : (Ends o q → ⊥) → Unlodged o q → terms_in (b q) ≡ terms_in x → Turn b o q x

-- the asking for its cancellation leaves the terms
terms_asked : (x : Option Instruction) → terms_in x ≡ terms_in (option_map asked x)
terms_asked None = refl
terms_asked (Some i) = refl

-- the events that end an instruction, and those that it outlasts
abbrev Final : StatusEvent → Type 0
Final e = (e ≡ Cancellation) ⊎ (e ≡ Rejection)

abbrev Outlasted : StatusEvent → Type 0
Outlasted Acceptance = Unit {0}
Outlasted Rejection = ⊥
Outlasted Cancellation = ⊥
Outlasted Refusal = Unit {0}
Outlasted Nothing = Unit {0}

not_final : (e : StatusEvent) → Outlasted e → Final e → ⊥
not_final e k = elim [ inl w ↦ subst Outlasted w k | inr w ↦ subst Outlasted w k ]

-- an event ends whatever instruction it comes to, or leaves its terms
event_cases : (e : StatusEvent) → (Final e × ((x : Option Instruction) → eventually e x ≡ None)) ⊎ (Outlasted e × ((x : Option Instruction) → terms_in x ≡ terms_in (eventually e x)))
event_cases Acceptance = inr (tt, elim [ None ↦ refl | Some i ↦ refl ])
event_cases Rejection = inl (inr refl, elim [ None ↦ refl | Some i ↦ refl ])
event_cases Cancellation = inl (inl refl, elim [ None ↦ refl | Some i ↦ refl ])
event_cases Refusal = inr (tt, elim [ None ↦ refl | Some i ↦ refl ])
event_cases Nothing = inr (tt, elim [ None ↦ refl | Some i ↦ refl ])

module _ (b : List ℕ → Option Instruction) where
  module _ (o : Ordered) (q p : List ℕ) (x : Option Instruction) where
    -- a change under one reference, by a message that ends no other
    turn_put : Unlodged o q → ((q ≡ p → ⊥) → Ends o q → ⊥) → (q ≡ p → Turn b o q x) → Turn b o q (put b p x q)
    turn_put u only here =
        elim (cases_text q p) [
          | inl same ↦ subst (Turn b o q) (sym (subst (λ (k : List ℕ). put b k x q ≡ x) same (put_here b q x))) (here same)
          | inr other ↦ passes (only other) u (ap terms_in (sym (put_apart b p x q other)))
        ]

  module _ (q : List ℕ) where
    turn_without : (t : Terms) (p : Option (List ℕ)) → Unlodged (lodge t p) q → Turn b (lodge t p) q (without b p q)
    turn_without t None u = passes (elim [ inl e ↦ (let z : ◌≡◌ {A = ℕ} 0 1 = cc in omega arith) | inr e ↦ elim e [ inl x ↦ x | inr x ↦ x ] ]) u refl
    turn_without t (Some p) u =
        turn_put (lodge t (Some p)) q p None u (λ other. elim [ inl e ↦ other (cc) | inr e ↦ elim e [ inl x ↦ x | inr x ↦ x ] ]) (λ same. ends (inl (ap {B = Option (List ℕ)} Some (sym same))) u refl)

    turn_lodge : (t : Terms) (p : Option (List ℕ)) → Turn b (lodge t p) q (after b (lodge t p) q)
    turn_lodge t p =
        elim (cases_text q t.reference) [
          | inl same ↦ lodges t p refl (sym same) (subst (λ (k : List ℕ). put (without b p) k (Some (lodged t)) q ≡ Some (lodged t)) same (put_here (without b p) q (Some (lodged t))))
          | inr other ↦
              subst (Turn b (lodge t p) q) (sym (put_apart (without b p) t.reference (Some (lodged t)) q other))
              (turn_without t p (λ k r e same. let it : q ≡ t.reference = cc in other it))
        ]

    turn_cancel : (p : List ℕ) (c : Claimed) → Turn b (cancel p c) q (after b (cancel p c) q)
    turn_cancel p c =
        turn_put (cancel p c) q p (option_map asked (b p)) unlodged (λ other. unended)
        (λ same. passes unended unlodged (ap (λ (k : List ℕ). terms_in (b k)) same ∙ terms_asked (b p)))
      where
        unlodged : Unlodged (cancel p c) q
        unlodged t r e w = let z : ◌≡◌ {A = ℕ} 0 1 = cc in omega arith

        unended : Ends (cancel p c) q → ⊥
        unended = elim [ inl x ↦ x | inr e ↦ elim e [ inl x ↦ x | inr x ↦ x ] ]

    turn_report : (p : List ℕ) (process : Process) (code : StatusCode) → Turn b (report p process code) q (after b (report p process code) q)
    turn_report p process code =
        turn_put (report p process code) q p (eventually (event_of process code) (b p)) unlodged (λ other e. other (sym (about e).0))
        (λ same.
        elim (event_cases (event_of process code)) [
          | inl k ↦ ends (inr (elim k.0 [ inl w ↦ inl (sym same, w) | inr w ↦ inr (sym same, w) ])) unlodged (k.1 (b p))
          | inr k ↦ passes (λ e. not_final (event_of process code) k.0 (about e).1) unlodged (ap (λ (x : List ℕ). terms_in (b x)) same ∙ k.1 (b p))
        ])
      where
        unlodged : Unlodged (report p process code) q
        unlodged t r e w = let z : ◌≡◌ {A = ℕ} 0 1 = cc in omega arith

        about : Ends (report p process code) q → (p ≡ q) × Final (event_of process code)
        about = elim [ inl x ↦ absurd x | inr e ↦ elim e [ inl x ↦ (x.0, inl x.1) | inr x ↦ (x.0, inr x.1) ] ]

    turn : (o : Ordered) → Turn b o q (after b o q)
    turn (lodge t p) = turn_lodge t p
    turn (cancel p c) = turn_cancel p c
    turn (report p process code) = turn_report p process code

-- where the terms are the same, what is found after was found before, and what was found before is found after
terms_same : (x y : Option Instruction) (i : Instruction) → terms_in x ≡ terms_in y → y ≡ Some i → (j : Instruction) × (x ≡ Some j) × (j.terms ≡ i.terms)
terms_same None y i e w =
    let f : terms_in y ≡ Some i.terms = ap terms_in w in
    let z : ◌≡◌ {A = ℕ} 0 1 = cc in
    absurd (omega arith)
terms_same (Some j) y i e w = let f : terms_in y ≡ Some i.terms = ap terms_in w in (j, refl, (cc))

-- b' is what is found after the message o, where b was found before
module _ (b b' : List ℕ → Option Instruction) (o : Ordered) where
  turned : ((q : List ℕ) → b' q ≡ after b o q) → (q : List ℕ) → Turn b o q (b' q)
  turned so q = subst (Turn b o q) (sym (so q)) (turn b q o)

  module _ (un : Unused b o) (so : (q : List ℕ) → b' q ≡ after b o q) (h : List Ordered) (told : Told b h) where
    -- a reference that the message lodges did not stand
    unused : (t : Terms) (p : Option (List ℕ)) (q : List ℕ) → o ≡ lodge t p → t.reference ≡ q → b q ≡ None
    unused t p q e r = ap b (sym r) ∙ subst (λ (w : Ordered). Unused b w) e un

    reasons : (q : List ℕ) (i : Instruction) → b' q ≡ Some i → Turn b o q (b' q) → Standing (h ++ o ∷ []) q i.terms
    reasons q i f (lodges t p e r x) = let s : t ≡ i.terms = cc in subst (Standing (h ++ o ∷ []) q) s (standing_new h o q t p e r)
    reasons q i f (ends e u x) = let z : ◌≡◌ {A = ℕ} 0 1 = cc in absurd (omega arith)
    reasons q i f (passes n u k) =
        let was = terms_same (b q) (b' q) i k f in
        standing_kept h o q i.terms (subst (Standing h q) was.2 (told.reasons q was.0 was.1)) n

    shows : (q : List ℕ) (t : Terms) → Standing (h ++ o ∷ []) q t → Turn b o q (b' q) → (i : Instruction) × (b' q ≡ Some i) × (i.terms ≡ t)
    shows q t s (lodges t' p e r x) =
        elim (standing_cases h o q t s) [
          | inl new ↦ let e' = new.1 in let same : t' ≡ t = cc in (lodged t', x, same)
          | inr old ↦
              let was = told.shows q t old.0 in
              let there = was.1 in
              let none = unused t' p q e r in
              let z : ◌≡◌ {A = ℕ} 0 1 = cc in
              absurd (omega arith)
        ]
    shows q t s (ends e u x) = elim (standing_cases h o q t s) [ inl new ↦ absurd (u t new.0 new.1 new.2) | inr old ↦ absurd (old.1 e) ]
    shows q t s (passes n u k) =
        elim (standing_cases h o q t s) [
          | inl new ↦ absurd (u t new.0 new.1 new.2)
          | inr old ↦
              let was = told.shows q t old.0 in
              let is = terms_same (b' q) (b q) was.0 (sym k) was.1 in
              (is.0, is.1, is.2 ∙ was.2)
        ]

    pub told_more : Told b' (h ++ o ∷ [])
    told_more = record { reasons = λ q i e. reasons q i e (turned so q); shows = λ q t s. shows q t s (turned so q) }

  module _ (so : (q : List ℕ) → b' q ≡ after b o q) (apart : Apart b) (named : Named b o) (same : Same b o) (alone : Alone b o) where
    -- no other that stands on has the rights identifier of what is lodged
    fresh : (t : Terms) (p : Option (List ℕ)) → Named b (lodge t p) → Same b (lodge t p) → Alone b (lodge t p) → (q : List ℕ) (i : Instruction) → b q ≡ Some i → (Ends (lodge t p) q → ⊥) → i.terms.rights ≡ t.rights → ⊥
    fresh t None n s a q i f x r = a q i f r
    fresh t (Some p) n s a q i f x r = x (inl (ap {B = Option (List ℕ)} Some (apart p q n.0 i n.1 f (s n.0 n.1 ∙ sym r))))

    -- what is lodged, and what is passed by, have different rights identifiers
    new_apart : (t : Terms) (p : Option (List ℕ)) (q : List ℕ) (i h : Instruction) → o ≡ lodge t p → Some i ≡ Some (lodged t) → b' q ≡ Some h → (Ends o q → ⊥) → terms_in (b q) ≡ terms_in (b' q) → i.terms.rights ≡ h.terms.rights → ⊥
    new_apart t p q i h e x f n k r =
        let was = terms_same (b q) (b' q) h k f in
        let it : i.terms ≡ t = cc in
        fresh t p (subst (λ (w : Ordered). Named b w) e named) (subst (λ (w : Ordered). Same b w) e same) (subst (λ (w : Ordered). Alone b w) e alone)
        q was.0 was.1 (subst (λ (w : Ordered). Ends w q → ⊥) e n) (ap (λ (w : Terms). w.rights) was.2 ∙ sym r ∙ ap (λ (w : Terms). w.rights) it)

    apart_turns : (p q : List ℕ) (i h : Instruction) → b' p ≡ Some i → b' q ≡ Some h → i.terms.rights ≡ h.terms.rights → Turn b o p (b' p) → Turn b o q (b' q) → p ≡ q
    apart_turns p q i h e f r (lodges t s w l x) (lodges t' s' w' l' x') = let it : t ≡ t' = cc in cc
    apart_turns p q i h e f r (lodges t s w l x) (ends g u x') = let z : ◌≡◌ {A = ℕ} 0 1 = cc in absurd (omega arith)
    apart_turns p q i h e f r (lodges t s w l x) (passes n u k) = absurd (new_apart t s q i h w (sym e ∙ x) f n k r)
    apart_turns p q i h e f r (ends g u x) other = let z : ◌≡◌ {A = ℕ} 0 1 = cc in absurd (omega arith)
    apart_turns p q i h e f r (passes n u k) (lodges t s w l x) = absurd (new_apart t s p h i w (sym f ∙ x) e n k (sym r))
    apart_turns p q i h e f r (passes n u k) (ends g u' x) = let z : ◌≡◌ {A = ℕ} 0 1 = cc in absurd (omega arith)
    apart_turns p q i h e f r (passes n u k) (passes n' u' k') =
        let was = terms_same (b p) (b' p) i k e in
        let was' = terms_same (b q) (b' q) h k' f in
        apart p q was.0 was'.0 was.1 was'.1 (ap (λ (w : Terms). w.rights) was.2 ∙ r ∙ sym (ap (λ (w : Terms). w.rights) was'.2))

    pub apart_more : Apart b'
    apart_more p q i h e f r = apart_turns p q i h e f r (turned so p) (turned so q)
