-- A run, one call longer.
use Rattle.std.proofs.Common.{◌≡◌, ℕ, zero, suc, ◌+◌, ◌<◌, ◌≤◌, cond, leb, List, [], ◌∷◌, ◌++◌, length, take, set, Some, None, Ok, Err, Option, Result, sym, refl, ap, ◌∙◌, subst, inl, inr, append_assoc, append-nil, add-one, arith}
use lib.Seq.{take-set-le}
use Rattle.std.specs.List.{slice_get}
use Rattle.std.specs.Option.{option_to_list}
use Rattle.std.proofs.lemmas.Bool.{cases_eq, cond-true, cond-false, le-leb, lt-leb}
use Rattle.format.specs.Texts.{and_then}
use Rattle.reader.specs.declared.faults.ReadingFault.{ReadingFault}
use Rattle.message.specs.Said.{Said}
use Rattle.meeting.specs.Hearing.{Heard}
use Rattle.book.specs.declared.acting.Taken.{Taken as Done}
use Rattle.book.specs.declared.faults.BookFault.{BookFault}
use Rattle.book.specs.Book.{Situation, found}
use Rattle.book.specs.Orders.{Ordered}
use Rattle.book.specs.Questions.{Question, Outcome}
use Rattle.book.specs.Storage.{Filed}
use Rattle.book.proofs.Places.{nth_set_here, nth_set_apart}
use Rattle.meeting.specs.Messages.{about_message, order_of}
use Rattle.meeting.specs.Taking.{about_order, done, Leaves, TakesHeard, Taking}
use Rattle.meeting.specs.Opening.{Opened}
use Rattle.meeting.proofs.Heard.{heard_said}
use Rattle.conduct.specs.declared.call.Call.{Call}
use Rattle.conduct.specs.declared.call.Call.TheVariants.{Take, Ask, Close}
use Rattle.conduct.specs.declared.call.Answer.{Answer}
use Rattle.conduct.specs.declared.call.Answer.TheVariants.{Taken}
use Rattle.conduct.specs.Laws.{Sound}
use Rattle.conduct.specs.Run.{Meter, Terms, Called, Conducted, order_in, is_taken, taken_by, taken}
use Rattle.conduct.proofs.Counts.{sound_opened}
use Rattle.conduct.proofs.Steps.{sound_acted}

taken_more : (cs : List Call) (given : List Answer) (n : ℕ) (c : Call) (a : Answer) → slice_get cs n ≡ Some c → slice_get given n ≡ Some a → taken (take (suc n) cs) (take (suc n) given) ≡ taken (take n cs) (take n given) ++ taken_by c a
taken_more [] given n c a e f = let z : ◌≡◌ {A = ℕ} 0 1 = cc in absurd (omega arith)
taken_more (x ∷ cs) [] n c a e f = let z : ◌≡◌ {A = ℕ} 0 1 = cc in absurd (omega arith)
taken_more (x ∷ cs) (y ∷ given) zero c a e f = let p : x ≡ c = cc in let r : y ≡ a = cc in append-nil (taken_by x y) ∙ ap (λ (w : Call). taken_by w y) p ∙ ap (taken_by c) r
taken_more (x ∷ cs) (y ∷ given) (suc n) c a e f = ap (λ (w : List Ordered). taken_by x y ++ w) (taken_more cs given n c a e f) ∙ sym (append_assoc (taken_by x y) (taken (take n cs) (take n given)) (taken_by c a))

-- of questions that are all answered yes, the later ones are
later_yes : (qs ps : List Question) → Outcome (qs ++ ps) None → Outcome ps None
later_yes [] ps o = o
later_yes (q ∷ qs) ps (inl o) = later_yes qs ps o.1
later_yes (q ∷ qs) ps (inr o) = let w = o.2 in let z : ◌≡◌ {A = ℕ} 0 1 = cc in absurd (omega arith)

module _ {V : Type 0} (m : Meter V) (w : Terms) where
  -- soundness outlasts the taking of a message
  sound_order : (s t : Situation V) (x : Option Ordered) (h : List Ordered) → Sound m.scale s h → Outcome (about_order (found s) s.view.size w.room x) None → Leaves m.scale s x None t → Sound m.scale t (h ++ option_to_list x)
  sound_order s t None h sound o l = absurd l
  sound_order s t (Some x) h sound o l = sound_acted m.scale s t x h w.room sound l o

  sound_kept : (s t : Situation V) (h : List Ordered) → Sound m.scale s h → t ≡ s → Sound m.scale t (h ++ [])
  sound_kept s t h sound e = subst (λ (k : List Ordered). Sound m.scale t k) (sym (append-nil h)) (subst (λ (x : Situation V). Sound m.scale x h) (sym e) sound)

  -- a taken text was read, and orders what its message orders
  sound_taking : (s t : Situation V) (number : ℕ) (text : List ℕ) (d : Done) (h : List Ordered) → Sound m.scale s h → Taking m.scale w.notice w.room w.entries s number text (done (Ok d)) t → Sound m.scale t (h ++ option_to_list (order_in number text))
  sound_taking s t number text d h sound k = by k.heard k.reads k.takes
    where
      by : (x : Result Said ReadingFault) → Heard number text w.entries x → TakesHeard m.scale w.notice w.room s x (done (Ok d)) t → Sound m.scale t (h ++ option_to_list (order_in number text))
      by (Err f) r g = let a = g.0 in let z : ◌≡◌ {A = ℕ} 0 1 = cc in absurd (omega arith)
      by (Ok g) r x =
          let is : order_in number text ≡ order_of g = ap (λ (o : Option Said). and_then o order_of) (heard_said number text w.entries g r) in
          subst (λ (o : Option Ordered). Sound m.scale t (h ++ option_to_list o)) (sym is)
          (sound_order s t (order_of g) h sound (later_yes (about_message w.notice g) (about_order (found s) s.view.size w.room (order_of g)) x.outcome) x.leaves)

  -- a refused one leaves everything as it was
  kept_refused : (s t : Situation V) (number : ℕ) (text : List ℕ) (f : BookFault) → Taking m.scale w.notice w.room w.entries s number text (done (Err f)) t → t ≡ s
  kept_refused s t number text f k = by k.heard k.takes
    where
      by : (x : Result Said ReadingFault) → TakesHeard m.scale w.notice w.room s x (done (Err f)) t → t ≡ s
      by (Err e) g = g.1
      by (Ok g) x = x.leaves

  sound_take : (s t : Situation V) (number : ℕ) (text : List ℕ) (a : Answer) (r : Result Done BookFault) (h : List Ordered) → Sound m.scale s h → a ≡ Taken r → Taking m.scale w.notice w.room w.entries s number text (done r) t → Sound m.scale t (h ++ cond (is_taken a) (option_to_list (order_in number text)) [])
  sound_take s t number text a (Ok d) h sound e k = subst (λ (x : Answer). Sound m.scale t (h ++ cond (is_taken x) (option_to_list (order_in number text)) [])) (sym e) (sound_taking s t number text d h sound k)
  sound_take s t number text a (Err f) h sound e k = subst (λ (x : Answer). Sound m.scale t (h ++ cond (is_taken x) (option_to_list (order_in number text)) [])) (sym e) (sound_kept s t h sound (kept_refused s t number text f k))

  sound_called : (s t : Situation V) (c : Call) (a : Answer) (h : List Ordered) → Sound m.scale s h → Called m w s c a t → Sound m.scale t (h ++ taken_by c a)
  sound_called s t (Take number text) a h sound k = sound_take s t number text.now a k.0 h sound k.1 k.2
  sound_called s t (Ask q) a h sound k = sound_kept s t h sound k.3
  sound_called s t Close a h sound k = sound_kept s t h sound k.1

  -- the register, the records and the tally belong together after each call
  filed_heard : (s t : Situation V) (x : Result Said ReadingFault) (r : Result Done BookFault) → Filed m.scale s → TakesHeard m.scale w.notice w.room s x (done r) t → Filed m.scale t
  filed_heard s t (Err e) r f k = subst (Filed m.scale) (sym k.1) f
  filed_heard s t (Ok g) (Err e) f k = subst (Filed m.scale) (sym k.leaves) f
  filed_heard s t (Ok g) (Ok d) f k = by (order_of g) k.leaves
    where
      by : (x : Option Ordered) → Leaves m.scale s x None t → Filed m.scale t
      by None l = absurd l
      by (Some x) l = l.filed

  pub filed_called : (s t : Situation V) (c : Call) (a : Answer) → Filed m.scale s → Called m w s c a t → Filed m.scale t
  filed_called s t (Take number text) a f k = filed_heard s t k.2.heard k.0 f k.2.takes
  filed_called s t (Ask q) a f k = subst (Filed m.scale) (sym k.3) f
  filed_called s t Close a f k = subst (Filed m.scale) (sym k.1) f

  module _ (calls : List Call) where
    pub run_opened : (answers : List Answer) (s : Situation V) → Opened m.scale s → Conducted m w calls answers 0 s
    run_opened answers s o = record {
      trace = λ _. s;
      opening = o;
      ending = refl;
      called = λ k c a h. absurd (omega arith);
      sound = λ k h. let z : k ≡ 0 = omega arith in subst (λ (j : ℕ). Sound m.scale s (taken (take j calls) (take j answers))) (sym z) (sound_opened m.scale s o);
    }

    module _ (answers : List Answer) (n : ℕ) (s t : Situation V) (c : Call) (a : Answer)
        (run : Conducted m w calls answers n s) (here : slice_get calls n ≡ Some c) (room : n < length answers) (step : Called m w s c a t) where
      path : ℕ → Situation V
      path k = cond (leb k n) (run.trace k) t

      path_old : (k : ℕ) → k ≤ n → path k ≡ run.trace k
      unfolding path
      path_old k h = cond-true (leb k n) (run.trace k) t (le-leb k n h)

      path_new : path (n + 1) ≡ t
      unfolding path
      path_new = cond-false (leb (n + 1) n) (run.trace (n + 1)) t (lt-leb (n + 1) n (omega arith))

      called_more : (k : ℕ) (d : Call) (b : Answer) → k < n + 1 → slice_get calls k ≡ Some d → slice_get (set answers n a) k ≡ Some b → Called m w (path k) d b (path (k + 1))
      called_more k d b h e f = elim (cases_eq k n) [
        | inl same ↦
            let e1 : d ≡ c = cc in
            let v = nth_set_here answers n a room in
            let e2 : b ≡ a = cc in
            let p : path k ≡ s = ap path same ∙ path_old n (omega arith) ∙ run.ending in
            let r : path (k + 1) ≡ t = ap (λ (j : ℕ). path (j + 1)) same ∙ path_new in
            subst (λ (x : Situation V). Called m w x d b (path (k + 1))) (sym p)
            (subst (λ (x : Situation V). Called m w s d b x) (sym r)
            (subst (λ (x : Call). Called m w s x b t) (sym e1)
            (subst (λ (x : Answer). Called m w s c x t) (sym e2) step)))
        | inr other ↦
            let old = run.called k d b (omega arith) e (sym (nth_set_apart answers n k a other) ∙ f) in
            subst (λ (x : Situation V). Called m w x d b (path (k + 1))) (sym (path_old k (omega arith)))
            (subst (λ (x : Situation V). Called m w (run.trace k) d b x) (sym (path_old (k + 1) (omega arith))) old)
      ]

      taken_now : taken (take (n + 1) calls) (take (n + 1) (set answers n a)) ≡ taken (take n calls) (take n answers) ++ taken_by c a
      taken_now = rw add-one (taken_more calls (set answers n a) n c a here (nth_set_here answers n a room) ∙ ap (λ (x : List Answer). taken (take n calls) x ++ taken_by c a) (take-set-le n answers n a (omega arith)))

      sound_more : (k : ℕ) → k ≤ n + 1 → Sound m.scale (path k) (taken (take k calls) (take k (set answers n a)))
      sound_more k h = elim (cases_eq k (n + 1)) [
        | inl same ↦
            let was : Sound m.scale s (taken (take n calls) (take n answers)) = subst (λ (x : Situation V). Sound m.scale x (taken (take n calls) (take n answers))) run.ending (run.sound n (omega arith)) in
            let is : Sound m.scale t (taken (take (n + 1) calls) (take (n + 1) (set answers n a))) = subst (Sound m.scale t) (sym taken_now) (sound_called s t c a (taken (take n calls) (take n answers)) was step) in
            subst (λ (j : ℕ). Sound m.scale (path j) (taken (take j calls) (take j (set answers n a)))) (sym same) (subst (λ (x : Situation V). Sound m.scale x (taken (take (n + 1) calls) (take (n + 1) (set answers n a)))) (sym path_new) is)
        | inr other ↦
            subst (λ (x : Situation V). Sound m.scale x (taken (take k calls) (take k (set answers n a)))) (sym (path_old k (omega arith)))
            (subst (λ (x : List Answer). Sound m.scale (run.trace k) (taken (take k calls) x)) (sym (take-set-le k answers n a (omega arith))) (run.sound k (omega arith)))
      ]

      pub run_more : Conducted m w calls (set answers n a) (n + 1) t
      run_more = record {
        trace = path;
        opening = subst (Opened m.scale) (sym (path_old 0 (omega arith))) run.opening;
        ending = path_new;
        called = called_more;
        sound = sound_more;
      }
