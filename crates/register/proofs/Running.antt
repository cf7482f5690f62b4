-- Registers that answer each call as a plain set does answer a list of calls so.
use Rattle.std.proofs.Common.{◌≡◌, ℕ, zero, suc, ◌+◌, ◌-◌, ◌<◌, min, Bool, true, false, cond, ◌&&◌, List, [], ◌∷◌, ◌++◌, length, get_or, take, drop, set, is_some, is_ok, Some, None, Option, Result, sym, refl, ap, ◌∙◌, subst, ap₂, arith}
use Rattle.std.specs.Str.{bytes_eq}
use Rattle.std.proofs.lemmas.List.{take-append-drop, take_more, take_more_set, drop-set-lt, drop-drop}
use Rattle.register.specs.declared.call.EnterRefusal.{EnterRefusal}
use Rattle.register.specs.declared.call.Call.{Call}
use Rattle.register.specs.declared.call.Call.TheVariants.{Find, Enter, Strike, Clear}
use Rattle.register.specs.declared.call.Answer.{Answer}
use Rattle.register.specs.declared.call.Answer.TheVariants.{Number, Verdict}
use Rattle.register.specs.Pairs.{Pair, look}
use Rattle.register.specs.Sets.{Alike, Found, Entered, Struck, verdict}
use Rattle.register.specs.Runs.{View, view_of, SameView, with_pair, without_pair, replied, left, replies, lastly, Fit, Ready, Answered, Ran, Carried}
use Rattle.register.specs.Spelling.{spelling}

-- views of one set

pub view_refl : (v : View) → SameView v v
view_refl v = record { looks = λ q. refl; size = refl }

pub view_flip : (v w : View) → SameView v w → SameView w v
view_flip v w s = record { looks = λ q. sym (s.looks q); size = sym s.size }

pub view_trans : (u v w : View) → SameView u v → SameView v w → SameView u w
view_trans u v w s t = record { looks = λ q. t.looks q ∙ s.looks q; size = t.size ∙ s.size }

same_verdict : (room : ℕ) (v w : View) (k : List ℕ) → SameView v w → verdict room (v.find k) v.size ≡ verdict room (w.find k) w.size
same_verdict room v w k s = ap₂ (verdict room) (sym (s.looks k)) (sym s.size)

pub replied_same : (room : ℕ) (v w : View) (c : Call) → SameView v w → replied room v c ≡ replied room w c
replied_same room v w (Find r) s = ap Number (sym (s.looks (spelling r)))
replied_same room v w (Enter r n) s = ap Verdict (same_verdict room v w (spelling r) s)
replied_same room v w (Strike r) s = ap Number (sym (s.looks (spelling r)))
replied_same room v w Clear s = refl

with_same : (v w : View) (k : List ℕ) (n : ℕ) → SameView v w → SameView (with_pair v k n) (with_pair w k n)
with_same v w k n s = record { looks = λ q. ap (λ o. cond (bytes_eq k q) (Some n) o) (s.looks q); size = ap (λ m. m + 1) s.size }

without_same : (v w : View) (k : List ℕ) → SameView v w → SameView (without_pair v k) (without_pair w k)
without_same v w k s = record { looks = λ q. ap (λ o. cond (bytes_eq k q) None o) (s.looks q); size = ap₂ (λ m o. m - cond (is_some o) 1 0) s.size (s.looks k) }

pub left_same : (room : ℕ) (v w : View) (c : Call) → SameView v w → SameView (left room v c) (left room w c)
left_same room v w (Find r) s = s
left_same room v w (Enter r n) s = by (verdict room (v.find (spelling r)) v.size) (verdict room (w.find (spelling r)) w.size) (same_verdict room v w (spelling r) s) where
  both : (b : Bool) → SameView (cond b (with_pair v (spelling r) n) v) (cond b (with_pair w (spelling r) n) w)
  both true = with_same v w (spelling r) n s
  both false = s

  by : (x y : Result (Unit {0}) EnterRefusal) → x ≡ y → SameView (cond (is_ok x) (with_pair v (spelling r) n) v) (cond (is_ok y) (with_pair w (spelling r) n) w)
  by x y e = let P : Result (Unit {0}) EnterRefusal → Type 0 = λ z. SameView (cond (is_ok x) (with_pair v (spelling r) n) v) (cond (is_ok z) (with_pair w (spelling r) n) w) in subst P e (both (is_ok x))
left_same room v w (Strike r) s = without_same v w (spelling r) s
left_same room v w Clear s = view_refl (view_of [])

pub replies_same : (room : ℕ) (v w : View) (cs : List Call) → SameView v w → replies room v cs ≡ replies room w cs
replies_same room v w [] s = refl
replies_same room v w (c ∷ cs) s = ap₂ (λ a ys. a ∷ ys) (replied_same room v w c s) (replies_same room (left room v c) (left room w c) cs (left_same room v w c s))

-- what the clauses of a register say of its view

pub found_view : (ps qs : List Pair) (k : List ℕ) (r : Option ℕ) → Found ps qs k r → SameView (view_of ps) (view_of qs)
found_view ps qs k r f = record { looks = f.same.looks; size = f.same.size }

pub entered_view : (room : ℕ) (ps qs : List Pair) (k : List ℕ) (n : ℕ) (r : Result (Unit {0}) EnterRefusal) → Entered room ps qs k n r → SameView (cond (is_ok (verdict room (look ps k) (length ps))) (with_pair (view_of ps) k n) (view_of ps)) (view_of qs)
entered_view room ps qs k n r e = let P : Result (Unit {0}) EnterRefusal → Type 0 = λ z. SameView (cond (is_ok z) (with_pair (view_of ps) k n) (view_of ps)) (view_of qs) in subst P e.answer (both (is_ok r) e.looks e.size) where
  both : (b : Bool) → ((q : List ℕ) → look qs q ≡ cond (b && bytes_eq k q) (Some n) (look ps q)) → length qs ≡ length ps + cond b 1 0 → SameView (cond b (with_pair (view_of ps) k n) (view_of ps)) (view_of qs)
  both true looks size = record { looks = looks; size = size }
  both false looks size = record { looks = looks; size = omega arith }

pub struck_view : (ps qs : List Pair) (k : List ℕ) (r : Option ℕ) → Struck ps qs k r → SameView (without_pair (view_of ps) k) (view_of qs)
struck_view ps qs k r s = record { looks = s.looks; size = taken (length qs) (cond (is_some r) 1 0) (length ps) s.size ∙ ap (λ o. length ps - cond (is_some o) 1 0) s.answer } where
  taken : (a b c : ℕ) → a + b ≡ c → a ≡ c - b
  taken a b c e = omega arith

-- lists of calls

module _ {S : Type 0} where
  pub ran_more : (rule : S → Call → Answer → S → Type 0) (s u t : S) (cs : List Call) (xs : List Answer) (c : Call) (a : Answer) → Ran rule s cs xs u → rule u c a t → Ran rule s (cs ++ c ∷ []) (xs ++ a ∷ []) t
  ran_more rule s u t [] [] c a r h = let P : S → Type 0 = λ x. rule x c a t in (t, (subst P r h, refl))
  ran_more rule s u t [] (b ∷ xs) c a r h = absurd r
  ran_more rule s u t (d ∷ cs) [] c a r h = absurd r
  ran_more rule s u t (d ∷ cs) (b ∷ xs) c a r h = (r.0, (r.1.0, ran_more rule r.0 u t cs xs c a r.1.1 h))

  -- one more call, whose answer is written behind the others
  pub ran_next : (rule : S → Call → Answer → S → Type 0) (s u t : S) (calls : List Call) (answers before : List Answer) (i : ℕ) (c : Call) (a : Answer) → c ≡ get_or calls i c → i < length calls → i < length answers → drop i answers ≡ drop i before → Ran rule s (take i calls) (take i answers) u → rule u c a t → Ran rule s (take (i + 1) calls) (take (i + 1) (set answers i a)) t × (drop (i + 1) (set answers i a) ≡ drop (i + 1) before)
  ran_next rule s u t calls answers before i c a is l m rest r h =
      let x : take (i + 1) calls ≡ take i calls ++ c ∷ [] = take_more calls i c l ∙ ap (λ d. take i calls ++ d ∷ []) (sym is) in
      let y : take (i + 1) (set answers i a) ≡ take i answers ++ a ∷ [] = take_more_set answers i a m in
      let lt : i < i + 1 = omega arith in (
        rw (x, y) (ran_more rule s u t (take i calls) (take i answers) c a r h),
        drop-set-lt (i + 1) answers i a lt ∙ sym (drop-drop 1 i answers) ∙ ap (drop 1) rest ∙ drop-drop 1 i before,
      )

  pub ran_weaker : (P Q : S → Call → Answer → S → Type 0) → ((s : S) (c : Call) (a : Answer) (t : S) → P s c a t → Q s c a t) → (s t : S) (cs : List Call) (xs : List Answer) → Ran P s cs xs t → Ran Q s cs xs t
  ran_weaker P Q f s t [] [] r = r
  ran_weaker P Q f s t [] (a ∷ xs) r = r
  ran_weaker P Q f s t (c ∷ cs) [] r = r
  ran_weaker P Q f s t (c ∷ cs) (a ∷ xs) r = (r.0, (f s c a r.0 r.1.0, ran_weaker P Q f r.0 t cs xs r.1.1))

  fit_ordered : (ordered : S → Type 0) (s : S) (c : Call) → ordered s → Fit ordered s c
  fit_ordered ordered s (Find r) o = o
  fit_ordered ordered s (Enter r n) o = o
  fit_ordered ordered s (Strike r) o = o
  fit_ordered ordered s Clear o = tt

  ready_ordered : (ordered : S → Type 0) (s : S) (cs : List Call) → ordered s → Ready ordered s cs
  ready_ordered ordered s [] o = tt
  ready_ordered ordered s (c ∷ cs) o = fit_ordered ordered s c o

  ready_take : (ordered : S → Type 0) (s : S) (n : ℕ) (cs : List Call) → Ready ordered s cs → Ready ordered s (take n cs)
  ready_take ordered s zero cs h = tt
  ready_take ordered s (suc n) [] h = tt
  ready_take ordered s (suc n) (c ∷ cs) h = h

module _ {S : Type 0} (pairs : S → List Pair) (room : S → ℕ) (ordered : S → Type 0) (rule : S → Call → Answer → S → Type 0) where
  pub ran_fixed : (s t : S) (cs : List Call) (xs : List Answer) → Ran (Answered pairs room ordered rule) s cs xs t → room t ≡ room s
  ran_fixed s t [] [] r = ap room r
  ran_fixed s t [] (a ∷ xs) r = absurd r
  ran_fixed s t (c ∷ cs) [] r = absurd r
  ran_fixed s t (c ∷ cs) (a ∷ xs) r = ran_fixed r.0 t cs xs r.1.1 ∙ r.1.0.fixed

  pub ran_keeps : (s t : S) (cs : List Call) (xs : List Answer) → Ran (Answered pairs room ordered rule) s cs xs t → ordered s → ordered t
  ran_keeps s t [] [] r o = let P : S → Type 0 = λ x. ordered x in subst P (sym r) o
  ran_keeps s t [] (a ∷ xs) r o = absurd r
  ran_keeps s t (c ∷ cs) [] r o = absurd r
  ran_keeps s t (c ∷ cs) (a ∷ xs) r o = ran_keeps r.0 t cs xs r.1.1 (r.1.0.keeps (fit_ordered ordered s c o))

  -- a register in order, or cleared first, answers as any view of its set does
  pub ran_replies : (n : ℕ) (v : View) (s t : S) (cs : List Call) (xs : List Answer) → Ran (Answered pairs room ordered rule) s cs xs t → Ready ordered s cs → n ≡ room s → SameView v (view_of (pairs s)) → (xs ≡ replies n v cs) × SameView (lastly n v cs) (view_of (pairs t))
  ran_replies n v s t [] [] r h e same = let P : S → Type 0 = λ x. SameView v (view_of (pairs x)) in (refl, subst P (sym r) same)
  ran_replies n v s t [] (a ∷ xs) r h e same = absurd r
  ran_replies n v s t (c ∷ cs) [] r h e same = absurd r
  ran_replies n v s t (c ∷ cs) (a ∷ xs) r h e same =
      let u = r.0 in
      let step = r.1.0 in
      let w = view_of (pairs s) in
      let here : a ≡ replied n v c = step.answer h ∙ ap (λ m. replied m w c) (sym e) ∙ sym (replied_same n v w c same) in
      let P : ℕ → Type 0 = λ m. SameView (left m w c) (view_of (pairs u)) in
      let next = view_trans (left n v c) (left n w c) (view_of (pairs u)) (left_same n v w c same) (subst P (sym e) (step.leaves h)) in
      let ih = ran_replies n (left n v c) u t cs xs r.1.1 (ready_ordered ordered u cs (step.keeps h)) (e ∙ sym step.fixed) next in
      (ap₂ (λ x ys. x ∷ ys) here ih.0, ih.1)

  pub carried_from : (s t : S) (calls : List Call) (before after : List Answer) (n : ℕ) → n ≡ min (length calls) (length before) → drop n after ≡ drop n before → Ran (Answered pairs room ordered rule) s (take n calls) (take n after) t → Carried pairs room ordered rule s calls before n after t
  carried_from s t calls before after n count rest ran = record {
    count = count;
    fixed = ran_fixed s t (take n calls) (take n after) ran;
    keeps = ran_keeps s t (take n calls) (take n after) ran;
    answers = λ h.
        let said = ran_replies (room s) (view_of (pairs s)) s t (take n calls) (take n after) ran (ready_take ordered s n calls h) refl (view_refl (view_of (pairs s))) in
        sym (take-append-drop n after) ∙ ap₂ (λ x y. x ++ y) said.0 rest;
    leaves = λ h. (ran_replies (room s) (view_of (pairs s)) s t (take n calls) (take n after) ran (ready_take ordered s n calls h) refl (view_refl (view_of (pairs s)))).1;
    rest = rest;
    ruled = ran_weaker (Answered pairs room ordered rule) rule (λ x c a y h. h.ruled) s t (take n calls) (take n after) ran;
  }

-- two registers of one room and one set answer alike
pub carried_alike : {S Q : Type 0} (pairs : S → List Pair) (room : S → ℕ) (ordered : S → Type 0) (rule : S → Call → Answer → S → Type 0) (pairs' : Q → List Pair) (room' : Q → ℕ) (ordered' : Q → Type 0) (rule' : Q → Call → Answer → Q → Type 0) (s s' : S) (q q' : Q) (calls : List Call) (before after before' after' : List Answer) (n n' : ℕ) → Carried pairs room ordered rule s calls before n after s' → Carried pairs' room' ordered' rule' q calls before' n' after' q' → ordered s → ordered' q → room' q ≡ room s → Alike (pairs s) (pairs' q) → before' ≡ before → after' ≡ after
carried_alike pairs room ordered rule pairs' room' ordered' rule' s s' q q' calls before after before' after' n n' x y o o' e same start =
    let m : n' ≡ n = y.count ∙ ap (λ l. min (length calls) (length l)) start ∙ sym x.count in
    let v = view_of (pairs s) in
    let w = view_of (pairs' q) in
    let sv : SameView v w = record { looks = same.looks; size = same.size } in
    y.answers (ready_ordered ordered' q calls o')
    ∙ ap₂ (λ a b. a ++ b) (ap₂ (λ r k. replies r w (take k calls)) e m ∙ sym (replies_same (room s) v w (take n calls) sv)) (ap₂ (λ k l. drop k l) m start)
    ∙ sym (x.answers (ready_ordered ordered s calls o))
