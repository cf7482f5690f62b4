-- The verdict on an order is the first question that is answered no.
use Rattle.std.proofs.Common.{◌≡◌, ℕ, ◌<◌, Bool, true, false, cond, ◌&&◌, eqb, ltb, List, [], ◌∷◌, is_some, Some, None, Ok, Decides, Option, refl, ap, ◌∙◌, subst, inl, inr, arith, Bor}
use Rattle.std.specs.List.{slice_get}
use Rattle.std.specs.Option.{option_map}
use Rattle.std.specs.Str.{bytes_eq}
use Rattle.std.proofs.lemmas.Bool.{ltb-true, ltb-false}
use Rattle.std.proofs.lemmas.Slice.Eq.{bytes_eq-Decides}
use Rattle.std.proofs.lemmas.Bool.Decides.{Decides-and, Decides-like, Decides-eqb}
use Rattle.register.specs.Runs.{View}
use Rattle.message.specs.Instructions.{same_rights}
use Rattle.message.specs.declared.status.Process.{Process}
use Rattle.message.specs.declared.status.Process.TheVariants as P
use Rattle.message.specs.declared.status.StatusCode.{StatusCode}
use Rattle.book.specs.declared.record.Standing.{Standing}
use Rattle.book.specs.declared.faults.BookFault.{BookFault}
use Rattle.book.specs.declared.faults.BookFault.TheVariants.{AlreadyStanding, NotStanding, CancellationAsked, Differs, RightsTaken, Full, CancellationNotAsked}
use Rattle.book.specs.States.{is_asked}
use Rattle.book.specs.Book.{Terms, Instruction, held, in_record, finds_in, instruction_of}
use Rattle.book.specs.Orders.{Claimed, Ordered}
use Rattle.book.specs.Orders.Ordered.{lodge, cancel, report}
use Rattle.book.specs.Questions.{ask, Outcome, questions, refusal, Agrees, IfFound}
use Rattle.book.specs.Verdicts.{shared_in, lodging_fault, replacement_fault, agrees, cancellation_fault, may_report, report_fault, verdict}
use Rattle.book.specs.Storage.{Paired}
use Rattle.book.specs.Judging.{answered}
use Rattle.book.proofs.Rights.{rights_decides}
use Rattle.book.proofs.Sharing.{shared_there, shared_at}

-- two values that one thing has at once
pub clash : {A : Type 0} {x : A} {y : Option A} → y ≡ Some x → y ≡ None → ⊥
clash e n = let z : ◌≡◌ {A = ℕ} 0 1 = cc in omega arith

pub differ : {b : Bool} → b ≡ true → b ≡ false → ⊥
differ e n = let z : ◌≡◌ {A = ℕ} 0 1 = cc in omega arith

-- a standing instruction agrees with a claim exactly where the test says so
agrees_decides : (i : Instruction) (c : Claimed) → Decides (agrees i.terms c) (Agrees c i)
agrees_decides i c = Decides-like (agrees i.terms c)
    (λ p. record { rights = p.0; account = p.1.0; option = p.1.1.0; holding = p.1.1.1 })
    (λ a. (a.rights, (a.account, (a.option, a.holding))))
    (Decides-and (same_rights i.terms.rights c.rights) (bytes_eq i.terms.account c.account && (bytes_eq i.terms.option c.option && eqb i.terms.holding c.holding))
    (rights_decides i.terms.rights c.rights)
    (Decides-and (bytes_eq i.terms.account c.account) (bytes_eq i.terms.option c.option && eqb i.terms.holding c.holding)
    (bytes_eq-Decides i.terms.account c.account)
    (Decides-and (bytes_eq i.terms.option c.option) (eqb i.terms.holding c.holding) (bytes_eq-Decides i.terms.option c.option) (Decides-eqb i.terms.holding c.holding))))

module _ (b : List ℕ → Option Instruction) where
  if_found : (P : Instruction → Type 0) (q : List ℕ) (i : Instruction) → b q ≡ Some i → P i → IfFound b P q
  if_found P q i e h j d = let s : i ≡ j = cc in subst P s h

module _ (w : View) (rs : List (Option Instruction)) (p : Paired w rs) (room : ℕ) where
  abbrev book : List ℕ → Option Instruction
  book = finds_in w rs

  -- what is found stands in a record, and what stands in a record is found
  found_where : (q : List ℕ) (i : Instruction) → book q ≡ Some i → (n : ℕ) × (slice_get rs n ≡ Some (Some i))
  found_where q i e = go (w.find q) refl
    where
      go : (o : Option ℕ) → w.find q ≡ o → (n : ℕ) × (slice_get rs n ≡ Some (Some i))
      go None d = absurd (clash e (ap (in_record rs) d))
      go (Some n) d =
          let f = p.filed q n d in
          let f1 = f.1 in
          let x : book q ≡ Some f.0 = ap (in_record rs) d ∙ ap held f.1 in
          let y : f.0 ≡ i = cc in
          (n, f.1 ∙ ap (λ (j : Instruction). Some (Some j)) y)

  found_there : (n : ℕ) (i : Instruction) → slice_get rs n ≡ Some (Some i) → book i.terms.reference ≡ Some i
  found_there n i e = ap (in_record rs) (p.listed n i e) ∙ ap held e

  lodge_outcome : (t : Terms) → Outcome (questions book w.size room (lodge t None)) (lodging_fault (is_some (book t.reference)) (shared_in rs t.rights) w.size room)
  lodge_outcome t = go (book t.reference) refl (shared_in rs t.rights) refl (ltb w.size room) refl
    where
      go : (x : Option Instruction) → book t.reference ≡ x → (s : Bool) → shared_in rs t.rights ≡ s → (l : Bool) → ltb w.size room ≡ l → Outcome (questions book w.size room (lodge t None)) (lodging_fault (is_some x) s w.size room)
      go (Some i) e s f l h = inr (AlreadyStanding, ((λ n. clash e n), refl), refl)
      go None e true f l h =
          let a = shared_there rs t.rights f in
          inl (e, inl (tt, inl (tt, inl (tt, inr (RightsTaken, ((λ n. n a.1.terms.reference a.1 (found_there a.0 a.1 a.2) a.3), refl), refl)))))
      go None e false f l h =
          let alone : (q : List ℕ) → IfFound book (λ i. i.terms.rights ≡ t.rights → ⊥) q = λ q i k r. let a = found_where q i k in differ (shared_at rs t.rights a.0 i a.1 r) f in
          inl (e, inl (tt, inl (tt, inl (tt, inl (alone, room_outcome l h)))))
        where
          room_outcome : (l : Bool) → ltb w.size room ≡ l → Outcome (ask Full (w.size < room) ∷ ask CancellationNotAsked (Unit {0}) ∷ []) (cond (ltb w.size room) None (Some Full))
          room_outcome true k = inl (ltb-true w.size room k, inl (tt, ap (λ (x : Bool). cond x None (Some Full)) k))
          room_outcome false k = inr (Full, ((λ n. let m = ltb-false w.size room k in omega arith), refl), ap (λ (x : Bool). cond x None (Some Full)) k)

  replace_outcome : (t : Terms) (q : List ℕ) → Outcome (questions book w.size room (lodge t (Some q))) (replacement_fault (is_some (book t.reference)) (book q) t.rights)
  replace_outcome t q = go (book t.reference) refl (book q) refl
    where
      go : (x : Option Instruction) → book t.reference ≡ x → (y : Option Instruction) → book q ≡ y → Outcome (questions book w.size room (lodge t (Some q))) (replacement_fault (is_some x) y t.rights)
      go (Some i) e y f = inr (AlreadyStanding, ((λ n. clash e n), refl), refl)
      go None e None f = inl (e, inr (NotStanding, ((λ s. clash s.1 f), refl), refl))
      go None e (Some i) f = inl (e, inl ((i, f), asked (is_asked i.state) refl (same_rights i.terms.rights t.rights) refl))
        where
          asked : (a : Bool) → is_asked i.state ≡ a → (r : Bool) → same_rights i.terms.rights t.rights ≡ r → Outcome (ask CancellationAsked (IfFound book (λ j. is_asked j.state ≡ false) q) ∷ ask Differs (IfFound book (λ j. j.terms.rights ≡ t.rights) q) ∷ ask RightsTaken (Unit {0}) ∷ ask Full (Unit {0}) ∷ ask CancellationNotAsked (Unit {0}) ∷ []) (cond a (Some CancellationAsked) (cond r None (Some Differs)))
          asked true k r h = inr (CancellationAsked, ((λ n. differ k (n i f)), refl), refl)
          asked false k true h = inl (if_found book (λ j. is_asked j.state ≡ false) q i f k, inl (if_found book (λ j. j.terms.rights ≡ t.rights) q i f ((rights_decides i.terms.rights t.rights).0 h), inl (tt, inl (tt, inl (tt, refl)))))
          asked false k false h = inl (if_found book (λ j. is_asked j.state ≡ false) q i f k, inr (Differs, ((λ n. differ ((rights_decides i.terms.rights t.rights).1 (n i f)) h), refl), refl))

  cancel_outcome : (q : List ℕ) (c : Claimed) → Outcome (questions book w.size room (cancel q c)) (cancellation_fault (book q) c)
  cancel_outcome q c = go (book q) refl
    where
      go : (y : Option Instruction) → book q ≡ y → Outcome (questions book w.size room (cancel q c)) (cancellation_fault y c)
      go None f = inl (tt, inr (NotStanding, ((λ s. clash s.1 f), refl), refl))
      go (Some i) f = inl (tt, inl ((i, f), asked (is_asked i.state) refl (agrees i.terms c) refl))
        where
          asked : (a : Bool) → is_asked i.state ≡ a → (r : Bool) → agrees i.terms c ≡ r → Outcome (ask CancellationAsked (IfFound book (λ j. is_asked j.state ≡ false) q) ∷ ask Differs (IfFound book (Agrees c) q) ∷ ask RightsTaken (Unit {0}) ∷ ask Full (Unit {0}) ∷ ask CancellationNotAsked (Unit {0}) ∷ []) (cond a (Some CancellationAsked) (cond r None (Some Differs)))
          asked true k r h = inr (CancellationAsked, ((λ n. differ k (n i f)), refl), refl)
          asked false k true h = inl (if_found book (λ j. is_asked j.state ≡ false) q i f k, inl (if_found book (Agrees c) q i f ((agrees_decides i c).0 h), inl (tt, inl (tt, inl (tt, refl)))))
          asked false k false h = inl (if_found book (λ j. is_asked j.state ≡ false) q i f k, inr (Differs, ((λ n. differ ((agrees_decides i c).1 (n i f)) h), refl), refl))

  report_outcome : (q : List ℕ) (process : Process) (code : StatusCode) → Outcome (questions book w.size room (report q process code)) (report_fault (book q) process)
  report_outcome q process code = go (book q) refl process
    where
      rest : (i : Instruction) → book q ≡ Some i → (m : Process) (a : Bool) → is_asked i.state ≡ a → Outcome (ask CancellationNotAsked (m ≡ P.Cancellation → IfFound book (λ j. is_asked j.state ≡ true) q) ∷ []) (cond (may_report m a) None (Some CancellationNotAsked))
      rest i f P.Instruction a k = inl ((λ e. let z : ◌≡◌ {A = ℕ} 0 1 = cc in absurd (omega arith)), refl)
      rest i f P.Cancellation true k = inl ((λ e. if_found book (λ j. is_asked j.state ≡ true) q i f k), refl)
      rest i f P.Cancellation false k = inr (CancellationNotAsked, ((λ n. differ (n refl i f) k), refl), refl)

      go : (y : Option Instruction) → book q ≡ y → (m : Process) → Outcome (questions book w.size room (report q m code)) (report_fault y m)
      go None f m = inl (tt, inr (NotStanding, ((λ s. clash s.1 f), refl), refl))
      go (Some i) f m = inl (tt, inl ((i, f), inl (tt, inl (tt, inl (tt, inl (tt, rest i f m (is_asked i.state) refl))))))

  pub verdict_outcome : (o : Ordered) → Outcome (questions book w.size room o) (verdict book (shared_in rs) w.size room o)
  verdict_outcome (lodge t None) = lodge_outcome t
  verdict_outcome (lodge t (Some q)) = replace_outcome t q
  verdict_outcome (cancel q c) = cancel_outcome q c
  verdict_outcome (report q process code) = report_outcome q process code

pub refusal_answered : (f : Option BookFault) (n : Option ℕ) → refusal (answered f n) ≡ f
refusal_answered None n = refl
refusal_answered (Some f) n = refl

pub place_answered : (f : Option BookFault) (n m : Option ℕ) → answered f n ≡ Ok m → m ≡ n
place_answered None n m e = cc
place_answered (Some f) n m e = let z : ◌≡◌ {A = ℕ} 0 1 = cc in absurd (omega arith)

-- a standing instruction is there where its meaning is
pub some_mapped : (o : Option (Bor Standing)) → is_some o ≡ is_some (option_map (λ x. instruction_of x.now) o)
some_mapped None = refl
some_mapped (Some a) = refl
