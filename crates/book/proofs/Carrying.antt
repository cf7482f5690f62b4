-- Orders carried out at a desk.
use Rattle.std.proofs.Common.{◌≡◌, ℕ, List, get_or, set, Some, None, Option, sym, refl, ap, ◌∙◌, subst, arith}
use Rattle.std.proofs.lemmas.List.{length-map, set-get_or}
use Rattle.std.specs.List.{slice_get}
use Rattle.std.specs.Option.{option_map}
use Rattle.register.specs.declared.interface.Register as Register
use Rattle.register.specs.Sets.{Lawful}
use Rattle.message.specs.declared.status.Process.{Process}
use Rattle.message.specs.declared.status.StatusCode.{StatusCode}
use Rattle.tally.specs.declared.interface.Tally as Tally
use Rattle.tally.specs.Scale.{Scale, Group}
use Rattle.book.specs.declared.desk.Desk.{Desk}
use Rattle.book.specs.declared.record.Standing.{Standing}
use Rattle.book.specs.declared.record.State.{State}
use Rattle.book.specs.Keyed.{put}
use Rattle.book.specs.States.{event_of, turned, asking}
use Rattle.book.specs.Book.{Records, Terms, Instruction, Situation, found, held, in_record, instruction_of, meaning, meanings}
use Rattle.book.specs.Orders.{Claimed, Ordered, asked, eventually, after}
use Rattle.book.specs.Orders.Ordered.{lodge, cancel, report}
use Rattle.book.specs.Questions.{Of, Stands, subject}
use Rattle.book.specs.Storage.{Filed}
use Rattle.book.specs.Moves.{Placing, Ends, Places}
use Rattle.book.specs.Desk.{told, shown, record_of, Served}
use Rattle.book.specs.Acting.{Acts, Asks, Restates, restated}
use Rattle.book.proofs.Leading.{served_here, served_on, served_still}
use Rattle.book.proofs.Meant.{meant_set}
use Rattle.book.proofs.Places.{count_full}
use Rattle.book.proofs.Acts.{yes_to, leads, restated_acted, ended_acted, gone, replaced_acted}

module _ {X Y : Type 0} (R : Register.Ghosts X) (T : Tally.Ghosts Y) (d : Desk X Y) where
  -- a new instruction gets an empty record
  pub lodging_acts : (terms : Terms) (n : ℕ) (d' : Desk X Y) (number : Option ℕ) → slice_get (meanings d.records.now) n ≡ Some None → Places R T d n terms d' → Acts R T d (lodge terms None) number d'
  lodging_acts terms n d' number was places = record {
    served = places.served;
    acted = λ o f out _.
        let a = yes_to out in
        let b = yes_to a.1 in
        let c = yes_to b.1 in
        let e = yes_to c.1 in
        let h = yes_to e.1 in
        let k = yes_to h.1 in
        let room = k.0 in
        let p = places.placing o f was a.0 (omega arith) in
        (p.0, record { filed = p.1.filed; book = p.1.book; stays = p.1.stays });
  }

  -- there is one where there is room
  pub no_room_acts : (terms : Terms) (number : Option ℕ) → ((n : ℕ) → slice_get (meanings d.records.now) n ≡ Some None → ⊥) → Acts R T d (lodge terms None) number d
  no_room_acts terms number full = record {
    served = served_here R T d;
    acted = λ o f out _.
        let a = yes_to out in
        let b = yes_to a.1 in
        let c = yes_to b.1 in
        let e = yes_to c.1 in
        let h = yes_to e.1 in
        let k = yes_to h.1 in
        let room = k.0 in
        let many = f.paired.many in
        let all = count_full (meanings d.records.now) full in
        let len = length-map d.records.now meaning in
        absurd (omega arith);
  }

  -- a replacement: the old instruction ends, and the new one takes its record
  pub replacement_acts : Lawful R.pairs R.room R.ordered → Group (T.scale d.tally.now) → (terms : Terms) (q : List ℕ) (number : Option ℕ) (n : ℕ) (e f : Desk X Y) → number ≡ Some n → Ends R T d n e → Places R T e n terms f → Acts R T d (lodge terms (Some q)) number f
  replacement_acts law g terms q number n d₁ d₂ is ends places = record {
    served = served_on R T d d₁ d₂ ends.served places.served;
    acted = λ o f out place.
        let s : Situation T.Value = shown R T d in
        let u : Situation T.Value = shown R T d₁ in
        let v : Situation T.Value = shown R T d₂ in
        let same = ends.served.scale in
        let a = yes_to out in
        let named : s.view.find q ≡ Some n = sym place ∙ is in
        let l = leads (T.scale d.tally.now) g s f q n named in
        let e = ends.ending o f l.0 l.1 in
        let un = gone (T.scale d.tally.now) g s f terms q n l.0 u v l.2 l.3 a.0 e.1 in
        let few = e.1.fewer in
        let most = law.within d.register.now o in
        let fixed = ends.served.led.fixed in
        let p = places.placing e.0 (subst (λ (x : Scale T.Value). Filed x u) (sym same) e.1.filed) e.1.emptied un (omega arith) in
        (p.0, replaced_acted (T.scale d.tally.now) g s f terms q n l.0 u v l.2 l.3 a.0 e.1 (subst (λ (x : Scale T.Value). Placing x u terms v) same p.1));
  }

  -- where an order names an instruction, a question has been answered that it stands
  pub missing_acts : (q : List ℕ) (o : Ordered) (number : Option ℕ) (d' : Desk X Y) → subject o ≡ Some q → in_record (meanings d.records.now) number ≡ None → Served R T d d' → Acts R T d o number d'
  missing_acts q o number d' names is served = record {
    served = served;
    acted = λ _ f out place.
        let b = yes_to (yes_to out).1 in
        let st : Stands (found (shown R T d)) q = subst (λ (x : Option (List ℕ)). Of x (Stands (found (shown R T d)))) names b.0 in
        let w = st.1 in
        let un : found (shown R T d) q ≡ None = ap (in_record (meanings d.records.now)) (sym (place ∙ ap (record_of (told R d.register.now)) names)) ∙ is in
        let z : ◌≡◌ {A = ℕ} 0 1 = cc in absurd (omega arith);
  }

  module _ (g : Group (T.scale d.tally.now)) (q : List ℕ) (o : Ordered) (number : Option ℕ) (n : ℕ) (names : subject o ≡ Some q) (is : number ≡ Some n) (i : Instruction) (was : slice_get (meanings d.records.now) n ≡ Some (Some i)) where
    -- the instruction of the record named is that which the reference leads to
    named_there : Filed (T.scale d.tally.now) (shown R T d) → number ≡ record_of (told R d.register.now) (subject o) → ((told R d.register.now).find q ≡ Some n) × (i.terms.reference ≡ q) × (found (shown R T d) q ≡ Some i)
    named_there f place =
        let e : (told R d.register.now).find q ≡ Some n = sym (place ∙ ap (record_of (told R d.register.now)) names) ∙ is in
        let l = leads (T.scale d.tally.now) g (shown R T d) f q n e in
        let w = l.1 in
        let same : l.0 ≡ i = cc in
        (e, sym (ap (λ (j : Instruction). j.terms.reference) same) ∙ l.2, l.3 ∙ ap {B = Option Instruction} Some same)

    -- its state goes on
    pub restated_acts : (state : State) (d' : Desk X Y) → ((b : List ℕ → Option Instruction) → b q ≡ Some i → (x : List ℕ) → after b o x ≡ put b q (Some (restated state i)) x) → Served R T d d' → d'.register.now ≡ d.register.now → d'.tally.now ≡ d.tally.now → meanings d'.records.now ≡ set (meanings d.records.now) n (Some (restated state i)) → Acts R T d o number d'
    restated_acts state d' goes served register tally records = record {
      served = served;
      acted = λ r f _ place.
          let h = named_there f place in (
            subst R.ordered (sym register) r,
            restated_acted (T.scale d.tally.now) g (shown R T d) f q n i state o (shown R T d') h.0 was h.1 (goes (found (shown R T d)) h.2) (ap (told R) register) (ap T.value tally) records,
          );
    }

    -- or it ends
    pub ended_acts : (d' : Desk X Y) → ((b : List ℕ → Option Instruction) → b q ≡ Some i → (x : List ℕ) → after b o x ≡ put b q None x) → Ends R T d n d' → Acts R T d o number d'
    ended_acts d' goes ends = record {
      served = ends.served;
      acted = λ r f _ place.
          let h = named_there f place in
          let k = ends.ending r f i was in
          (k.0, ended_acted (T.scale d.tally.now) g (shown R T d) f q n i o (shown R T d') h.1 (goes (found (shown R T d)) h.2) k.1);
    }

-- a record that was lent, and is as it was, is no change
pub unread : {X Y : Type 0} (R : Register.Ghosts X) (T : Tally.Ghosts Y) (d : Desk X Y) (n : ℕ) (r s : Option Standing) → get_or d.records.now n r ≡ s → (d' : Desk X Y) → Ends R T (record d { records = record d.records { now = set d.records.now n s } }) n d' → Ends R T d n d'
unread R T d n r s is d' e = subst (λ (rs : Records). Ends R T (record d { records = record d.records { now = rs } }) n d') (ap (set d.records.now n) (sym is) ∙ set-get_or d.records.now n r) e

-- what a cancellation makes of the instruction that it names
pub asking_goes : (q : List ℕ) (c : Claimed) (i : Instruction) (state : State) → state ≡ asking i.state → (b : List ℕ → Option Instruction) → b q ≡ Some i → (x : List ℕ) → after b (cancel q c) x ≡ put b q (Some (restated state i)) x
asking_goes q c i state is b e x =
    ap (λ (y : Option Instruction). put b q (option_map asked y) x) e
    ∙ ap (λ (s : State). put b q (Some (restated s i)) x) (sym is)

-- and a report
pub report_goes : (q : List ℕ) (process : Process) (code : StatusCode) (i : Instruction) (y : Option State) → turned i.state (event_of process code) ≡ y → (b : List ℕ → Option Instruction) → b q ≡ Some i → (x : List ℕ) → after b (report q process code) x ≡ put b q (option_map (λ s. restated s i) y) x
report_goes q process code i y turns b e x =
    ap (λ (j : Option Instruction). put b q (eventually (event_of process code) j) x) e
    ∙ ap (λ (s : Option State). put b q (option_map (λ s. restated s i) s) x) turns

-- a record that was lent for a change
abbrev pub with_record : {X Y : Type 0} → Desk X Y → ℕ → Option Standing → Desk X Y
with_record d n r = record d { records = record d.records { now = set d.records.now n r } }

-- a cancellation is asked in a record, whether an instruction stands there or not
pub asked_acts : {X Y : Type 0} (R : Register.Ghosts X) (T : Tally.Ghosts Y) (d : Desk X Y) (g : Group (T.scale d.tally.now)) (q : List ℕ) (c : Claimed) (number : Option ℕ) (n : ℕ) (r s : Option Standing) → number ≡ Some n → slice_get (meanings d.records.now) n ≡ Some (meaning r) → meaning s ≡ option_map asked (meaning r) → Acts R T d (cancel q c) number (with_record d n s)
asked_acts R T d g q c number n None s is was e = missing_acts R T d q (cancel q c) number _ refl (ap (in_record (meanings d.records.now)) is ∙ ap held was) (served_still R T d _ refl refl refl)
asked_acts R T d g q c number n (Some st) s is was e =
    restated_acts R T d g q (cancel q c) number n refl is (instruction_of st) was (asking st.state) _ (asking_goes q c (instruction_of st) (asking st.state) refl)
    (served_still R T d _ refl refl refl) refl refl (meant_set d.records.now n s ∙ ap (set (meanings d.records.now) n) e)

pub asks_there : {X Y : Type 0} (d : Desk X Y) (number : Option ℕ) (n : ℕ) (r s : Option Standing) → number ≡ Some n → slice_get (meanings d.records.now) n ≡ Some (meaning r) → meaning s ≡ option_map asked (meaning r) → Asks d number (with_record d n s)
asks_there d number n r s is was e = record {
  register = refl;
  tally = refl;
  records = λ k i names stands.
      let same : n ≡ k = cc in
      let w : meaning r ≡ Some i = cc in
      meant_set d.records.now n s
      ∙ ap (set (meanings d.records.now) n) (e ∙ ap (option_map asked) w)
      ∙ ap (λ (m : ℕ). set (meanings d.records.now) m (Some (asked i))) same;
}

-- nothing stands in the record named
pub stands_nowhere : (rs : List (Option Instruction)) (number : Option ℕ) (n : ℕ) (i : Instruction) → in_record rs number ≡ None → number ≡ Some n → slice_get rs n ≡ Some (Some i) → ⊥
stands_nowhere rs number n i nothing names stands =
    let there : in_record rs number ≡ Some i = ap (in_record rs) names ∙ ap held stands in
    let z : ◌≡◌ {A = ℕ} 0 1 = cc in omega arith

pub asks_nowhere : {X Y : Type 0} (d : Desk X Y) (number : Option ℕ) → in_record (meanings d.records.now) number ≡ None → Asks d number d
asks_nowhere d number nothing = record {
  register = refl;
  tally = refl;
  records = λ n i names stands. absurd (stands_nowhere (meanings d.records.now) number n i nothing names stands);
}

-- an instruction goes into another state
pub restates_there : {X Y : Type 0} (d : Desk X Y) (n : ℕ) (st s : Standing) (state : State) → slice_get (meanings d.records.now) n ≡ Some (Some (instruction_of st)) → instruction_of s ≡ restated state (instruction_of st) → Restates d n state (with_record d n (Some s))
restates_there d n st s state was e = record {
  register = refl;
  tally = refl;
  records = λ i stands.
      let w : instruction_of st ≡ i = cc in
      meant_set d.records.now n (Some s) ∙ ap (λ (j : Instruction). set (meanings d.records.now) n (Some j)) (e ∙ ap (restated state) w);
}
