-- What a striking with a taking back, and an entering with an adding, come to for the book.
use Rattle.std.proofs.Common.{◌≡◌, ℕ, ◌+◌, ◌<◌, Bool, true, cond, ◌&&◌, List, length, set, is_some, is_ok, Some, None, Ok, Err, Option, Result, sym, refl, ap, ◌∙◌, arith, lt-ltb}
use Rattle.std.specs.List.{slice_get}
use Rattle.std.specs.Str.{bytes_eq}
use Rattle.register.specs.declared.call.EnterRefusal.{EnterRefusal}
use Rattle.register.specs.Pairs.{Pair, look}
use Rattle.register.specs.Sets.{Struck, Entered, verdict}
use Rattle.register.specs.Runs.{view_of}
use Rattle.tally.specs.Scale.{Scale, Group, plus_all}
use Rattle.book.specs.Book.{Terms, Instruction, Situation, at, found, held, in_record}
use Rattle.book.specs.Orders.{lodged}
use Rattle.book.specs.Storage.{Filed}
use Rattle.book.specs.Moves.{Ending, Placing}
use Rattle.book.proofs.Filing.{Change, refiled, refound, staying, here}

module _ {V : Type 0} (scale : Scale V) (g : Group scale) (ps : List Pair) (v : V) (rs : List (Option Instruction)) (f : Filed scale (at (view_of ps) v rs)) where
  -- an instruction ends
  pub ended : (qs : List Pair) (w : V) (n : ℕ) (i : Instruction) (r : Option ℕ) → slice_get rs n ≡ Some (Some i) → Struck ps qs i.terms.reference r → v ≡ plus_all scale w i.terms.votes → Ending scale (at (view_of ps) v rs) n i (at (view_of qs) w (set rs n None))
  ended qs w n i r was struck value =
      let s : Situation V = at (view_of ps) v rs in
      let t : Situation V = at (view_of qs) w (set rs n None) in
      let had : look ps i.terms.reference ≡ Some n = f.paired.listed n i was in
      let fewer : length qs + 1 ≡ length ps = ap (λ (x : Option ℕ). length qs + cond (is_some x) 1 0) (sym (struck.answer ∙ had)) ∙ struck.size in
      let c : Change scale s t n i.terms.reference (Some i) None = record {
        was = was;
        had = had;
        of = refl;
        records = refl;
        pairs = struck.looks;
        of' = tt;
        many = omega arith;
        value = sym value ∙ sym (g.unit v);
      } in
      record {
        filed = refiled scale g s t n i.terms.reference (Some i) None f c;
        book = refound scale g s t n i.terms.reference (Some i) None f c;
        emptied = here scale g s t n i.terms.reference (Some i) None f c;
        fewer = fewer;
        stays = staying scale g s t n i.terms.reference (Some i) None f c;
      }

  -- what is not found is not in the register
  pub unnamed : (q : List ℕ) → found (at (view_of ps) v rs) q ≡ None → look ps q ≡ None
  unnamed q e = go (look ps q) refl
    where
      go : (o : Option ℕ) → look ps q ≡ o → o ≡ None
      go None w = refl
      go (Some n) w =
          let p = f.paired.filed q n w in
          let x : Some p.0 ≡ None = sym (ap (in_record rs) w ∙ ap held p.1) ∙ e in
          let z : ◌≡◌ {A = ℕ} 0 1 = cc in absurd (omega arith)

  module _ (room : ℕ) (qs : List Pair) (n : ℕ) (t : Terms) (r : Result (Unit {0}) EnterRefusal) (entered : Entered room ps qs t.reference n r) (un : found (at (view_of ps) v rs) t.reference ≡ None) (few : length ps < room) where
    -- there is room, so that the register accepts the pair
    pub accepted : is_ok r ≡ true
    accepted =
        let e : verdict room (look ps t.reference) (length ps) ≡ Ok tt = ap (λ (o : Option ℕ). verdict room o (length ps)) (unnamed t.reference un) ∙ ap (λ (b : Bool). cond b (Ok tt) (Err EnterRefusal.Full)) (lt-ltb (length ps) room few) in
        ap is_ok (entered.answer ∙ e)

    pub placed : (w : V) → slice_get rs n ≡ Some None → w ≡ plus_all scale v t.votes → Placing scale (at (view_of ps) v rs) t (at (view_of qs) w (set rs n (Some (lodged t))))
    placed w was value =
        let s : Situation V = at (view_of ps) v rs in
        let u : Situation V = at (view_of qs) w (set rs n (Some (lodged t))) in
        let more : length qs ≡ length ps + 1 = entered.size ∙ ap (λ (b : Bool). length ps + cond b 1 0) accepted in
        let c : Change scale s u n t.reference None (Some (lodged t)) = record {
          was = was;
          had = unnamed t.reference un;
          of = tt;
          records = refl;
          pairs = λ x. entered.looks x ∙ ap (λ (b : Bool). cond (b && bytes_eq t.reference x) (Some n) (look ps x)) accepted;
          of' = refl;
          many = omega arith;
          value = g.unit w ∙ value;
        } in
        record {
          filed = refiled scale g s u n t.reference None (Some (lodged t)) f c;
          book = refound scale g s u n t.reference None (Some (lodged t)) f c;
          stays = staying scale g s u n t.reference None (Some (lodged t)) f c;
        }
