-- The ways out of taking a message.
use Rattle.std.proofs.Common.{◌≡◌, ℕ, List, Some, None, Ok, Err, Option, Result, sym, ap, ◌∙◌, subst}
use Rattle.register.specs.declared.interface.Register as Register
use Rattle.tally.specs.declared.interface.Tally as Tally
use Rattle.message.specs.Said.{Said}
use Rattle.tally.specs.Scale.{Scale}
use Rattle.book.specs.declared.faults.BookFault.{BookFault}
use Rattle.book.specs.declared.desk.Desk.{Desk}
use Rattle.book.specs.Book.{Records, Situation, found}
use Rattle.book.specs.Orders.{Ordered}
use Rattle.book.specs.Questions.{Outcome, questions}
use Rattle.book.specs.Verdicts.{verdict, shared_in}
use Rattle.book.specs.Storage.{Acted}
use Rattle.book.specs.Desk.{room_for, shown, situation}
use Rattle.book.specs.Deeds.{Deed, deed_of}
use Rattle.meeting.specs.Notices.{Notice}
use Rattle.meeting.specs.Kept.{Kept}
use Rattle.meeting.specs.Messages.{about_message, message_fault, order_of}
use Rattle.meeting.specs.Taking.{about_order, all_questions, or_else, order_fault, take_fault, Leaves, Answers, TakesMessage, Taking}
use Rattle.meeting.proofs.Outcomes.{message_outcome, outcome_on, outcome_stop}

module _ {V : Type 0} (scale : Scale V) (n : Notice) (room : ℕ) (s : Situation V) (m : Said) (kept : Kept m) where
  -- refused by itself
  pub refused_alone : (f : BookFault) (t : Situation V) → message_fault n m ≡ Some f → t ≡ s → TakesMessage scale n room s m (Err f) t
  refused_alone f t e same = record {
    value = sym (ap (λ (x : Option BookFault). or_else x (order_fault room s (order_of m))) e);
    outcome = outcome_stop (about_message n m) (about_order (found s) s.view.size room (order_of m)) f (subst (Outcome (about_message n m)) e (message_outcome n m kept));
    answers = unit (order_of m);
    leaves = same;
  }
    where
      unit : (o : Option Ordered) → Answers o (Err f)
      unit None = tt
      unit (Some o) = tt

  module _ (o : Ordered) (good : message_fault n m ≡ None) (is : order_of m ≡ Some o) where
    fine : Outcome (about_message n m) None
    fine = subst (Outcome (about_message n m)) good (message_outcome n m kept)

    judged : (r : Option BookFault) → Outcome (questions (found s) s.view.size room o) r → Outcome (all_questions n room s m) r
    judged r k = outcome_on (about_message n m) (about_order (found s) s.view.size room (order_of m)) r fine (subst (λ (x : Option Ordered). Outcome (about_order (found s) s.view.size room x) r) (sym is) k)

    computed : take_fault n room s m ≡ verdict (found s) (shared_in s.records) s.view.size room o
    computed = ap (λ (x : Option BookFault). or_else x (order_fault room s (order_of m))) good ∙ ap (order_fault room s) is

    -- refused for what it orders
    pub refused_order : (f : BookFault) (t : Situation V) → Some f ≡ verdict (found s) (shared_in s.records) s.view.size room o → Outcome (questions (found s) s.view.size room o) (Some f) → t ≡ s → TakesMessage scale n room s m (Err f) t
    refused_order f t v k same = record {
      value = v ∙ sym computed;
      outcome = judged (Some f) k;
      answers = subst (λ (x : Option Ordered). Answers x (Err f)) (sym is) tt;
      leaves = same;
    }

    pub taken : (d : Deed) (t : Situation V) → None ≡ verdict (found s) (shared_in s.records) s.view.size room o → Outcome (questions (found s) s.view.size room o) None → d ≡ deed_of o → Acted scale s o t → TakesMessage scale n room s m (Ok d) t
    taken d t v k e a = record {
      value = v ∙ sym computed;
      outcome = judged None k;
      answers = subst (λ (x : Option Ordered). Answers x (Ok d)) (sym is) e;
      leaves = subst (λ (x : Option Ordered). Leaves scale s x None t) (sym is) a;
    }

-- what a desk has lent is given back as the desk leaves it
pub taken_back : {X Y : Type 0} (R : Register.Ghosts X) (T : Tally.Ghosts Y) (n : Notice) (entries number : ℕ) (text : List ℕ) (r : X) (t : Y) (rs : Records) (a : Result Deed BookFault) (d : Desk X Y) (r' : X) (t' : Y) (rs' : Records) → r' ≡ d.register.now → t' ≡ d.tally.now → rs' ≡ d.records.now
    → R.ordered d.register.now × Taking (T.scale t) n (room_for R r rs) entries (situation R T r t rs) number text a (shown R T d)
    → R.ordered r' × Taking (T.scale t) n (room_for R r rs) entries (situation R T r t rs) number text a (situation R T r' t' rs')
taken_back R T n entries number text r t rs a d r' t' rs' e₁ e₂ e₃ h = rw (e₁, e₂, e₃) h
