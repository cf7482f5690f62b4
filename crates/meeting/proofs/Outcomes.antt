-- The fault of a message by itself is the first question about it that is answered no.
use Rattle.std.proofs.Common.{◌≡◌, ℕ, min, Bool, true, false, cond, ◌&&◌, eqb, leb, List, [], ◌∷◌, ◌++◌, length, Some, None, Decides, Option, refl, inl, inr, arith}
use Rattle.std.specs.Str.{bytes_eq}
use Rattle.std.proofs.lemmas.Bool.{eqb-true, eqb-false, leb-true, leb-false}
use Rattle.std.proofs.lemmas.Slice.Eq.{bytes_eq-Decides}
use Rattle.std.proofs.lemmas.Bool.Decides.{Decides-and}
use Rattle.message.specs.Instructions.{RightsText}
use Rattle.message.specs.declared.instruction.Function.{Function}
use Rattle.message.specs.declared.instruction.Function.TheVariants.{New, Cancel}
use Rattle.message.specs.declared.status.Process.{Process}
use Rattle.message.specs.declared.status.Process.TheVariants.{Instruction, Cancellation}
use Rattle.message.specs.Said.{Said, SaidInstruction, SaidStatus}
use Rattle.message.specs.Said.Said.{instructs, reports}
use Rattle.agenda.specs.Casting.{cast_votes, bad_vote, VotesJudged}
use Rattle.agenda.specs.Sums.{unbalanced, SumsJudged}
use Rattle.agenda.proofs.CastingLaws.{votes_judged}
use Rattle.agenda.proofs.SumLaws.{all_judged}
use Rattle.book.specs.declared.faults.BookFault.{BookFault}
use Rattle.book.specs.declared.faults.BookFault.TheVariants.{Event, Content, Vote, Sum}
use Rattle.book.specs.Questions.{Question, ask, Outcome}
use Rattle.book.proofs.Verdict.{clash, differ}
use Rattle.meeting.specs.Notices.{Notice}
use Rattle.meeting.specs.Messages.{Purpose, purpose_of, form_with, form, InForm, votes_question, sums_question, about_message, votes_fault, form_fault, instruction_fault, same_process, status_fault, message_fault}
use Rattle.meeting.specs.Messages.Purpose.{lodges, cancels}
use Rattle.meeting.specs.Kept.{Kept}

-- an instruction is in form exactly where its form is found
abbrev Formed : SaidInstruction → Option (RightsText × Purpose) → Type 0
Formed m None = InForm m → ⊥
Formed m (Some f) = InForm m

pub formed : (m : SaidInstruction) → Formed m (form m)
formed m = by (eqb m.quantity m.holding) refl m.rights refl m.function refl m.previous refl
  where
    new : (r : RightsText) → m.rights ≡ Some r → m.quantity ≡ m.holding → m.function ≡ New → (p : Option (List ℕ)) (l : Bool) → leb 1 m.count ≡ l → Formed m (form_with true (Some r) (cond l (Some (lodges p)) None))
    new r k w f p true h = record { rights = (r, k); quantity = w; new = λ e. leb-true 1 m.count h; cancel = λ e. let z : ◌≡◌ {A = ℕ} 0 1 = cc in absurd (omega arith) }
    new r k w f p false h = λ i. let a = i.new f in let b = leb-false 1 m.count h in omega arith

    cancel : (r : RightsText) → m.rights ≡ Some r → m.quantity ≡ m.holding → m.function ≡ Cancel → (p : List ℕ) → m.previous ≡ Some p → (l : Bool) → eqb m.count 0 ≡ l → Formed m (form_with true (Some r) (cond l (Some (cancels p)) None))
    cancel r k w f p g true h = record { rights = (r, k); quantity = w; new = λ e. let z : ◌≡◌ {A = ℕ} 0 1 = cc in absurd (omega arith); cancel = λ e. ((p, g), eqb-true m.count 0 h) }
    cancel r k w f p g false h = λ i. eqb-false m.count 0 h (i.cancel f).1

    by : (w : Bool) → eqb m.quantity m.holding ≡ w → (rs : Option RightsText) → m.rights ≡ rs → (fn : Function) → m.function ≡ fn → (pv : Option (List ℕ)) → m.previous ≡ pv → Formed m (form_with w rs (purpose_of fn pv m.count))
    by false w rs k fn f pv g = λ i. eqb-false m.quantity m.holding w i.quantity
    by true w None k fn f pv g = λ i. clash i.rights.1 k
    by true w (Some r) k New f pv g = new r k (eqb-true m.quantity m.holding w) f pv (leb 1 m.count) refl
    by true w (Some r) k Cancel f None g = λ i. clash (i.cancel f).0.1 g
    by true w (Some r) k Cancel f (Some p) g = cancel r k (eqb-true m.quantity m.holding w) f p g (eqb m.count 0) refl

same_process_lem : (a b : Process) → Decides (same_process a b) (a ≡ b)
same_process_lem Instruction Instruction = ((λ e. refl), (λ e. refl))
same_process_lem Instruction Cancellation = ((λ e. let z : ◌≡◌ {A = ℕ} 0 1 = cc in absurd (omega arith)), (λ e. let z : ◌≡◌ {A = ℕ} 0 1 = cc in absurd (omega arith)))
same_process_lem Cancellation Instruction = ((λ e. let z : ◌≡◌ {A = ℕ} 0 1 = cc in absurd (omega arith)), (λ e. let z : ◌≡◌ {A = ℕ} 0 1 = cc in absurd (omega arith)))
same_process_lem Cancellation Cancellation = ((λ e. refl), (λ e. refl))

module _ (n : Notice) where
  votes_outcome : (m : SaidInstruction) → length m.votes ≡ min m.count 64 → Outcome (votes_question n m ∷ sums_question n m ∷ []) (votes_fault (bad_vote n.agenda m.votes m.count) (unbalanced n.agenda m.holding (cast_votes m.votes)))
  votes_outcome m kept =
      by (bad_vote n.agenda m.votes m.count) (votes_judged n.agenda m.votes m.count kept)
      (unbalanced n.agenda m.holding (cast_votes m.votes)) (all_judged n.agenda m.holding (cast_votes m.votes) (cast_votes m.votes) (unbalanced n.agenda m.holding (cast_votes m.votes)) refl refl).1
    where
      by : (v : Option ℕ) → VotesJudged n.agenda m.votes m.count v → (u : Option ℕ) → SumsJudged n.agenda m.holding (cast_votes m.votes) u → Outcome (votes_question n m ∷ sums_question n m ∷ []) (votes_fault v u)
      by (Some k) v u s = inr (Vote k, (k, v, refl), refl)
      by None v (Some q) s = inl (v, inr (Sum q, (q, s, refl), refl))
      by None v None s = inl (v, inl (s, refl))

  instruction_outcome : (m : SaidInstruction) → Kept (instructs m) → Outcome (about_message n (instructs m)) (instruction_fault n m)
  instruction_outcome m kept = by (bytes_eq m.event n.event && bytes_eq m.isin n.isin) (Decides-and (bytes_eq m.event n.event) (bytes_eq m.isin n.isin) (bytes_eq-Decides m.event n.event) (bytes_eq-Decides m.isin n.isin))
    where
      form_outcome : (f : Option (RightsText × Purpose)) → Formed m f → Outcome (ask Content (InForm m) ∷ votes_question n m ∷ sums_question n m ∷ []) (form_fault n m f)
      form_outcome None k = inr (Content, (k, refl), refl)
      form_outcome (Some f) k = inl (k, votes_outcome m kept)

      by : (b : Bool) → Decides b ((m.event ≡ n.event) × (m.isin ≡ n.isin)) → Outcome (about_message n (instructs m)) (cond b (form_fault n m (form m)) (Some Event))
      by true d = inl (d.0 refl, form_outcome (form m) (formed m))
      by false d = inr (Event, ((λ e. differ (d.1 e) refl), refl), refl)

  status_outcome : (s : SaidStatus) → Outcome (about_message n (reports s)) (status_fault n s)
  status_outcome s = by (bytes_eq s.event n.event) (bytes_eq-Decides s.event n.event) (same_process s.process s.function) (same_process_lem s.process s.function) s.agree refl
    where
      by : (b : Bool) → Decides b (s.event ≡ n.event) → (p : Bool) → Decides p (s.process ≡ s.function) → (a : Bool) → s.agree ≡ a → Outcome (about_message n (reports s)) (cond b (cond (p && a) None (Some Content)) (Some Event))
      by false d p e a h = inr (Event, ((λ k. differ (d.1 k) refl), refl), refl)
      by true d false e a h = inl (d.0 refl, inr (Content, ((λ k. differ (e.1 k.process) refl), refl), refl))
      by true d true e false h = inl (d.0 refl, inr (Content, ((λ k. differ k.reasons h), refl), refl))
      by true d true e true h = inl (d.0 refl, inl (record { process = e.0 refl; reasons = h }, refl))

  pub message_outcome : (m : Said) → Kept m → Outcome (about_message n m) (message_fault n m)
  message_outcome (instructs m) kept = instruction_outcome m kept
  message_outcome (reports s) kept = status_outcome s

-- questions put after others
pub outcome_on : (qs ps : List Question) (r : Option BookFault) → Outcome qs None → Outcome ps r → Outcome (qs ++ ps) r
outcome_on [] ps r a b = b
outcome_on (q ∷ qs) ps r (inl a) b = inl (a.0, outcome_on qs ps r a.1 b)
outcome_on (q ∷ qs) ps r (inr a) b = let w = a.2 in let z : ◌≡◌ {A = ℕ} 0 1 = cc in absurd (omega arith)

-- and questions that are not put, where one before them is answered no
pub outcome_stop : (qs ps : List Question) (f : BookFault) → Outcome qs (Some f) → Outcome (qs ++ ps) (Some f)
outcome_stop [] ps f a = let z : ◌≡◌ {A = ℕ} 0 1 = cc in absurd (omega arith)
outcome_stop (q ∷ qs) ps f (inl a) = inl (a.0, outcome_stop qs ps f a.1)
outcome_stop (q ∷ qs) ps f (inr a) = inr a
