-- What carrying out an order comes to for the book.
use Rattle.std.proofs.Common.{◌≡◌, ℕ, ◌+◌, cond, ◌⊎◌, List, set, Some, None, Option, sym, ap, ◌∙◌, inl, inr, arith}
use Rattle.std.specs.List.{slice_get}
use Rattle.std.specs.Str.{bytes_eq}
use Rattle.tally.specs.Scale.{Scale, Group, joined}
use Rattle.book.specs.declared.record.State.{State}
use Rattle.book.specs.declared.faults.BookFault.{BookFault}
use Rattle.book.specs.Keyed.{put}
use Rattle.book.specs.Book.{Terms, Instruction, Situation, found, held, in_record}
use Rattle.book.specs.Orders.{Ordered, lodged, after}
use Rattle.book.specs.Orders.Ordered.{lodge}
use Rattle.book.specs.Storage.{Filed, Acted}
use Rattle.book.specs.Acting.{restated}
use Rattle.book.specs.Moves.{Ending, Placing}
use Rattle.book.proofs.Keys.{cases_text, put_here, put_apart}
use Rattle.book.proofs.Filing.{Change, refiled, refound, staying}

-- where nothing is refused, the first question is answered yes, and so on
pub yes_to : {P : Type 0} {Q : BookFault → Type 0} → P ⊎ ((f : BookFault) × Q f × (◌≡◌ {A = Option BookFault} None (Some f))) → P
yes_to (inl p) = p
yes_to (inr p) = let w = p.2 in let z : ◌≡◌ {A = ℕ} 0 1 = cc in absurd (omega arith)

module _ {V : Type 0} (scale : Scale V) (g : Group scale) (s : Situation V) (f : Filed scale s) where
  -- the instruction that a reference leads to is found, and has that reference
  pub leads : (q : List ℕ) (n : ℕ) → s.view.find q ≡ Some n → (i : Instruction) × (slice_get s.records n ≡ Some (Some i)) × (i.terms.reference ≡ q) × (found s q ≡ Some i)
  leads q n e =
      let p = f.paired.filed q n e in
      (p.0, p.1, p.2, ap (in_record s.records) e ∙ ap held p.1)

  pub restated_acted : (q : List ℕ) (n : ℕ) (i : Instruction) (state : State) (o : Ordered) (t : Situation V) → s.view.find q ≡ Some n → slice_get s.records n ≡ Some (Some i) → i.terms.reference ≡ q → ((x : List ℕ) → after (found s) o x ≡ put (found s) q (Some (restated state i)) x) → t.view ≡ s.view → t.value ≡ s.value → t.records ≡ set s.records n (Some (restated state i)) → Acted scale s o t
  restated_acted q n i state o t had was ref is views values rs =
      let i' : Instruction = restated state i in
      let c : Change scale s t n q (Some i) (Some i') = record {
        was = was;
        had = had;
        of = ref;
        records = rs;
        pairs = λ x. ap (λ (w : Rattle.register.specs.Runs.View). w.find x) views ∙ sym (same_put x);
        of' = ref;
        many = ap (λ (w : Rattle.register.specs.Runs.View). w.size + 1) views;
        value = ap (λ (v : V). scale.join v (joined scale i.terms.votes)) values;
      } in
      record {
        filed = refiled scale g s t n q (Some i) (Some i') f c;
        book = λ x. refound scale g s t n q (Some i) (Some i') f c x ∙ sym (is x);
        stays = staying scale g s t n q (Some i) (Some i') f c;
      }
    where
      same_put : (x : List ℕ) → put s.view.find q (Some n) x ≡ s.view.find x
      same_put x = elim (cases_text x q) [
        | inl e ↦ ap (put s.view.find q (Some n)) e ∙ put_here s.view.find q (Some n) ∙ sym had ∙ ap s.view.find (sym e)
        | inr d ↦ put_apart s.view.find q (Some n) x d
      ]

  pub ended_acted : (q : List ℕ) (n : ℕ) (i : Instruction) (o : Ordered) (t : Situation V) → i.terms.reference ≡ q → ((x : List ℕ) → after (found s) o x ≡ put (found s) q None x) → Ending scale s n i t → Acted scale s o t
  ended_acted q n i o t ref is e = record {
    filed = e.filed;
    book = λ x. e.book x ∙ ap (λ (y : List ℕ). put (found s) y None x) ref ∙ sym (is x);
    stays = e.stays;
  }

  -- a new instruction in the place of another
  module _ (terms : Terms) (q : List ℕ) (n : ℕ) (i : Instruction) (t u : Situation V) (ref : i.terms.reference ≡ q) (here : found s q ≡ Some i) (un : found s terms.reference ≡ None) (e : Ending scale s n i t) where
    pub gone : found t terms.reference ≡ None
    gone = e.book terms.reference ∙ put_apart (found s) i.terms.reference None terms.reference (λ d.
        let w : found s terms.reference ≡ Some i = ap (found s) (d ∙ ref) ∙ here in
        let z : ◌≡◌ {A = ℕ} 0 1 = cc in omega arith) ∙ un

    pub replaced_acted : Placing scale t terms u → Acted scale s (lodge terms (Some q)) u
    replaced_acted p = record {
      filed = p.filed;
      book = λ x. p.book x ∙ ap (λ (y : Option Instruction). cond (bytes_eq terms.reference x) (Some (lodged terms)) y) (e.book x ∙ ap (λ (y : List ℕ). put (found s) y None x) ref);
      stays = record {
        keeps = λ x k w z. elim (cases_text x terms.reference) [
          | inl same ↦
              let a = leads terms.reference k (ap s.view.find (sym same) ∙ w) in
              let b = a.3 in
              let z' : ◌≡◌ {A = ℕ} 0 1 = cc in absurd (omega arith)
          | inr other ↦ p.stays.keeps x k (e.stays.keeps x k w (λ y. z (p.book x ∙ put_apart (found t) terms.reference (Some (lodged terms)) x other ∙ y))) z
        ];
        size = p.stays.size ∙ e.stays.size;
      };
    }
