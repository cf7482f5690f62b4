-- One record changes, with the pair of its reference: everything belongs together again, and one reference is found otherwise.
use Rattle.std.proofs.Common.{◌≡◌, ℕ, ◌+◌, List, length, set, Some, None, Option, sym, refl, ap, ◌∙◌, subst, inl, inr, arith, length-set}
use Rattle.std.specs.List.{slice_get}
use Rattle.std.proofs.lemmas.Bool.{cases_eq}
use Rattle.std.proofs.lemmas.Option.{slice_get_within}
use Rattle.tally.specs.Scale.{Scale, Group}
use Rattle.tally.proofs.Joining.{cancel}
use Rattle.book.specs.Keyed.{put}
use Rattle.book.specs.Book.{Instruction, Situation, found, held, in_record, instructions}
use Rattle.book.specs.Storage.{Filed, Staying}
use Rattle.book.proofs.Keys.{cases_text, put_here, put_apart}
use Rattle.book.proofs.Places.{nth_set_here, nth_set_apart}
use Rattle.book.proofs.Weights.{size_of, weigh, total, count_set, total_set}

-- the record number that the register has for an instruction, or for none
abbrev pub number_of : ℕ → Option Instruction → Option ℕ
number_of n None = None
number_of n (Some i) = Some n

abbrev pub Refers : List ℕ → Option Instruction → Type 0
Refers q None = Unit {0}
Refers q (Some i) = i.terms.reference ≡ q

-- before and after a change of record n, which is that of the reference q
pub record Change {V : Type 0} (scale : Scale V) (s t : Situation V) (n : ℕ) (q : List ℕ) (o o' : Option Instruction) : Type 0 where
  pub was : slice_get s.records n ≡ Some o
  pub had : s.view.find q ≡ number_of n o
  pub of : Refers q o
  pub records : t.records ≡ set s.records n o'
  pub pairs : (x : List ℕ) → t.view.find x ≡ put s.view.find q (number_of n o') x
  pub of' : Refers q o'
  pub many : t.view.size + size_of o ≡ s.view.size + size_of o'
  pub value : scale.join t.value (weigh scale o) ≡ scale.join s.value (weigh scale o')

refers : (q : List ℕ) (o : Option Instruction) (j : Instruction) → Refers q o → o ≡ Some j → j.terms.reference ≡ q
refers q None j r e = let z : ◌≡◌ {A = ℕ} 0 1 = cc in absurd (omega arith)
refers q (Some i) j r e = let w : i ≡ j = cc in sym (ap (λ (x : Instruction). x.terms.reference) w) ∙ r

numbers : (n m : ℕ) (o : Option Instruction) → number_of n o ≡ Some m → (m ≡ n) × ((i : Instruction) × (o ≡ Some i))
numbers n m None e = let z : ◌≡◌ {A = ℕ} 0 1 = cc in absurd (omega arith)
numbers n m (Some i) e = ((cc), (i, refl))

module _ {V : Type 0} (scale : Scale V) (g : Group scale) (s t : Situation V) (n : ℕ) (q : List ℕ) (o o' : Option Instruction) (f : Filed scale s) (c : Change scale s t n q o o') where
  pub here : slice_get t.records n ≡ Some o'
  here = ap (λ (rs : List (Option Instruction)). slice_get rs n) c.records ∙ nth_set_here s.records n o' (slice_get_within s.records n o c.was)

  elsewhere : (m : ℕ) → (m ≡ n → ⊥) → slice_get t.records m ≡ slice_get s.records m
  elsewhere m h = ap (λ (rs : List (Option Instruction)). slice_get rs m) c.records ∙ nth_set_apart s.records n m o' h

  named_here : t.view.find q ≡ number_of n o'
  named_here = c.pairs q ∙ put_here s.view.find q (number_of n o')

  named_elsewhere : (x : List ℕ) → (x ≡ q → ⊥) → t.view.find x ≡ s.view.find x
  named_elsewhere x h = c.pairs x ∙ put_apart s.view.find q (number_of n o') x h

  -- another reference names another record
  other_record : (x : List ℕ) (m : ℕ) → (x ≡ q → ⊥) → s.view.find x ≡ Some m → m ≡ n → ⊥
  other_record x m h e d =
      let p = f.paired.filed x m e in
      let w : Some o ≡ Some (Some p.0) = sym c.was ∙ ap (slice_get s.records) (sym d) ∙ p.1 in
      let v : o ≡ Some p.0 = cc in
      h (sym p.2 ∙ refers q o p.0 c.of v)

  filed : (x : List ℕ) (m : ℕ) → t.view.find x ≡ Some m → (i : Instruction) × (slice_get t.records m ≡ Some (Some i)) × (i.terms.reference ≡ x)
  filed x m e = elim (cases_text x q) [
    | inl same ↦
        let w : number_of n o' ≡ Some m = sym named_here ∙ ap t.view.find (sym same) ∙ e in
        let p = numbers n m o' w in
        let i : Instruction = p.1.0 in
        let oi : o' ≡ Some i = p.1.1 in
        (i, ap (slice_get t.records) p.0 ∙ here ∙ ap {B = Option (Option Instruction)} Some oi, subst (Refers q) oi c.of' ∙ sym same)
    | inr other ↦
        let w = sym (named_elsewhere x other) ∙ e in
        let p = f.paired.filed x m w in
        (p.0, elsewhere m (other_record x m other w) ∙ p.1, p.2)
  ]

  listed : (m : ℕ) (i : Instruction) → slice_get t.records m ≡ Some (Some i) → t.view.find i.terms.reference ≡ Some m
  listed m i e = elim (cases_eq m n) [
    | inl same ↦
        let w : Some o' ≡ Some (Some i) = sym here ∙ ap (slice_get t.records) (sym same) ∙ e in
        let v : o' ≡ Some i = cc in
        let r = refers q o' i c.of' v in
        ap t.view.find r ∙ named_here ∙ ap (number_of n) v ∙ ap {B = Option ℕ} Some (sym same)
    | inr other ↦
        let w = f.paired.listed m i (sym (elsewhere m other) ∙ e) in
        named_elsewhere i.terms.reference (λ d.
        let v : number_of n o ≡ Some m = sym c.had ∙ ap s.view.find (sym d) ∙ w in
        other (numbers n m o v).0) ∙ w
  ]

  pub refiled : Filed scale t
  refiled = record {
    paired = record {
      filed = filed;
      listed = listed;
      many =
          let a = count_set s.records n o o' c.was in
          let b = f.paired.many in
          let d = c.many in
          let e = ap (λ (rs : List (Option Instruction)). length (instructions rs)) c.records in
          omega arith;
    };
    weighed = cancel scale g t.value (total scale t.records) (weigh scale o)
        (c.value ∙ ap (λ (v : V). scale.join v (weigh scale o')) f.weighed ∙ sym (total_set scale g s.records n o o' c.was) ∙ ap (λ (rs : List (Option Instruction)). scale.join (total scale rs) (weigh scale o)) (sym c.records));
  }

  pub refound : (x : List ℕ) → found t x ≡ put (found s) q o' x
  refound x = elim (cases_text x q) [
    | inl same ↦ ap (found t) same ∙ ap (in_record t.records) named_here ∙ now' o' here ∙ sym (put_here (found s) q o') ∙ ap (put (found s) q o') (sym same)
    | inr other ↦ ap (in_record t.records) (named_elsewhere x other) ∙ rest other (s.view.find x) refl ∙ sym (put_apart (found s) q o' x other)
  ]
    where
      now' : (y : Option Instruction) → slice_get t.records n ≡ Some y → in_record t.records (number_of n y) ≡ y
      now' None e = refl
      now' (Some i) e = ap held e

      rest : (x ≡ q → ⊥) → (y : Option ℕ) → s.view.find x ≡ y → in_record t.records y ≡ in_record s.records y
      rest other None e = refl
      rest other (Some m) e = ap held (elsewhere m (other_record x m other e))

  pub staying : Staying s t
  staying = record {
    keeps = λ x m e l. elim (cases_text x q) [
      | inl same ↦
          let w : number_of n o ≡ Some m = sym c.had ∙ ap s.view.find (sym same) ∙ e in
          let d = (numbers n m o w).0 in
          ap t.view.find same ∙ named_here ∙ kept o' refl (λ z. l (refound x ∙ ap (put (found s) q o') same ∙ put_here (found s) q o' ∙ z)) ∙ ap {B = Option ℕ} Some (sym d)
      | inr other ↦ named_elsewhere x other ∙ e
    ];
    size = ap length c.records ∙ length-set s.records n o';
  }
    where
      kept : (y : Option Instruction) → o' ≡ y → (o' ≡ None → ⊥) → number_of n y ≡ Some n
      kept None e h = absurd (h e)
      kept (Some i) e h = refl
