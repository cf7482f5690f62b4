-- What the belonging together of register, records and tally says of the instructions found standing.
use Rattle.std.proofs.Common.{◌≡◌, ℕ, List, [], length, Some, None, Option, sym, refl, ap, ◌∙◌, arith}
use Rattle.std.specs.List.{slice_get}
use Rattle.tally.specs.Scale.{Scale, joined}
use Rattle.book.specs.Book.{Instruction, Situation, found, held, in_record, instructions, ballots}
use Rattle.book.specs.Storage.{Filed}
use Rattle.meeting.specs.Opening.{Opened}
use Rattle.conduct.specs.Laws.{Counted, Sound}
use Rattle.conduct.proofs.Places.{rank, placed, source, none_in}
use Rattle.conduct.proofs.Histories.{nothing}

module _ {V : Type 0} (scale : Scale V) (s : Situation V) where
  module _ (f : Filed scale s) where
    -- what is found stands in the record that the register names
    pub found_where : (q : List ℕ) (i : Instruction) → found s q ≡ Some i → (n : ℕ) × (s.view.find q ≡ Some n) × (slice_get s.records n ≡ Some (Some i)) × (i.terms.reference ≡ q)
    found_where q i e = go (s.view.find q) refl
      where
        go : (o : Option ℕ) → s.view.find q ≡ o → (n : ℕ) × (s.view.find q ≡ Some n) × (slice_get s.records n ≡ Some (Some i)) × (i.terms.reference ≡ q)
        go None w = let x : found s q ≡ None = ap (in_record s.records) w in let z : ◌≡◌ {A = ℕ} 0 1 = cc in absurd (omega arith)
        go (Some n) w =
            let p = f.paired.filed q n w in
            let x : found s q ≡ Some p.0 = ap (in_record s.records) w ∙ ap held p.1 in
            let y : p.0 ≡ i = cc in
            (n, w, p.1 ∙ ap (λ (j : Instruction). Some (Some j)) y, sym (ap (λ (j : Instruction). j.terms.reference) y) ∙ p.2)

    -- what stands in a record is found under its reference
    pub found_there : (n : ℕ) (i : Instruction) → slice_get s.records n ≡ Some (Some i) → found s i.terms.reference ≡ Some i
    found_there n i e = ap (in_record s.records) (f.paired.listed n i e) ∙ ap held e

    pub counted : Counted scale s
    counted =
        record {
          standing = instructions s.records;
          each = λ q i e. let p = found_where q i e in (rank s.records p.0, placed s.records p.0 i p.2, p.3);
          only = λ k i e. let p = source s.records k i e in found_there p.0 i p.1;
          once = λ j k i h e g r.
              let p = source s.records j i e in
              let w = source s.records k h g in
              let a = f.paired.listed p.0 i p.1 in
              let b = f.paired.listed w.0 h w.1 in
              let same : Some p.0 ≡ Some w.0 = sym a ∙ ap s.view.find r ∙ b in
              let n : p.0 ≡ w.0 = cc in
              p.2 ∙ ap (rank s.records) n ∙ sym w.2;
          total = f.weighed;
        }

  module _ (o : Opened scale s) where
    none : (q : List ℕ) → found s q ≡ None
    none q = ap (in_record s.records) (o.unnamed q)

    pub filed_opened : Filed scale s
    filed_opened =
        record {
          paired = record {
            filed = λ q n e. let u = o.unnamed q in let z : ◌≡◌ {A = ℕ} 0 1 = cc in absurd (omega arith);
            listed = λ n i e. let w : Some i ≡ None = o.records n (Some i) e in let z : ◌≡◌ {A = ℕ} 0 1 = cc in absurd (omega arith);
            many = o.none ∙ sym (ap length (none_in s.records o.records));
          };
          weighed = o.value ∙ sym (ap (λ (is : List Instruction). joined scale (ballots is)) (none_in s.records o.records));
        }

    pub sound_opened : Sound scale s []
    sound_opened =
        record {
          counted = counted filed_opened;
          told = record {
            reasons = λ q i e. let u = none q in let z : ◌≡◌ {A = ℕ} 0 1 = cc in absurd (omega arith);
            shows = λ q t st. absurd (nothing st.before _ st.since st.order);
          };
          apart = λ p q i h e g r. let u = none p in let z : ◌≡◌ {A = ℕ} 0 1 = cc in absurd (omega arith);
        }
