-- A vote that is read is one that is spelled, and back. Assumes nothing.
use Rattle.std.proofs.Common.{◌≡◌, ℕ, ◌^◌, ◌<◌, ◌≤◌, Bool, true, false, cond, List, [], ◌∷◌, ◌++◌, get_or, IfSome, Some, None, codes, decimal, Option, sym, refl, ap, ◌∙◌, subst, append-nil, arith}
use Rattle.std.proofs.lemmas.Fmt.{first_decimal}
use Rattle.std.proofs.lemmas.Bool.{ne_eqb, cond-true, cond-false}
use Rattle.format.specs.declared.votes.VoteKind.{VoteKind}
use Rattle.format.specs.declared.votes.VoteKind.TheVariants.{Ordinary, Cumulative}
use Rattle.format.specs.declared.votes.VoteAnswer.{VoteAnswer}
use Rattle.format.specs.declared.votes.VoteAnswer.TheVariants.{For, Against, Abstain}
use Rattle.format.specs.declared.votes.VoteText.{VoteText}
use Rattle.fields.specs.Characters.{begins}
use Rattle.format.specs.Texts.{or_else, after_word, stands_for}
use Rattle.format.specs.Numbers.{InDigits, number}
use Rattle.format.specs.Folding.{folded, unfolded, is_folded}
use Rattle.format.specs.Vote.{InCandidate, InVote, candidate_text, kind_text, answer_text, vote_flat, vote_spelled, given, read_candidate, subject_done, subject_candidate, subject_point, subject_number, read_subject, kind_word, read_kind, answer_word, read_answer, cast_done, cast_number, read_cast, vote_done, vote_cast, vote_answer, vote_kind, read_flat, read_vote}
use Rattle.format.specs.Laws.{Decoded, Once}
use Rattle.format.proofs.FoldLaws.{unfold_folded, is_folded_lem, fold_unfolded}
use Rattle.format.proofs.Steps.{Read, then_some, word_parts}
use Rattle.format.proofs.NumberLaws.{number_complete, found_then, word_right, number_right}
use Rattle.format.proofs.Decoding.{decoded, once}

candidate_complete : (c : Option ℕ) (t : List ℕ) → InCandidate c → read_candidate (candidate_text c ++ (47 ∷ t)) ≡ Some (c, 47 ∷ t)
candidate_complete None t h = refl
candidate_complete (Some n) t h =
    cond-false _ _ _ (by (decimal n) (first_decimal n (omega arith) (omega arith)))
    ∙ ap given (number_complete 2 n (47 ∷ t) (omega arith) (omega arith) (omega arith) (omega arith) refl)
  where
    by : (ds : List ℕ) → 48 < get_or ds 0 0 → begins 47 (ds ++ (47 ∷ t)) ≡ false
    by [] l = absurd (omega arith)
    by (d ∷ ds) l = ne_eqb d 47 (λ e. omega arith)

subject_complete : (q : ℕ) (c : Option ℕ) (t : List ℕ) → InDigits 2 q → InCandidate c
    → read_subject (codes "ISLB/" ++ (decimal q ++ (codes "." ++ (candidate_text c ++ (47 ∷ t))))) ≡ Some ((q, c), 47 ∷ t)
subject_complete q c t h k =
    sym (then_some subject_point (sym (number_complete 2 q (codes "." ++ (candidate_text c ++ (47 ∷ t))) (omega arith) (omega arith) (omega arith) (omega arith) refl))
    (then_some (subject_done q) (sym (candidate_complete c t k)) refl))

-- the kind and the answer, where `/TYPE/` and `/RSLT/` are read but once
pub kind_none : (s : List ℕ) → None ≡ after_word (codes "/TYPE/") s → None ≡ read_kind s
kind_none s e = let o = word_parts (codes "/TYPE/") (codes "ORDN") s in let m = word_parts (codes "/TYPE/") (codes "CMLT") s in rw (o, m, sym e) refl

pub kind_some : (s t : List ℕ) → Some t ≡ after_word (codes "/TYPE/") s → kind_word t ≡ read_kind s
kind_some s t e = let o = word_parts (codes "/TYPE/") (codes "ORDN") s in let m = word_parts (codes "/TYPE/") (codes "CMLT") s in rw (o, m, sym e) refl

pub answer_none : (s : List ℕ) → None ≡ after_word (codes "/RSLT/") s → None ≡ read_answer s
answer_none s e = let y = word_parts (codes "/RSLT/") (codes "CONY") s in let n = word_parts (codes "/RSLT/") (codes "CONN") s in let a = word_parts (codes "/RSLT/") (codes "ABST") s in rw (y, n, a, sym e) refl

pub answer_some : (s t : List ℕ) → Some t ≡ after_word (codes "/RSLT/") s → answer_word t ≡ read_answer s
answer_some s t e =
    let y = word_parts (codes "/RSLT/") (codes "CONY") s in
    let n = word_parts (codes "/RSLT/") (codes "CONN") s in
    let a = word_parts (codes "/RSLT/") (codes "ABST") s in
    rw (y, n, a, sym e) refl

kind_complete : (k : VoteKind) (t : List ℕ) → read_kind (codes "/TYPE/" ++ (kind_text k ++ t)) ≡ Some (k, t)
kind_complete Ordinary t = refl
kind_complete Cumulative t = refl

answer_complete : (a : VoteAnswer) (t : List ℕ) → read_answer (codes "/RSLT/" ++ (answer_text a ++ t)) ≡ Some (a, t)
answer_complete For t = refl
answer_complete Against t = refl
answer_complete Abstain t = refl

cast_complete : (n : ℕ) → InDigits 15 n → read_cast (codes "/QVTG/" ++ decimal n) ≡ Some n
cast_complete n h =
    sym (then_some cast_done (sym (ap (number 15) (sym (append-nil (decimal n))) ∙ number_complete 15 n [] (omega arith) (omega arith) (omega arith) (omega arith) refl)) refl)

flat_complete : (w : VoteText) → InVote w → read_flat (vote_flat w) ≡ Some w
flat_complete w h =
    sym (then_some vote_kind (sym (subject_complete w.question w.candidate _ h.0 h.1))
    (then_some (vote_answer (w.question, w.candidate)) (sym (kind_complete w.kind _))
    (then_some (vote_cast (w.question, w.candidate) w.kind) (sym (answer_complete w.answer _))
    (then_some (vote_done (w.question, w.candidate) w.kind w.answer) (sym (cast_complete w.quantity h.2)) refl))))

vote_complete : (w : VoteText) → InVote w → read_vote (vote_spelled w) ≡ Some w
vote_complete w h = cond-true _ _ None (is_folded_lem (vote_flat w)) ∙ ap read_flat (unfold_folded (vote_flat w)) ∙ flat_complete w h

candidate_right : (s : List ℕ) → IfSome (read_candidate s) (λ p. InCandidate p.0 × (s ≡ candidate_text p.0 ++ p.1))
candidate_right s = by (begins 47 s) (number 2 s) (number_right 2 s (omega arith) (omega arith))
  where
    by : (b : Bool) (o : Read) → IfSome o (λ p. InDigits 2 p.0 × (s ≡ decimal p.0 ++ p.1))
        → IfSome (cond {A = Option (Option ℕ × List ℕ)} b (Some (None, s)) (given o)) (λ p. InCandidate p.0 × (s ≡ candidate_text p.0 ++ p.1))
    by true o h = (tt, refl)
    by false None h = tt
    by false (Some p) h = h

abbrev Subject : List ℕ → (ℕ × Option ℕ) × List ℕ → Type 0
Subject s p =
    InDigits 2 p.0.0 × InCandidate p.0.1 × (s ≡ codes "ISLB/" ++ (decimal p.0.0 ++ (codes "." ++ (candidate_text p.0.1 ++ p.1))))

subject_right : (s : List ℕ) → IfSome (read_subject s) (Subject s)
subject_right s =
    found_then (after_word (codes "ISLB/") s) subject_number _ (Subject s) (word_right (codes "ISLB/") s) (λ t a.
    found_then (number 2 t) subject_point _ (Subject s) (number_right 2 t (omega arith) (omega arith)) (λ p b.
    found_then (after_word (codes ".") p.1) (subject_candidate p.0) _ (Subject s) (word_right (codes ".") p.1) (λ u d.
    found_then (read_candidate u) (subject_done p.0) _ (Subject s) (candidate_right u) (λ q e. (
      b.0,
      e.0,
      a ∙ ap (λ (x : List ℕ). codes "ISLB/" ++ x) (b.1 ∙ ap (λ (x : List ℕ). decimal p.0 ++ x) (d ∙ ap (λ (x : List ℕ). codes "." ++ x) e.1)),
    )))))

abbrev Kind : List ℕ → VoteKind × List ℕ → Type 0
Kind s p = s ≡ codes "/TYPE/" ++ (kind_text p.0 ++ p.1)

kind_right : (s : List ℕ) → IfSome (read_kind s) (Kind s)
kind_right s = by (after_word (codes "/TYPE/ORDN") s) (after_word (codes "/TYPE/CMLT") s) (word_right (codes "/TYPE/ORDN") s) (word_right (codes "/TYPE/CMLT") s)
  where
    by : (o p : Option (List ℕ)) → IfSome o (λ t. s ≡ codes "/TYPE/ORDN" ++ t) → IfSome p (λ t. s ≡ codes "/TYPE/CMLT" ++ t)
        → IfSome (or_else (stands_for Ordinary o) (stands_for Cumulative p)) (Kind s)
    by (Some t) p h k = h
    by None (Some t) h k = k
    by None None h k = tt

abbrev Answer : List ℕ → VoteAnswer × List ℕ → Type 0
Answer s p = s ≡ codes "/RSLT/" ++ (answer_text p.0 ++ p.1)

answer_right : (s : List ℕ) → IfSome (read_answer s) (Answer s)
answer_right s =
    by (after_word (codes "/RSLT/CONY") s) (after_word (codes "/RSLT/CONN") s) (after_word (codes "/RSLT/ABST") s)
    (word_right (codes "/RSLT/CONY") s) (word_right (codes "/RSLT/CONN") s) (word_right (codes "/RSLT/ABST") s)
  where
    by : (o p q : Option (List ℕ)) → IfSome o (λ t. s ≡ codes "/RSLT/CONY" ++ t) → IfSome p (λ t. s ≡ codes "/RSLT/CONN" ++ t)
        → IfSome q (λ t. s ≡ codes "/RSLT/ABST" ++ t) → IfSome (or_else (stands_for For o) (or_else (stands_for Against p) (stands_for Abstain q))) (Answer s)
    by (Some t) p q h k l = h
    by None (Some t) q h k l = k
    by None None (Some t) h k l = l
    by None None None h k l = tt

abbrev Cast : List ℕ → ℕ → Type 0
Cast s n = InDigits 15 n × (s ≡ codes "/QVTG/" ++ decimal n)

cast_right : (s : List ℕ) → IfSome (read_cast s) (Cast s)
cast_right s =
    found_then (after_word (codes "/QVTG/") s) cast_number _ (Cast s) (word_right (codes "/QVTG/") s) (λ t a.
    found_then (number 15 t) cast_done _ (Cast s) (number_right 15 t (omega arith) (omega arith)) (λ p b.
    by p.0 p.1 b.0 (a ∙ ap (λ (x : List ℕ). codes "/QVTG/" ++ x) b.1)))
  where
    by : (n : ℕ) (u : List ℕ) → InDigits 15 n → s ≡ codes "/QVTG/" ++ (decimal n ++ u) → IfSome (cast_done (n, u)) (Cast s)
    by n [] h e = (h, e ∙ ap (λ (x : List ℕ). codes "/QVTG/" ++ x) (append-nil (decimal n)))
    by n (x ∷ u) h e = tt

abbrev Flat : List ℕ → VoteText → Type 0
Flat s w = InVote w × (s ≡ vote_flat w)

flat_right : (s : List ℕ) → IfSome (read_flat s) (Flat s)
flat_right s =
    found_then (read_subject s) vote_kind _ (Flat s) (subject_right s) (λ p a.
    found_then (read_kind p.1) (vote_answer p.0) _ (Flat s) (kind_right p.1) (λ k b.
    found_then (read_answer k.1) (vote_cast p.0 k.0) _ (Flat s) (answer_right k.1) (λ r d.
    found_then (read_cast r.1) (vote_done p.0 k.0 r.0) _ (Flat s) (cast_right r.1) (λ n e. (
      (a.0, a.1, e.0),
      a.2
          ∙ ap (λ (x : List ℕ). codes "ISLB/" ++ (decimal p.0.0 ++ (codes "." ++ (candidate_text p.0.1 ++ x))))
          (b ∙ ap (λ (x : List ℕ). codes "/TYPE/" ++ (kind_text k.0 ++ x)) (d ∙ ap (λ (x : List ℕ). codes "/RSLT/" ++ (answer_text r.0 ++ x)) e.1)),
    )))))

vote_right : (v : List ℕ) → IfSome (read_vote v) (λ w. InVote w × (v ≡ vote_spelled w))
vote_right v = by (is_folded 35 v) refl (read_flat (unfolded 35 v)) (flat_right (unfolded 35 v))
  where
    by : (b : Bool) → is_folded 35 v ≡ b → (o : Option VoteText) → IfSome o (Flat (unfolded 35 v)) → IfSome (cond b o None) (λ w. InVote w × (v ≡ vote_spelled w))
    by true f None h = tt
    by true f (Some w) h = (h.0, fold_unfolded v f ∙ ap (folded 35) h.1)
    by false f o h = tt

pub vote_decoded : (v : List ℕ) (r : Option VoteText) → r ≡ read_vote v → Decoded InVote vote_spelled v r
vote_decoded = decoded InVote vote_spelled read_vote vote_right vote_complete

pub vote_once : Once InVote vote_spelled
vote_once = once InVote vote_spelled read_vote vote_complete

-- what is read is in range
pub vote_in : (v : List ℕ) (w : VoteText) → read_vote v ≡ Some w → InVote w
vote_in v w e = (vote_decoded v (Some w) (sym e)).0

pub vote_question : (v : List ℕ) (w : VoteText) → read_vote v ≡ Some w → (1 ≤ w.question) × (w.question ≤ 99)
vote_question v w e = let h = (vote_in v w e).0 in (h.0, omega (arith, h.1))

pub vote_candidate : (v : List ℕ) (w : VoteText) (n : ℕ) → read_vote v ≡ Some w → w.candidate ≡ Some n → (1 ≤ n) × (n ≤ 99)
vote_candidate v w n e c = let h : InDigits 2 n = subst InCandidate c (vote_in v w e).1 in (h.0, omega (arith, h.1))

pub vote_quantity : (v : List ℕ) (w : VoteText) → read_vote v ≡ Some w → (1 ≤ w.quantity) × (w.quantity < 10 ^ 15)
vote_quantity v w e = (vote_in v w e).2
