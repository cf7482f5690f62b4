-- The votes that are kept: the first 64 of all. Assumes nothing.
use Rattle.std.proofs.Common.{◌≡◌, ℕ, zero, suc, ◌+◌, ◌<◌, ◌≤◌, List, [], ◌∷◌, ◌++◌, length, get_or, take, drop, Some, None, Ok, Err, Option, Result, IsOk, OnOk, OnErr, ◌↔◌, ◌⊎◌, sym, refl, ap, ◌∙◌, ap₂, inl, inr, arith}
use Rattle.std.specs.Option.{option_map}
use Rattle.std.proofs.lemmas.List.{append_assoc, append-nil, length-append, take_all, take_at}
use Rattle.std.proofs.lemmas.Bool.{cases_lt, false≢true}
use Rattle.format.specs.declared.votes.VoteText.{VoteText}
use Rattle.format.specs.Texts.{and_then}
use Rattle.reader.specs.declared.table.Entry.{Entry}
use Rattle.short.specs.Short.{Short}
use Rattle.message.specs.declared.instruction.GivenVotes.{GivenVotes}
use Rattle.message.specs.Instructions.{given_votes}
use Rattle.message.specs.Values.{value_at, values_of}
use Rattle.message.specs.Voting.{vote_of, votes_of, counted, kept_and_count}
use Rattle.message.proofs.Lookup.{values_here, values_on, values_end}

-- the votes that are kept when one comes behind them, and whether there was room for it
pub kept_more : {T E : Type 0} (g : GivenVotes) (kept : Short VoteText) (w : VoteText) (r : Result T E) → (IsOk r ↔ (length g.kept.items < 64))
    → OnOk r (kept.items ≡ g.kept.items ++ w ∷ []) → OnErr r (kept ≡ g.kept) → kept.items ≡ take 64 (g.kept.items ++ w ∷ [])
kept_more g kept w (Ok x) room ok err =
    let few : length g.kept.items < 64 = room.0 refl in
    let fits : length (g.kept.items ++ w ∷ []) ≤ 64 = simp length-append (omega arith) in
    ok ∙ sym (take_all 64 (g.kept.items ++ w ∷ []) fits)
kept_more g kept w (Err e) room ok err =
    let full : length g.kept.items ≡ 64 = by (cases_lt (length g.kept.items) 64) in
    ap (λ (s : Short VoteText). s.items) err ∙ sym (take_at g.kept.items (w ∷ []) 64 full)
  where
    by : (length g.kept.items < 64) ⊎ (64 ≤ length g.kept.items) → length g.kept.items ≡ 64
    by (inl h) = absurd (false≢true (room.1 h))
    by (inr h) = omega (arith, g.first)

-- the votes so far, and then more
abbrev pub onward : GivenVotes → List VoteText → List VoteText × ℕ
onward g ws = (take 64 (given_votes g ++ ws), g.count + length ws)

take_again : {A : Type 0} (n : ℕ) (a b : List A) → take n (take n a ++ b) ≡ take n (a ++ b)
take_again zero a b = refl
take_again (suc n) [] b = refl
take_again {A} (suc n) (x ∷ a) b = ap (λ (l : List A). x ∷ l) (take_again n a b)

same_mapped : {A B : Type 0} (f g : A → B) → ((x : A) → f x ≡ g x) → (o : Option A) → option_map f o ≡ option_map g o
same_mapped f g h None = refl
same_mapped {A} {B} f g h (Some x) = ap {B = Option B} (λ (y : B). Some y) (h x)

same_pair : {a c : List VoteText} {b d : ℕ} → a ≡ c → b ≡ d → ◌≡◌ {A = List VoteText × ℕ} (a, b) (c, d)
same_pair p q = ap₂ {C = List VoteText × ℕ} (λ (x : List VoteText) (y : ℕ). (x, y)) p q

module _ (text : List ℕ) (es : List Entry) (row : ℕ) where
  abbrev rest : ℕ → Option (List VoteText)
  rest i = votes_of (values_of text (drop i es) row)

  pub votes_start : (g : GivenVotes) → given_votes g ≡ [] → g.count ≡ 0 → option_map counted (rest 0) ≡ option_map (onward g) (rest 0)
  votes_start g p q = same_mapped counted (onward g) (λ ws. same_pair (rw p refl) (rw q (omega arith))) (rest 0)

  module _ (i : ℕ) (d : Entry) (here : i < length es) where
    -- an entry that has a vote
    pub votes_here : (g h : GivenVotes) (w : VoteText) → (get_or es i d).row ≡ row → Some w ≡ vote_of (value_at text (get_or es i d))
        → given_votes h ≡ take 64 (given_votes g ++ w ∷ []) → h.count ≡ g.count + 1
        → option_map (onward g) (rest i) ≡ option_map (onward h) (rest (i + 1))
    votes_here g h w r e p q =
        ap (λ (l : List (List ℕ)). option_map (onward g) (votes_of l)) (values_here text es row i d here r)
        ∙ ap (λ (o : Option VoteText). option_map (onward g) (and_then o (λ w. option_map (λ ws. w ∷ ws) (rest (i + 1))))) (sym e)
        ∙ by (rest (i + 1))
      where
        each : (ws : List VoteText) → onward g (w ∷ ws) ≡ onward h ws
        each ws =
            same_pair (ap (take 64) (sym (append_assoc (given_votes g) (w ∷ []) ws)) ∙ sym (take_again 64 (given_votes g ++ w ∷ []) ws)
            ∙ ap (λ (l : List VoteText). take 64 (l ++ ws)) (sym p)) (omega arith)

        by : (o : Option (List VoteText)) → option_map (onward g) (option_map (λ ws. w ∷ ws) o) ≡ option_map (onward h) o
        by None = refl
        by (Some ws) = ap {B = Option (List VoteText × ℕ)} (λ (y : List VoteText × ℕ). Some y) (each ws)

    -- one that has none
    pub votes_none : (g : GivenVotes) → (get_or es i d).row ≡ row → None ≡ vote_of (value_at text (get_or es i d)) → option_map (onward g) (rest i) ≡ None
    votes_none g r e =
        ap (λ (l : List (List ℕ)). option_map (onward g) (votes_of l)) (values_here text es row i d here r)
        ∙ ap (λ (o : Option VoteText). option_map (onward g) (and_then o (λ w. option_map (λ ws. w ∷ ws) (rest (i + 1))))) (sym e)

    -- and one of another row
    pub votes_on_lem : (g : GivenVotes) → ((get_or es i d).row ≡ row → ⊥) → option_map (onward g) (rest i) ≡ option_map (onward g) (rest (i + 1))
    votes_on_lem g r = ap (λ (l : List (List ℕ)). option_map (onward g) (votes_of l)) (values_on text es row i d here r)

  pub votes_end : (g : GivenVotes) (i : ℕ) → length es ≤ i → option_map (onward g) (rest i) ≡ Some (kept_and_count g)
  votes_end g i h =
      let few : length (given_votes g) ≤ 64 = omega (arith, g.first) in
      ap (λ (l : List (List ℕ)). option_map (onward g) (votes_of l)) (values_end text es row i h)
      ∙ ap {B = Option (List VoteText × ℕ)} (λ (y : List VoteText × ℕ). Some y)
      (same_pair (ap (take 64) (append-nil (given_votes g)) ∙ take_all 64 (given_votes g) few) (omega arith))
