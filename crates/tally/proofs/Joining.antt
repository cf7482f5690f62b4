-- Joined weights over any lawful scale: of lists put together, and of what is added and taken back.
use Rattle.std.proofs.Common.{◌≡◌, List, [], ◌∷◌, ◌++◌, sym, ap, ◌∙◌}
use Rattle.tally.specs.declared.vote.Vote.{Vote}
use Rattle.tally.specs.Scale.{Scale, Group, joined, minus}

module _ {V : Type 0} (s : Scale V) (g : Group s) where
  pub left_unit : (a : V) → s.join s.neutral a ≡ a
  left_unit a = g.comm s.neutral a ∙ g.unit a

  -- two weights joined on the right change places
  pub aside : (a b c : V) → s.join (s.join a b) c ≡ s.join (s.join a c) b
  aside a b c = g.assoc a b c ∙ ap (s.join a) (g.comm b c) ∙ sym (g.assoc a c b)

  -- a weight and its inverse leave a value as it was
  pub back : (a c : V) → s.join (s.join a c) (s.inverse c) ≡ a
  back a c = g.assoc a c (s.inverse c) ∙ ap (s.join a) (g.undo c) ∙ g.unit a

  pub cancel : (a b c : V) → s.join a c ≡ s.join b c → a ≡ b
  cancel a b c e = sym (back a c) ∙ ap (λ (x : V). s.join x (s.inverse c)) e ∙ back b c

  -- what a weight was joined to is what the inverse gives
  pub taken : (a b c : V) → a ≡ s.join b c → b ≡ s.join a (s.inverse c)
  taken a b c e = sym (back b c) ∙ ap (λ (x : V). s.join x (s.inverse c)) (sym e)

  pub joined_append : (xs ys : List Vote) → joined s (xs ++ ys) ≡ s.join (joined s xs) (joined s ys)
  joined_append [] ys = sym (left_unit (joined s ys))
  joined_append (x ∷ xs) ys = ap (s.join (s.weight x)) (joined_append xs ys) ∙ sym (g.assoc (s.weight x) (joined s xs) (joined s ys))

  pub joined_push : (xs : List Vote) (v : Vote) → joined s (xs ++ v ∷ []) ≡ s.join (joined s xs) (s.weight v)
  joined_push xs v = joined_append xs (v ∷ []) ∙ ap (s.join (joined s xs)) (g.unit (s.weight v))

  -- one more vote is taken back
  pub taken_back : (a j : V) (v : Vote) → s.join (minus s a v) (s.join j (s.weight v)) ≡ s.join a j
  taken_back a j v =
      let w : V = s.weight v in
      sym (g.assoc (minus s a v) j w) ∙ aside (minus s a v) j w
      ∙ ap (λ (x : V). s.join x j) (aside a (s.inverse w) w ∙ back a w)
