-- What a tally weighs by: the weight of each vote, and how weights are joined. Assumes nothing.
use Rattle.std.specs.Prelude.{◌≡◌, List, [], ◌∷◌}
use Rattle.tally.specs.declared.vote.Vote.{Vote}

-- weights are values of one type V
pub record Scale (V : Type 0) : Type 0 where
  pub weight : Vote → V
  pub join : V → V → V
  pub neutral : V
  pub inverse : V → V

-- joining is associative and commutative, and has the neutral value and inverses
pub record Group {V : Type 0} (s : Scale V) : Type 0 where
  pub assoc : (a b c : V) → s.join (s.join a b) c ≡ s.join a (s.join b c)
  pub comm : (a b : V) → s.join a b ≡ s.join b a
  pub unit : (a : V) → s.join a s.neutral ≡ a
  pub undo : (a : V) → s.join a (s.inverse a) ≡ s.neutral

-- a value with the weight of a vote joined
abbrev pub plus : {V : Type 0} → Scale V → V → Vote → V
plus s a v = s.join a (s.weight v)

-- a value with the inverse of that weight joined
abbrev pub minus : {V : Type 0} → Scale V → V → Vote → V
minus s a v = s.join a (s.inverse (s.weight v))

-- the joined weight of some votes; of none, the neutral value
abbrev pub joined : {V : Type 0} → Scale V → List Vote → V
joined s [] = s.neutral
joined s (v ∷ vs) = s.join (s.weight v) (joined s vs)

-- a value with the joined weight of some votes joined
abbrev pub plus_all : {V : Type 0} → Scale V → V → List Vote → V
plus_all s a votes = s.join a (joined s votes)

-- a value with the inverse of that joined weight joined
abbrev pub minus_all : {V : Type 0} → Scale V → V → List Vote → V
minus_all s a votes = s.join a (s.inverse (joined s votes))
