-- Scales made of scales: one for each index, and a pair; and what a pair tells. Assumes nothing.
use Rattle.std.specs.Prelude.{Some, None, Option}
use Rattle.tally.specs.Scale.{Scale}

-- at each index, weighed and joined as the scale of that index says
abbrev pub each : {I V : Type 0} → (I → Scale V) → Scale (I → V)
each s = record {
  weight = λ v i. (s i).weight v;
  join = λ a b i. (s i).join (a i) (b i);
  neutral = λ i. (s i).neutral;
  inverse = λ a i. (s i).inverse (a i);
}

-- each part weighed and joined as its own scale says
abbrev pub paired : {V W : Type 0} → Scale V → Scale W → Scale (V × W)
paired s t = record {
  weight = λ v. (s.weight v, t.weight v);
  join = λ a b. (s.join a.0 b.0, t.join a.1 b.1);
  neutral = (s.neutral, t.neutral);
  inverse = λ a. (s.inverse a.0, t.inverse a.1);
}

-- what the first tells, and what the second does where the first tells nothing
abbrev pub or_else : {X : Type 0} → Option X → Option X → Option X
or_else None b = b
or_else (Some x) b = Some x
