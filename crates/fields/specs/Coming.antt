-- What an iterator over the fields of a text has yet to give. Assumes nothing.
use Rattle.std.specs.Prelude.{◌≡◌, List, [], ◌∷◌, Option, MatchOption}
use Rattle.fields.specs.declared.walk.Field.{Field}
use Rattle.fields.specs.declared.walk.Fields.{Fields}
use Rattle.fields.specs.Fields.{left}

abbrev pub coming : Fields → List Field
coming s = left s.text.now s.at

-- a call gives the first of them; at the end it gives none, and changes nothing
abbrev pub gives : Fields → Option Field → Fields → Type 0
gives s r t = MatchOption r ((coming s ≡ []) × (t ≡ s)) (λ f. coming s ≡ f ∷ coming t)
