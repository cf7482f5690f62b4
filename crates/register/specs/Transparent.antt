-- What a front is to those who call it: nothing but the register below. Assumes nothing.
use Rattle.std.specs.Prelude.{◌≡◌, ℕ, List}
use Rattle.register.specs.declared.front.Front.{Front}
use Rattle.register.specs.declared.call.Answer.{Answer}
use Rattle.register.specs.Pairs.{Pair}
use Rattle.register.specs.Sets.{Alike}
use Rattle.register.specs.Fronts.{InStep}

-- a front, and a register of the kind that stands below it, with the same capacity and the same set of pairs, both in order:
-- whatever the front remembers, the same list of calls has filled the same answers
abbrev pub FrontTransparent : {R : Type 0} → (R → List Pair) → (R → ℕ) → (R → Type 0) → Front R → R → (before after before' after' : List Answer) → Type 0
FrontTransparent pairs room ordered front bare before after before' after' =
    InStep pairs ordered front → ordered bare → room bare ≡ room front.below → Alike (pairs front.below) (pairs bare) → before' ≡ before → after' ≡ after
