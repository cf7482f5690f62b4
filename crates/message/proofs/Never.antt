-- What cannot be. Assumes nothing.
use Rattle.std.proofs.Common.{◌≡◌, ℕ, Bool, true, false, Some, None, Ok, Err, Option, Result, refl, arith}
use Rattle.std.proofs.lemmas.Bool.{both_ways}

pub never : {X : Type 0} → ◌≡◌ {A = Bool} false true → X
never e = absurd (both_ways false refl e)

pub some_none : {A X : Type 0} (a : A) → ◌≡◌ {A = Option A} (Some a) None → X
some_none a e = let z : ◌≡◌ {A = ℕ} 0 1 = cc in absurd (omega arith)

pub err_ok : {A E X : Type 0} (a : A) (f : E) → ◌≡◌ {A = Result A E} (Err f) (Ok a) → X
err_ok a f e = let z : ◌≡◌ {A = ℕ} 0 1 = cc in absurd (omega arith)
