-- What code over a register draws from its clauses.
use Rattle.std.proofs.Common.{◌≡◌, ℕ, ◌+◌, ◌<◌, Bool, true, false, cond, ◌&&◌, List, [], length, is_ok, Some, None, Ok, Result, sym, refl, ◌∙◌, subst}
use Rattle.std.specs.Str.{bytes_eq}
use Rattle.std.proofs.lemmas.Bool.{lt-ltb}
use Rattle.register.specs.declared.call.EnterRefusal.{EnterRefusal}
use Rattle.register.specs.Pairs.{Pair, look}
use Rattle.register.specs.Sets.{Entered}
use Rattle.register.specs.declared.front.Front.{Front}
use Rattle.register.specs.Memos.{Memo}
use Rattle.register.specs.Fronts.{remembered, Agrees, InStep}
use Rattle.register.proofs.Pairs.{same_refl}

module _ (room : ℕ) (ps qs : List Pair) (k : List ℕ) (n : ℕ) (r : Result (Unit {0}) EnterRefusal) (e : Entered room ps qs k n r) where
  -- a reference that is not there is entered where there is room
  pub enters_new : look ps k ≡ None → length ps < room → r ≡ Ok tt
  enters_new none lt = e.answer ∙ rw (none, lt-ltb (length ps) room lt) refl

  pub entered_here : is_ok r ≡ true → look qs k ≡ Some n
  entered_here h = e.looks k ∙ rw (h, same_refl k) refl

  pub entered_else : (q : List ℕ) → bytes_eq k q ≡ false → look qs q ≡ look ps q
  entered_else q h = e.looks q ∙ go (is_ok r) where
    go : (b : Bool) → cond (b && bytes_eq k q) (Some n) (look ps q) ≡ look ps q
    go true = rw h refl
    go false = refl

  pub entered_size : is_ok r ≡ true → length qs ≡ length ps + 1
  entered_size h = e.size ∙ rw h refl

-- a front that remembers nothing, over a register in order, is in order
pub new_in_step : {R : Type 0} (pairs : R → List Pair) (ordered : R → Type 0) (s : Front R) → ordered s.below → remembered s.memory ≡ [] → InStep pairs ordered s
new_in_step pairs ordered s o e = let P : List Memo → Type 0 = λ l. Agrees (pairs s.below) l in (o, subst P (sym e) tt)
