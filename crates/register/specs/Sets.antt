-- What each call of a register means for its set of pairs. Every clause goes by look-ups and by the number of pairs alone. Assumes nothing.
use Rattle.std.specs.Prelude.{◌≡◌, ℕ, ◌+◌, ◌≤◌, cond, ◌&&◌, List, length, is_some, is_ok, Some, None, Ok, Err, Option, Result, nat_lt}
use Rattle.std.specs.Str.{bytes_eq}
use Rattle.register.specs.declared.call.EnterRefusal.{EnterRefusal}
use Rattle.register.specs.declared.call.EnterRefusal.TheVariants.{AlreadyThere, Full}
use Rattle.register.specs.Pairs.{Pair, look, Distinct}

-- what holds of every register in order: no reference twice, and no more pairs than its capacity, which is at most 1,024
pub record Lawful {S : Type 0} (pairs : S → List Pair) (room : S → ℕ) (ordered : S → Type 0) : Type 0 where
  pub apart : (s : S) → ordered s → Distinct (pairs s)
  pub within : (s : S) → ordered s → length (pairs s) ≤ room s
  pub bounded : (s : S) → room s ≤ 1024

-- the same set of pairs
pub record Alike (before after : List Pair) : Type 0 where
  pub looks : (q : List ℕ) → look after q ≡ look before q
  pub size : length after ≡ length before

-- finding k answers its number or none, and changes no pair
pub record Found (before after : List Pair) (k : List ℕ) (r : Option ℕ) : Type 0 where
  pub answer : r ≡ look before k
  pub same : Alike before after

-- entering answers "already there" where the reference is found, else "full" where there are as many pairs as may be
abbrev pub verdict : ℕ → Option ℕ → ℕ → Result (Unit {0}) EnterRefusal
verdict room there size = cond (is_some there) (Err AlreadyThere) (cond (nat_lt size room) (Ok tt) (Err Full))

-- entering k with n adds that pair where it is accepted, and changes no other
pub record Entered (room : ℕ) (before after : List Pair) (k : List ℕ) (n : ℕ) (r : Result (Unit {0}) EnterRefusal) : Type 0 where
  pub answer : r ≡ verdict room (look before k) (length before)
  pub looks : (q : List ℕ) → look after q ≡ cond (is_ok r && bytes_eq k q) (Some n) (look before q)
  pub size : length after ≡ length before + cond (is_ok r) 1 0

-- striking k answers its number or none, and takes its pair out
pub record Struck (before after : List Pair) (k : List ℕ) (r : Option ℕ) : Type 0 where
  pub answer : r ≡ look before k
  pub looks : (q : List ℕ) → look after q ≡ cond (bytes_eq k q) None (look before q)
  pub size : length after + cond (is_some r) 1 0 ≡ length before
