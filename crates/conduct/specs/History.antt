-- What taken messages do to a reference, and when it stands after some of them. Assumes nothing.
use Rattle.std.specs.Prelude.{◌≡◌, ℕ, ◌⊎◌, List, ◌∷◌, ◌++◌, Some, Option}
use Rattle.std.specs.List.{AllByRecursion}
use Rattle.book.specs.declared.status.StatusEvent.TheVariants.{Cancellation, Rejection}
use Rattle.book.specs.States.{event_of}
use Rattle.book.specs.Book.{Terms}
use Rattle.book.specs.Orders.{Ordered}
use Rattle.book.specs.Orders.Ordered.{lodge, cancel, report}

-- a new instruction replaces the one that it names
abbrev pub Replaces : Ordered → List ℕ → Type 0
Replaces (lodge t p) q = p ≡ Some q
Replaces (cancel p c) q = ⊥
Replaces (report p process code) q = ⊥

-- a report cancels what it is about: CAND, on an instruction or on its cancellation
abbrev pub Cancels : Ordered → List ℕ → Type 0
Cancels (lodge t p) q = ⊥
Cancels (cancel p c) q = ⊥
Cancels (report p process code) q = (p ≡ q) × (event_of process code ≡ Cancellation)

-- a report rejects what it is about: REJT on an instruction
abbrev pub Rejects : Ordered → List ℕ → Type 0
Rejects (lodge t p) q = ⊥
Rejects (cancel p c) q = ⊥
Rejects (report p process code) q = (p ≡ q) × (event_of process code ≡ Rejection)

-- the message replaced, cancelled or rejected the reference
abbrev pub Ends : Ordered → List ℕ → Type 0
Ends o q = Replaces o q ⊎ (Cancels o q ⊎ Rejects o q)

-- some taken message lodged the reference with these terms, and none taken since replaced, cancelled or rejected it
pub record Standing (taken : List Ordered) (q : List ℕ) (t : Terms) : Type 0 where
  pub before : List Ordered
  pub since : List Ordered
  pub replaced : Option (List ℕ)
  pub order : taken ≡ before ++ lodge t replaced ∷ since
  pub lodged : t.reference ≡ q
  pub unended : AllByRecursion (λ o. Ends o q → ⊥) since
