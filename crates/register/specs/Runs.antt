-- Lists of calls: what a plain set of pairs would answer to them, and what a register does with them. Assumes nothing.
use Rattle.std.specs.Prelude.{◌≡◌, ℕ, ◌+◌, ◌-◌, min, cond, List, [], ◌∷◌, ◌++◌, length, take, drop, is_some, is_ok, Some, None, Option}
use Rattle.std.specs.Str.{bytes_eq}
use Rattle.register.specs.declared.call.Call.{Call}
use Rattle.register.specs.declared.call.Call.TheVariants.{Find, Enter, Strike, Clear}
use Rattle.register.specs.declared.call.Answer.{Answer}
use Rattle.register.specs.declared.call.Answer.TheVariants.{Number, Verdict, Cleared}
use Rattle.register.specs.Pairs.{Pair, look}
use Rattle.register.specs.Sets.{verdict}
use Rattle.register.specs.Spelling.{spelling}

-- a set of pairs as its users see it: what is found beside each text, and how many pairs there are
pub record View : Type 0 where
  pub find : List ℕ → Option ℕ
  pub size : ℕ

abbrev pub view_of : List Pair → View
view_of ps = record { find = look ps; size = length ps }

-- two views of one set
pub record SameView (a b : View) : Type 0 where
  pub looks : (q : List ℕ) → b.find q ≡ a.find q
  pub size : b.size ≡ a.size

-- the set with one pair more
abbrev pub with_pair : View → List ℕ → ℕ → View
with_pair v k n = record { find = λ q. cond (bytes_eq k q) (Some n) (v.find q); size = v.size + 1 }

-- the set without the reference k
abbrev pub without_pair : View → List ℕ → View
without_pair v k = record { find = λ q. cond (bytes_eq k q) None (v.find q); size = v.size - cond (is_some (v.find k)) 1 0 }

-- what a set with this room answers
abbrev pub replied : ℕ → View → Call → Answer
replied room v (Find r) = Number (v.find (spelling r))
replied room v (Enter r n) = Verdict (verdict room (v.find (spelling r)) v.size)
replied room v (Strike r) = Number (v.find (spelling r))
replied room v Clear = Cleared

-- and the set that the call leaves
abbrev pub left : ℕ → View → Call → View
left room v (Find r) = v
left room v (Enter r n) = cond (is_ok (verdict room (v.find (spelling r)) v.size)) (with_pair v (spelling r) n) v
left room v (Strike r) = without_pair v (spelling r)
left room v Clear = view_of []

-- the answers to a list of calls, one after the other
abbrev pub replies : ℕ → View → List Call → List Answer
replies room v [] = []
replies room v (c ∷ cs) = replied room v c ∷ replies room (left room v c) cs

-- and the set at its end
abbrev pub lastly : ℕ → View → List Call → View
lastly room v [] = v
lastly room v (c ∷ cs) = lastly room (left room v c) cs

-- a call is fit for a register in order, and clearing for any
abbrev pub Fit : {S : Type 0} → (S → Type 0) → S → Call → Type 0
Fit ordered s (Find r) = ordered s
Fit ordered s (Enter r n) = ordered s
Fit ordered s (Strike r) = ordered s
Fit ordered s Clear = Unit {0}

-- the register is in order, or the list begins by clearing it
abbrev pub Ready : {S : Type 0} → (S → Type 0) → S → List Call → Type 0
Ready ordered s [] = Unit {0}
Ready ordered s (c ∷ cs) = Fit ordered s c

-- one call, by the register's own rule, and as the plain set has it where the call is fit
pub record Answered {S : Type 0} (pairs : S → List Pair) (room : S → ℕ) (ordered : S → Type 0) (rule : S → Call → Answer → S → Type 0) (s : S) (c : Call) (a : Answer) (t : S) : Type 0 where
  pub ruled : rule s c a t
  pub fixed : room t ≡ room s
  pub keeps : Fit ordered s c → ordered t
  pub answer : Fit ordered s c → a ≡ replied (room s) (view_of (pairs s)) c
  pub leaves : Fit ordered s c → SameView (left (room s) (view_of (pairs s)) c) (view_of (pairs t))

-- the calls one after the other, each by the rule from where the one before it left off
abbrev pub Ran : {S : Type 0} → (S → Call → Answer → S → Type 0) → S → List Call → List Answer → S → Type 0
Ran rule s [] [] t = t ≡ s
Ran rule s [] (a ∷ xs) t = ⊥
Ran rule s (c ∷ cs) [] t = ⊥
Ran {S = S} rule s (c ∷ cs) (a ∷ xs) t = (u : S) × (rule s c a u × Ran rule u cs xs t)

-- a list of calls: the first n of them, as many as have a place for their answer
pub record Carried {S : Type 0} (pairs : S → List Pair) (room : S → ℕ) (ordered : S → Type 0) (rule : S → Call → Answer → S → Type 0) (s : S) (calls : List Call) (before : List Answer) (n : ℕ) (after : List Answer) (t : S) : Type 0 where
  pub count : n ≡ min (length calls) (length before)
  pub fixed : room t ≡ room s
  pub keeps : ordered s → ordered t
  -- the answers are the plain set's, and behind them all is as it was
  pub answers : Ready ordered s calls → after ≡ replies (room s) (view_of (pairs s)) (take n calls) ++ drop n before
  pub leaves : Ready ordered s calls → SameView (lastly (room s) (view_of (pairs s)) (take n calls)) (view_of (pairs t))
  pub rest : drop n after ≡ drop n before
  pub ruled : Ran rule s (take n calls) (take n after) t
