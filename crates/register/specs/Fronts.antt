-- The rule of a front: when it answers from memory, when it asks below, and what it remembers and counts. Assumes nothing.
use Rattle.std.specs.Prelude.{◌≡◌, ℕ, ◌+◌, ◌-◌, min, cond, List, [], Some, None, Option, ◌==◌}
use Rattle.std.specs.List.{AllByRecursion}
use Rattle.register.specs.declared.reference.Reference.{Reference}
use Rattle.register.specs.declared.memory.Memory.{Memory}
use Rattle.register.specs.declared.front.Front.{Front}
use Rattle.register.specs.declared.call.Call.{Call}
use Rattle.register.specs.declared.call.Call.TheVariants.{Find, Enter, Strike, Clear}
use Rattle.register.specs.declared.call.Answer.{Answer}
use Rattle.register.specs.declared.call.Answer.TheVariants.{Number, Verdict, Cleared}
use Rattle.register.specs.Pairs.{Pair, key, look, forgotten}
use Rattle.register.specs.Lists.{accepted}
use Rattle.register.specs.Memos.{Memo, learnt}
use Rattle.register.specs.Spelling.{spelling}

-- what a memory holds, the newest first
abbrev pub remembered : Memory → List Memo
remembered m = m.memos.items

-- what a front remembers of a reference, if anything
abbrev pub recalled : {R : Type 0} → Front R → Reference → Option (Option ℕ)
recalled s r = look (remembered s.memory) (spelling r)

-- each remembered answer is what a look-up among these pairs says
abbrev pub Agrees : List Pair → List Memo → Type 0
Agrees ps ms = AllByRecursion (λ m. m.value ≡ look ps (key m)) ms

-- a front is in order where the register below is, and its memory agrees with the pairs there
abbrev pub InStep : {R : Type 0} (pairs : R → List Pair) (ordered : R → Type 0) → Front R → Type 0
InStep pairs ordered s = ordered s.below × Agrees (pairs s.below) (remembered s.memory)

-- one more, up to the largest number of 64 bits
abbrev pub counted : ℕ → ℕ
counted n = min (n + 1) 18446744073709551615

-- the number that a find or a strike answered
abbrev pub number_in : Answer → Option ℕ
number_in (Number n) = n
number_in (Verdict v) = None
number_in Cleared = None

-- the call is put to the register below, with the same answer, and the front then remembers and counts this
pub record Passed {R : Type 0} (rule : R → Call → Answer → R → Type 0) (s : Front R) (c : Call) (a : Answer) (t : Front R) (ms : List Memo) (n : ℕ) : Type 0 where
  pub asks : rule s.below c a t.below
  pub memory : remembered t.memory ≡ ms
  pub count : t.count ≡ n

-- a find of what is remembered is answered from memory and changes nothing; any other asks below, is counted and learnt
pub record Finding {R : Type 0} (rule : R → Call → Answer → R → Type 0) (s : Front R) (r : Reference) (a : Answer) (t : Front R) : Type 0 where
  pub recalls : (n : Option ℕ) → recalled s r ≡ Some n → (a ≡ Number n) × (t ≡ s)
  pub learns : recalled s r ≡ None → Passed rule s (Find r) a t (learnt (remembered s.memory) r (number_in a)) (counted s.count)

-- an accepted entering is learnt, striking forgets the reference, and clearing forgets all and sets the count to 0; each asks below
abbrev pub FrontRule : {R : Type 0} → (R → Call → Answer → R → Type 0) → Front R → Call → Answer → Front R → Type 0
FrontRule rule s (Find r) a t = Finding rule s r a t
FrontRule rule s (Enter r n) a t = Passed rule s (Enter r n) a t (cond (accepted a) (learnt (remembered s.memory) r (Some n)) (remembered s.memory)) s.count
FrontRule rule s (Strike r) a t = Passed rule s (Strike r) a t (forgotten (remembered s.memory) (spelling r)) s.count
FrontRule rule s Clear a t = Passed rule s Clear a t [] 0

-- a front means what stands below it
abbrev pub through_front : {R X : Type 0} → (R → X) → Front R → X
through_front f s = f s.below

-- how often the front at a depth has asked: its own count at depth 0, and what the register below tells of one less at any other
abbrev pub asks_through : {R : Type 0} → (R → ℕ → Option ℕ) → Front R → ℕ → Option ℕ
asks_through asks s depth = cond (depth == 0) (Some s.count) (asks s.below (depth - 1))
