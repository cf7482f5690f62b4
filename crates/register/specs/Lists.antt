-- The two lists over slots that the caller lends: where a pair goes. Assumes nothing.
use Rattle.std.specs.Prelude.{Bool, false, cond, List, [], ◌∷◌, ◌++◌, is_ok}
use Rattle.std.specs.Ordering.{is_lt}
use Rattle.register.specs.declared.call.Call.{Call}
use Rattle.register.specs.declared.call.Call.TheVariants.{Find, Enter, Strike, Clear}
use Rattle.register.specs.declared.call.Answer.{Answer}
use Rattle.register.specs.declared.call.Answer.TheVariants.{Number, Verdict, Cleared}
use Rattle.register.specs.Pairs.{Pair, key, forgotten}
use Rattle.register.specs.Order.{order}
use Rattle.register.specs.Spelling.{spelling}

-- was an entering accepted?
abbrev pub accepted : Answer → Bool
accepted (Number n) = false
accepted (Verdict v) = is_ok v
accepted Cleared = false

-- behind all others
abbrev pub behind : Pair → List Pair → List Pair
behind p ps = ps ++ p ∷ []

-- behind those below it
abbrev pub ranked : Pair → List Pair → List Pair
ranked p [] = p ∷ []
ranked p (q ∷ qs) = cond (is_lt (order (key q) (key p))) (q ∷ ranked p qs) (p ∷ q ∷ qs)

-- the pairs after a call: an accepted one is put in, a struck one taken out, and the others stay in their turn
abbrev pub relisted : (Pair → List Pair → List Pair) → List Pair → Call → Answer → List Pair
relisted put ps (Find r) a = ps
relisted put ps (Enter r n) a = cond (accepted a) (put (record { reference = r; value = n }) ps) ps
relisted put ps (Strike r) a = forgotten ps (spelling r)
relisted put ps Clear a = []
