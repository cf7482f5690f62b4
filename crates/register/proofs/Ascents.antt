-- Lists that ascend by their references.
use Rattle.std.proofs.Common.{◌≡◌, ℕ, zero, suc, ◌+◌, ◌*◌, ◌^◌, ◌<◌, ◌≤◌, true, false, List, [], ◌∷◌, ◌++◌, length, get_or, take, drop, is_some, is_ok, Some, None, Ok, Err, Result, Ordering, Less, Equal, Greater, sym, refl, ap, ◌∙◌, subst, arith}
use Rattle.std.specs.Cmp.{nat_cmp_total}
use Rattle.std.specs.Ordering.{ordering_reverse, ordering_then}
use Rattle.std.specs.List.{insert, remove, AllByRecursion}
use Rattle.std.specs.Str.{bytes_eq}
use Rattle.std.specs.Result.{result_ok}
use Rattle.std.proofs.ByRecursion.{All-weaker, All-take, All-drop, All-append, All-get_or}
use Rattle.std.proofs.lemmas.List.{take-append-drop}
use Rattle.std.proofs.lemmas.Bool.{true≢false, false≢true}
use Rattle.std.proofs.lemmas.Bool.Decides.{nat_tests}
use Rattle.register.specs.declared.entry.Entry.{Entry}
use Rattle.register.specs.Order.{order}
use Rattle.register.specs.Pairs.{Pair, key, look}
use Rattle.register.specs.Places.{Ascending, Placed, Sought, Compared}
use Rattle.register.specs.Lists.{ranked}
use Rattle.register.specs.Rising.{less_apart, order_turn, look_absent}
use Rattle.register.proofs.Pairs.{same_flip, same_refl, look_some, placed_there}
use Rattle.std.specs.Ordering as std_orderings
use Rattle.std.specs.Cmp.Lexicographic.{lists_total}

first_equal : (k m : Ordering) → ordering_then k m ≡ Equal → (k ≡ Equal) × (m ≡ Equal)
first_equal Less m h = let z : ◌≡◌ {A = ℕ} 0 1 = cc in absurd (omega arith)
first_equal Equal m h = (refl, h)
first_equal Greater m h = let z : ◌≡◌ {A = ℕ} 0 1 = cc in absurd (omega arith)

pub equal_is : (a b : List ℕ) → order a b ≡ Equal → a ≡ b
equal_is [] [] h = refl
equal_is [] (y ∷ ys) h = let z : ◌≡◌ {A = ℕ} 0 1 = cc in absurd (omega arith)
equal_is (x ∷ xs) [] h = let z : ◌≡◌ {A = ℕ} 0 1 = cc in absurd (omega arith)
equal_is (x ∷ xs) (y ∷ ys) h =
    let p = first_equal (std_orderings.nat_cmp x y) (order xs ys) h in
    let q = p.0 in
    let e : x ≡ y = grind (arith, nat_tests) in
    let f = equal_is xs ys p.1 in
    cc

pub equal_same : (a b : List ℕ) → order a b ≡ Equal → bytes_eq a b ≡ true
equal_same a b h = rw (equal_is a b h) (same_refl b)

module _ {V : Type 0} where
  -- all before a place are below k if the last of them is
  pub before : (ps : List (Entry V)) (i : ℕ) (k : List ℕ) (d : Entry V) → Ascending ps → i ≤ length ps → ((j : ℕ) → suc j ≡ i → order (key (get_or ps j d)) k ≡ Less) → AllByRecursion (λ q. order (key q) k ≡ Less) (take i ps)
  before ps zero k d up le h = tt
  before [] (suc i) k d up le h = tt
  before (p ∷ ps) (suc zero) k d up le h = (h 0 refl, tt)
  before (p ∷ ps) (suc (suc i)) k d up le h =
      let l : i < length ps = omega arith in
      (((lists_total nat_cmp_total).trans (key p) (key (get_or ps i d)) k (All-get_or (λ q. order (key p) (key q) ≡ Less) ps i d l up.0) (h (suc i) refl)), before ps (suc i) k d up.1 (omega arith) (λ j e. h (suc j) (ap suc e)))

  -- all from a place on are above k if the first of them is
  pub after : (ps : List (Entry V)) (i : ℕ) (k : List ℕ) (d : Entry V) → Ascending ps → (i < length ps → order (key (get_or ps i d)) k ≡ Greater) → AllByRecursion (λ q. order k (key q) ≡ Less) (drop i ps)
  after [] zero k d up h = tt
  after [] (suc i) k d up h = tt
  after (p ∷ ps) zero k d up h =
      let l = order_turn (key p) k (h (omega arith)) in
      (l, All-weaker (λ q. order (key p) (key q) ≡ Less) (λ q. order k (key q) ≡ Less) (λ q m. (lists_total nat_cmp_total).trans k (key p) (key q) l m) ps up.0)
  after (p ∷ ps) (suc i) k d up h = after ps i k d up.1 (λ lt. h (omega arith))

  pub ascending_inserted : (ps : List (Entry V)) (i : ℕ) (e : Entry V) → Ascending ps → AllByRecursion (λ q. order (key q) (key e) ≡ Less) (take i ps) → AllByRecursion (λ q. order (key e) (key q) ≡ Less) (drop i ps) → Ascending (insert ps i e)
  ascending_inserted ps zero e up lo hi = (hi, up)
  ascending_inserted [] (suc i) e up lo hi = (tt, tt)
  ascending_inserted (p ∷ ps) (suc i) e up lo hi =
      (All-append (λ q. order (key p) (key q) ≡ Less) (take i ps) (e ∷ drop i ps) (All-take (λ q. order (key p) (key q) ≡ Less) i ps up.0) (lo.0, All-drop (λ q. order (key p) (key q) ≡ Less) i ps up.0), ascending_inserted ps i e up.1 lo.1 hi)

  pub ascending_removed : (ps : List (Entry V)) (i : ℕ) → Ascending ps → Ascending (remove ps i)
  ascending_removed [] zero up = tt
  ascending_removed [] (suc i) up = tt
  ascending_removed (p ∷ ps) zero up = up.1
  ascending_removed (p ∷ ps) (suc i) up =
      (All-append (λ q. order (key p) (key q) ≡ Less) (take i ps) (drop (suc i) ps) (All-take (λ q. order (key p) (key q) ≡ Less) i ps up.0) (All-drop (λ q. order (key p) (key q) ≡ Less) (suc i) ps up.0), ascending_removed ps i up.1)

  pub look_between : (ps : List (Entry V)) (i : ℕ) (k : List ℕ) → AllByRecursion (λ q. order (key q) k ≡ Less) (take i ps) → AllByRecursion (λ q. order k (key q) ≡ Less) (drop i ps) → look ps k ≡ None
  look_between ps i k lo hi =
      let a = All-weaker (λ q. order (key q) k ≡ Less) (λ q. bytes_eq (key q) k ≡ false) (λ q m. same_flip (key q) k ∙ less_apart (key q) k m) (take i ps) lo in
      let b = All-weaker (λ q. order k (key q) ≡ Less) (λ q. bytes_eq (key q) k ≡ false) (λ q m. less_apart k (key q) m) (drop i ps) hi in
      let P : List (Entry V) → Type 0 = λ l. look l k ≡ None in
      subst P (take-append-drop i ps) (look_absent (take i ps ++ drop i ps) k (All-append (λ q. bytes_eq (key q) k ≡ false) (take i ps) (drop i ps) a b))

  pub between : (ps : List (Entry V)) (i : ℕ) (k : List ℕ) (d : Entry V) → Ascending ps → Sought ps k (Err i) → AllByRecursion (λ q. order (key q) k ≡ Less) (take i ps) × AllByRecursion (λ q. order k (key q) ≡ Less) (drop i ps)
  between ps i k d up s = (before ps i k d up s.0 (λ j e. s.1 j (omega arith) d), after ps i k d up (λ lt. s.2 lt d))

  pub sought_none : (ps : List (Entry V)) (i : ℕ) (k : List ℕ) → Ascending ps → Sought ps k (Err i) → look ps k ≡ None
  sought_none [] i k up s = refl
  sought_none (p ∷ ps) i k up s = let b = between (p ∷ ps) i k p up s in look_between (p ∷ ps) i k b.0 b.1

  pub ascending_entered : (ps : List (Entry V)) (i : ℕ) (e : Entry V) → Ascending ps → Sought ps (key e) (Err i) → Ascending (insert ps i e)
  ascending_entered ps i e up s = let b = between ps i (key e) e up s in ascending_inserted ps i e up b.0 b.1

  pub sought_hit : (ps : List (Entry V)) (i : ℕ) (k : List ℕ) (d : Entry V) → Sought ps k (Ok i) → bytes_eq (key (get_or ps i d)) k ≡ true
  sought_hit ps i k d s = equal_same (key (get_or ps i d)) k (s.1 d)

  -- in order, a search finds a reference exactly where it stands
  pub sought_placed : (ps : List (Entry V)) (k : List ℕ) (r : Result ℕ ℕ) → Ascending ps → Sought ps k r → Placed ps k (result_ok r)
  sought_placed ps k (Ok i) up s = (s.0, λ d. sought_hit ps i k d s)
  sought_placed ps k (Err i) up s = sought_none ps i k up s

  pub sought_there : (ps : List (Entry V)) (k : List ℕ) (r : Result ℕ ℕ) → Ascending ps → Sought ps k r → is_some (look ps k) ≡ is_ok r
  sought_there ps k (Ok i) up s = placed_there ps k (Some i) (sought_placed ps k (Ok i) up s)
  sought_there ps k (Err i) up s = ap is_some (sought_none ps i k up s)

  -- what was compared where the reference stands, and where it does not
  pub compared_found : (ps : List (Entry V)) (i : ℕ) (k : List ℕ) (d : Entry V) (m : ℕ) → Sought ps k (Ok i) → 2 ^ (m + 1) ≤ 2 * length ps + 1 → Compared ps k (m + 1)
  compared_found ps i k d m s b = record {
    bound = b;
    hit = λ o e. omega arith;
    miss = λ o e. absurd (true≢false (sym (look_some ps k i d s.0 (sought_hit ps i k d s)) ∙ e));
  }

  pub compared_missed : (ps : List (Entry V)) (i : ℕ) (k : List ℕ) (m : ℕ) → Sought ps k (Err i) → 2 ^ m ≤ 2 * length ps + 1 → length ps + 2 ≤ 2 * 2 ^ m → Compared ps k m
  compared_missed ps i k m s b h = record {
    bound = b;
    hit = λ o e. absurd (false≢true (sym (ap is_some (sought_none ps i k o s)) ∙ e));
    miss = λ o e. h;
  }

-- between those below and those above is the place of its rank
ranked_at : (ps : List Pair) (i : ℕ) (e : Pair) → AllByRecursion (λ q. order (key q) (key e) ≡ Less) (take i ps) → AllByRecursion (λ q. order (key e) (key q) ≡ Less) (drop i ps) → insert ps i e ≡ ranked e ps
ranked_at [] zero e lo hi = refl
ranked_at (p ∷ ps) zero e lo hi =
    let g : order (key p) (key e) ≡ Greater = (lists_total nat_cmp_total).antisymm (key p) (key e) ∙ ap ordering_reverse hi.0 in
    rw g refl
ranked_at [] (suc i) e lo hi = refl
ranked_at (p ∷ ps) (suc i) e lo hi = rw lo.0 (ap (λ l. p ∷ l) (ranked_at ps i e lo.1 hi))

pub ranked_entered : (ps : List Pair) (i : ℕ) (e : Pair) → Ascending ps → Sought ps (key e) (Err i) → insert ps i e ≡ ranked e ps
ranked_entered ps i e up s = let b = between ps i (key e) e up s in ranked_at ps i e b.0 b.1
