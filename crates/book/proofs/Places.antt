-- Places in a list, and the instructions of some records.
use Rattle.std.proofs.Common.{◌≡◌, ℕ, zero, suc, ◌<◌, ◌≤◌, List, [], ◌∷◌, map, length, set, Some, None, Option, refl, ap, arith}
use Rattle.std.specs.List.{slice_get}
use Rattle.std.specs.Option.{option_map}
use Rattle.book.specs.Book.{Instruction, instructions}

pub nth_set_here : {X : Type 0} (xs : List X) (n : ℕ) (x : X) → n < length xs → slice_get (set xs n x) n ≡ Some x
nth_set_here [] n x h = absurd (omega arith)
nth_set_here (y ∷ ys) zero x h = refl
nth_set_here (y ∷ ys) (suc n) x h = nth_set_here ys n x (omega arith)

pub nth_set_apart : {X : Type 0} (xs : List X) (n k : ℕ) (x : X) → (k ≡ n → ⊥) → slice_get (set xs n x) k ≡ slice_get xs k
nth_set_apart [] n k x h = refl
nth_set_apart (y ∷ ys) zero zero x h = absurd (h refl)
nth_set_apart (y ∷ ys) zero (suc k) x h = refl
nth_set_apart (y ∷ ys) (suc n) zero x h = refl
nth_set_apart (y ∷ ys) (suc n) (suc k) x h = nth_set_apart ys n k x (λ e. h (ap suc e))

pub nth_below : {X : Type 0} (xs : List X) (n : ℕ) (x : X) → slice_get xs n ≡ Some x → n < length xs
nth_below [] n x e = let z : ◌≡◌ {A = ℕ} 0 1 = cc in absurd (omega arith)
nth_below (y ∷ ys) zero x e = omega arith
nth_below (y ∷ ys) (suc n) x e = let h : n < length ys = nth_below ys n x e in omega arith

pub nth_map : {X Y : Type 0} (f : X → Y) (xs : List X) (n : ℕ) → slice_get (map f xs) n ≡ option_map f (slice_get xs n)
nth_map f [] n = refl
nth_map f (x ∷ xs) zero = refl
nth_map f (x ∷ xs) (suc n) = nth_map f xs n

pub set_map : {X Y : Type 0} (f : X → Y) (xs : List X) (n : ℕ) (x : X) → map f (set xs n x) ≡ set (map f xs) n (f x)
set_map f [] n x = refl
set_map f (y ∷ ys) zero x = refl
set_map f (y ∷ ys) (suc n) x = ap (λ (w : List _). f y ∷ w) (set_map f ys n x)

pub length_map : {X Y : Type 0} (f : X → Y) (xs : List X) → length (map f xs) ≡ length xs
length_map f [] = refl
length_map f (x ∷ xs) = ap suc (length_map f xs)

pub count_most : (rs : List (Option Instruction)) → length (instructions rs) ≤ length rs
count_most [] = omega arith
count_most (None ∷ rs) = let h = count_most rs in omega arith
count_most (Some i ∷ rs) = let h = count_most rs in omega arith

-- an empty record leaves fewer instructions than records
pub count_below : (rs : List (Option Instruction)) (n : ℕ) → slice_get rs n ≡ Some None → length (instructions rs) < length rs
count_below [] n e = let z : ◌≡◌ {A = ℕ} 0 1 = cc in absurd (omega arith)
count_below (None ∷ rs) n e = let h = count_most rs in omega arith
count_below (Some i ∷ rs) zero e = let z : ◌≡◌ {A = ℕ} 0 1 = cc in absurd (omega arith)
count_below (Some i ∷ rs) (suc n) e = let h = count_below rs n e in omega arith

-- where no record is empty, there are as many instructions as records
pub count_full : (rs : List (Option Instruction)) → ((n : ℕ) → slice_get rs n ≡ Some None → ⊥) → length (instructions rs) ≡ length rs
count_full [] h = refl
count_full (None ∷ rs) h = absurd (h zero refl)
count_full (Some i ∷ rs) h = ap suc (count_full rs (λ n e. h (suc n) e))
