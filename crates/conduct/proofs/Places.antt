-- Places in a list of records, and of the instructions in them.
use Rattle.std.proofs.Common.{◌≡◌, ℕ, zero, suc, List, [], ◌∷◌, Some, None, Option, refl, ap, arith}
use Rattle.std.specs.List.{slice_get}
use Rattle.book.specs.Book.{Instruction, instructions}

-- how many instructions the records before one have
pub rank : List (Option Instruction) → ℕ → ℕ
rank [] n = 0
rank (r ∷ rs) zero = 0
rank (None ∷ rs) (suc n) = rank rs n
rank (Some i ∷ rs) (suc n) = suc (rank rs n)

-- the instruction of a record stands at its rank
pub placed : (rs : List (Option Instruction)) (n : ℕ) (i : Instruction) → slice_get rs n ≡ Some (Some i) → slice_get (instructions rs) (rank rs n) ≡ Some i
unfolding rank
placed [] n i e = let z : ◌≡◌ {A = ℕ} 0 1 = cc in absurd (omega arith)
placed (None ∷ rs) zero i e = let z : ◌≡◌ {A = ℕ} 0 1 = cc in absurd (omega arith)
placed (Some j ∷ rs) zero i e = cc
placed (None ∷ rs) (suc n) i e = placed rs n i e
placed (Some j ∷ rs) (suc n) i e = placed rs n i e

-- each instruction comes from a record, at whose rank it stands
pub source : (rs : List (Option Instruction)) (k : ℕ) (i : Instruction) → slice_get (instructions rs) k ≡ Some i → (n : ℕ) × (slice_get rs n ≡ Some (Some i)) × (k ≡ rank rs n)
unfolding rank
source [] k i e = let z : ◌≡◌ {A = ℕ} 0 1 = cc in absurd (omega arith)
source (None ∷ rs) k i e = let p = source rs k i e in (suc p.0, p.1, p.2)
source (Some j ∷ rs) zero i e = (zero, (cc), refl)
source (Some j ∷ rs) (suc k) i e = let p = source rs k i e in (suc p.0, p.1, ap suc p.2)

-- empty records have no instruction
pub none_in : (rs : List (Option Instruction)) → ((n : ℕ) (o : Option Instruction) → slice_get rs n ≡ Some o → o ≡ None) → instructions rs ≡ []
none_in [] h = refl
none_in (None ∷ rs) h = none_in rs (λ n o e. h (suc n) o e)
none_in (Some i ∷ rs) h =
    let w : Some i ≡ None = h zero (Some i) refl in
    let z : ◌≡◌ {A = ℕ} 0 1 = cc in
    absurd (omega arith)
