-- What records mean, at their places.
use Rattle.std.proofs.Common.{◌≡◌, ℕ, zero, suc, ◌+◌, ◌<◌, ◌≤◌, [], ◌∷◌, length, get_or, set, take, count_by, cond, is_some, is_none, true, Some, None, Option, sym, refl, ap, ◌∙◌, arith}
use Rattle.std.specs.List.{slice_get, position, position_from}
use Rattle.std.specs.Option.{option_map}
use Rattle.std.proofs.lemmas.List.{map-set}
use Rattle.std.proofs.lemmas.List.Recursion.{is_count_by}
use Rattle.std.proofs.lemmas.List.Quantifiers.{position-Some}
use Rattle.std.proofs.lemmas.Iterator.Adapters.{position_from-zero}
use Rattle.std.proofs.lemmas.Option.{slice_get-get_or, slice_get-map, slice_get_past}
use Rattle.book.specs.declared.record.Standing.{Standing}
use Rattle.book.specs.Book.{Instruction, Records, held, instructions, meaning, meanings}
use Rattle.book.proofs.Weights.{size_of}

pub meant_at : (rs : Records) (n : ℕ) (d r : Option Standing) → n < length rs → get_or rs n d ≡ r → slice_get (meanings rs) n ≡ Some (meaning r)
meant_at rs n d r h e = slice_get-map meaning rs n ∙ ap (option_map meaning) (slice_get-get_or rs n d h ∙ ap {B = Option (Option Standing)} Some e)

pub meant_past : (rs : Records) (n : ℕ) → length rs ≤ n → slice_get (meanings rs) n ≡ None
meant_past rs n h = slice_get-map meaning rs n ∙ ap (option_map meaning) (slice_get_past rs n h)

-- what is written over a record is what that means
pub meant_set : (rs : Records) (n : ℕ) (r : Option Standing) → meanings (set rs n r) ≡ set (meanings rs) n (meaning r)
meant_set rs n r = map-set meaning rs n r

-- the records that hold an instruction are as many as the instructions
pub count_meant : (rs : Records) → length (instructions (meanings rs)) ≡ count_by is_some rs
count_meant rs = is_count_by (λ xs. length (instructions (meanings xs))) is_some refl more rs
  where
    more : (r : Option Standing) (xs : Records) → length (instructions (meanings (r ∷ xs))) ≡ cond (is_some r) (1 + length (instructions (meanings xs))) (length (instructions (meanings xs)))
    more None xs = refl
    more (Some s) xs = let n = length (instructions (meanings xs)) in omega arith

-- an empty record is found where there is one, and it is empty
pub empty_found : (rs : Records) (n : ℕ) → position is_none rs ≡ Some n → slice_get (meanings rs) n ≡ Some None
empty_found rs n e =
    let h = position-Some is_none rs n None e in
    meant_at rs n None None h.0 (is_empty (get_or rs n None) h.1)
  where
    is_empty : (r : Option Standing) → is_none r ≡ true → r ≡ None
    is_empty None e = refl
    is_empty (Some s) e = let z : ◌≡◌ {A = ℕ} 0 1 = cc in absurd (omega arith)

pub none_empty : (rs : Records) → position is_none rs ≡ None → (n : ℕ) → slice_get (meanings rs) n ≡ Some None → ⊥
none_empty rs e = none_from rs 0 (sym (position_from-zero is_none rs) ∙ e)
  where
    none_from : (rs : Records) (k : ℕ) → position_from is_none k rs ≡ None → (n : ℕ) → slice_get (meanings rs) n ≡ Some None → ⊥
    none_from [] k e n h = let z : ◌≡◌ {A = ℕ} 0 1 = cc in omega arith
    none_from (None ∷ rs) k e n h = let z : ◌≡◌ {A = ℕ} 0 1 = cc in omega arith
    none_from (Some s ∷ rs) k e zero h = let z : ◌≡◌ {A = ℕ} 0 1 = cc in omega arith
    none_from (Some s ∷ rs) k e (suc n) h = none_from rs (k + 1) e n h

-- one more record counted
pub count_take : (rs : Records) (n : ℕ) (o : Option Instruction) → slice_get (meanings rs) n ≡ Some o → length (instructions (meanings (take (suc n) rs))) ≡ length (instructions (meanings (take n rs))) + size_of o
count_take [] n o e = let z : ◌≡◌ {A = ℕ} 0 1 = cc in absurd (omega arith)
count_take (r ∷ rs) zero o e = let w : meaning r ≡ o = cc in first (meaning r) o w
  where
    first : (m o : Option Instruction) → m ≡ o → length (instructions (m ∷ [])) ≡ 0 + size_of o
    first None None w = refl
    first None (Some i) w = let z : ◌≡◌ {A = ℕ} 0 1 = cc in absurd (omega arith)
    first (Some i) None w = let z : ◌≡◌ {A = ℕ} 0 1 = cc in absurd (omega arith)
    first (Some i) (Some j) w = refl
count_take (r ∷ rs) (suc n) o e = let h = count_take rs n o e in more (meaning r) h
  where
    more : (m : Option Instruction) → length (instructions (meanings (take (suc n) rs))) ≡ length (instructions (meanings (take n rs))) + size_of o → length (instructions (m ∷ meanings (take (suc n) rs))) ≡ length (instructions (m ∷ meanings (take n rs))) + size_of o
    more None h = h
    more (Some i) h = omega arith

-- what is held is in the record
pub held_some : (o : Option (Option Instruction)) (i : Instruction) → Some i ≡ held o → o ≡ Some (Some i)
held_some None i e = let z : ◌≡◌ {A = ℕ} 0 1 = cc in absurd (omega arith)
held_some (Some None) i e = let z : ◌≡◌ {A = ℕ} 0 1 = cc in absurd (omega arith)
held_some (Some (Some j)) i e = cc
