-- Rights that are taken, looked for record by record.
use Rattle.std.proofs.Common.{◌≡◌, ℕ, zero, suc, Bool, true, ◌||◌, List, [], ◌∷◌, drop, Some, None, Option, refl, ap, ◌∙◌, inl, inr, arith}
use Rattle.std.specs.List.{slice_get, list_any}
use Rattle.std.proofs.lemmas.Bool.{or_cases, or_left, or_right}
use Rattle.message.specs.Instructions.{RightsText, same_rights}
use Rattle.book.specs.Book.{Instruction, meaning, meanings, Records}
use Rattle.book.specs.Verdicts.{has_rights, shared_in}
use Rattle.book.proofs.Rights.{rights_decides}

-- rights that are looked for among the meanings are looked for in the records
pub shared_meant : (rs : Records) (rights : RightsText) → shared_in (meanings rs) rights ≡ list_any (λ r. has_rights (meaning r) rights) rs
shared_meant [] rights = refl
shared_meant (r ∷ rs) rights = ap (λ (b : Bool). has_rights (meaning r) rights || b) (shared_meant rs rights)

pub shared_cons : (o : Option Instruction) (rs : List (Option Instruction)) (rights : RightsText) → shared_in (o ∷ rs) rights ≡ (has_rights o rights || shared_in rs rights)
shared_cons None rs rights = refl
shared_cons (Some i) rs rights = refl

-- one record further
pub shared_drop : (rs : Records) (n : ℕ) (o : Option Instruction) (rights : RightsText) → slice_get (meanings rs) n ≡ Some o → shared_in (meanings (drop n rs)) rights ≡ (has_rights o rights || shared_in (meanings (drop (suc n) rs)) rights)
shared_drop [] n o rights e = let z : ◌≡◌ {A = ℕ} 0 1 = cc in absurd (omega arith)
shared_drop (r ∷ rs) zero o rights e = let w : meaning r ≡ o = cc in shared_cons (meaning r) (meanings rs) rights ∙ ap (λ (x : Option Instruction). has_rights x rights || shared_in (meanings rs) rights) w
shared_drop (r ∷ rs) (suc n) o rights e = shared_drop rs n o rights e

-- in words: some record holds an instruction with these rights
pub shared_there : (rs : List (Option Instruction)) (rights : RightsText) → shared_in rs rights ≡ true → (n : ℕ) × (i : Instruction) × (slice_get rs n ≡ Some (Some i)) × (i.terms.rights ≡ rights)
shared_there [] rights e = let z : ◌≡◌ {A = ℕ} 0 1 = cc in absurd (omega arith)
shared_there (None ∷ rs) rights e = let p = shared_there rs rights e in (suc p.0, p.1, p.2, p.3)
shared_there (Some i ∷ rs) rights e = elim (or_cases (same_rights i.terms.rights rights) (shared_in rs rights) e) [
  | inl h ↦ (zero, i, refl, (rights_decides i.terms.rights rights).0 h)
  | inr h ↦ (let p = shared_there rs rights h in (suc p.0, p.1, p.2, p.3))
]

pub shared_at : (rs : List (Option Instruction)) (rights : RightsText) (n : ℕ) (i : Instruction) → slice_get rs n ≡ Some (Some i) → i.terms.rights ≡ rights → shared_in rs rights ≡ true
shared_at [] rights n i e r = let z : ◌≡◌ {A = ℕ} 0 1 = cc in absurd (omega arith)
shared_at (None ∷ rs) rights zero i e r = let z : ◌≡◌ {A = ℕ} 0 1 = cc in absurd (omega arith)
shared_at (None ∷ rs) rights (suc n) i e r = shared_at rs rights n i e r
shared_at (Some j ∷ rs) rights zero i e r = let w : j ≡ i = cc in or_left (same_rights j.terms.rights rights) (shared_in rs rights) ((rights_decides j.terms.rights rights).1 (ap (λ (x : Instruction). x.terms.rights) w ∙ r))
shared_at (Some j ∷ rs) rights (suc n) i e r = or_right (same_rights j.terms.rights rights) (shared_in rs rights) (shared_at rs rights n i e r)
