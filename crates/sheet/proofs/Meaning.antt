-- Rows lay out one sheet. Assumes nothing.
use Rattle.std.proofs.Common.{◌≡◌, ℕ, List, [], ◌∷◌, sym, refl, subst, arith}
use Rattle.sheet.specs.Rows.{Row}
use Rattle.sheet.specs.Rows.Row.{Open, Close, Field}
use Rattle.sheet.specs.Sentences.{Parts, laid}
use Rattle.sheet.specs.Sentences.Parts.{end, line, block}

-- rows that begin no part
abbrev Shut : List Row → Type 0
Shut [] = Unit {0}
Shut (Open m n ∷ rs) = ⊥
Shut (Close n ∷ rs) = Unit {0}
Shut (Field f ∷ rs) = ⊥

clash : {A : Type 0} → ◌≡◌ {A = ℕ} 0 1 → A
clash e = absurd (omega arith)

same : (p q : Parts) (s t : List Row) → Shut s → Shut t → laid p s ≡ laid q t → (p ≡ q) × (s ≡ t)
same end end s t h i e = (refl, e)
same end (line g rest) s t h i e = absurd (subst Shut e h)
same end (block n b inner d rest) s t h i e = absurd (subst Shut e h)
same (line f rest) end s t h i e = absurd (subst Shut (sym e) i)
same (line f rest) (line g rest') s t h i e =
    let a : f ≡ g = cc in
    let b : laid rest s ≡ laid rest' t = cc in
    let r = same rest rest' s t h i b in
    let x = r.0 in
    (cc, r.1)
same (line f rest) (block n b inner d rest') s t h i e = clash cc
same (block m a inner c rest) end s t h i e = absurd (subst Shut (sym e) i)
same (block m a inner c rest) (line g rest') s t h i e = clash cc
same (block m a inner c rest) (block n b inner' d rest') s t h i e =
    let e₁ : m ≡ n = cc in
    let e₂ : a ≡ b = cc in
    let e₃ : laid inner (Close c ∷ laid rest s) ≡ laid inner' (Close d ∷ laid rest' t) = cc in
    let r = same inner inner' (Close c ∷ laid rest s) (Close d ∷ laid rest' t) tt tt e₃ in
    let f = r.1 in
    let e₄ : c ≡ d = cc in
    let e₅ : laid rest s ≡ laid rest' t = cc in
    let o = same rest rest' s t h i e₅ in
    let x = r.0 in
    let y = o.0 in
    (cc, o.1)

pub laid_as_one : (p q : Parts) → laid p [] ≡ laid q [] → p ≡ q
laid_as_one p q e = (same p q [] [] tt tt e).0
