-- Rights identifiers are the same exactly where their parts are.
use Rattle.std.proofs.Common.{◌≡◌, ℕ, List, Decides, ap, ◌∙◌}
use Rattle.std.specs.Str.{bytes_eq}
use Rattle.std.proofs.lemmas.Slice.Eq.{bytes_eq-Decides}
use Rattle.std.proofs.lemmas.Bool.Decides.{Decides-and, Decides-like}
use Rattle.message.specs.Instructions.{RightsText, same_rights}

pub rights_decides : (a b : RightsText) → Decides (same_rights a b) (a ≡ b)
rights_decides a b = Decides-like (same_rights a b)
    (λ p. ap (λ (x : List ℕ). record { country = x; identifier = a.identifier }) p.0 ∙ ap (λ (x : List ℕ). record { country = b.country; identifier = x }) p.1)
    (λ e. (ap (λ (x : RightsText). x.country) e, ap (λ (x : RightsText). x.identifier) e))
    (Decides-and (bytes_eq a.country b.country) (bytes_eq a.identifier b.identifier) (bytes_eq-Decides a.country b.country) (bytes_eq-Decides a.identifier b.identifier))
