-- A quantity that is read is one that is spelled, and back. Assumes nothing.
use Rattle.std.proofs.Common.{◌≡◌, ℕ, ◌^◌, ◌<◌, Bool, true, false, leb, List, [], ◌∷◌, ◌++◌, IfSome, Some, None, codes, decimal, Option, sym, refl, ap, ◌∙◌, arith}
use Rattle.std.proofs.lemmas.Bool.{le-leb, leb-true, cond-true}
use Rattle.format.specs.Texts.{after_word}
use Rattle.format.specs.Numbers.{number}
use Rattle.format.specs.Quantity.{InQuantity, quantity_text, read_quantity, quantity_number, quantity_ends, quantity_done}
use Rattle.format.specs.Laws.{Decoded, Once}
use Rattle.format.proofs.Decoding.{decoded, once}
use Rattle.format.proofs.Steps.{then_some}
use Rattle.format.proofs.NumberLaws.{number_complete, found_then, word_right, number_right}

complete : (n : ℕ) → InQuantity n → read_quantity (quantity_text n) ≡ Some n
complete n h =
    sym (then_some quantity_ends (sym (number_complete 12 n (codes ",") (omega arith) (omega arith) (omega arith) (omega arith) refl))
    (sym (cond-true _ (Some n) None (le-leb n 100000000000 h.1))))

abbrev Meant : List ℕ → ℕ → Type 0
Meant s n = InQuantity n × (s ≡ quantity_text n)

right : (s : List ℕ) → IfSome (read_quantity s) (Meant s)
right s =
    found_then (after_word (codes "UNIT/") s) quantity_number _ (Meant s) (word_right (codes "UNIT/") s) (λ t a.
    found_then (number 12 t) quantity_ends _ (Meant s) (number_right 12 t (omega arith) (omega arith)) (λ p b.
    found_then (after_word (codes ",") p.1) (quantity_done p.0) _ (Meant s) (word_right (codes ",") p.1) (λ u d.
    by p.0 u b.0.0 (a ∙ ap (λ (x : List ℕ). codes "UNIT/" ++ x) (b.1 ∙ ap (λ (x : List ℕ). decimal p.0 ++ x) d)) (leb p.0 100000000000) refl)))
  where
    by : (n : ℕ) (u : List ℕ) → 0 < n → s ≡ codes "UNIT/" ++ (decimal n ++ (codes "," ++ u)) → (b : Bool) → leb n 100000000000 ≡ b → IfSome (quantity_done n u) (Meant s)
    by n [] h e true q = rw q ((h, leb-true n 100000000000 q), e)
    by n [] h e false q = rw q tt
    by n (c ∷ u) h e b q = tt

pub quantity_decoded : (v : List ℕ) (r : Option ℕ) → r ≡ read_quantity v → Decoded InQuantity quantity_text v r
quantity_decoded = decoded InQuantity quantity_text read_quantity right complete

pub quantity_once : Once InQuantity quantity_text
quantity_once = once InQuantity quantity_text read_quantity complete

-- what is read is in range
pub quantity_in_lem : (v : List ℕ) (n : ℕ) → read_quantity v ≡ Some n → InQuantity n
quantity_in_lem v n e = (quantity_decoded v (Some n) (sym e)).0

pub quantity_fits : (v : List ℕ) (n : ℕ) → read_quantity v ≡ Some n → n < 2 ^ 64
quantity_fits v n e = omega (arith, (quantity_in_lem v n e).1)
