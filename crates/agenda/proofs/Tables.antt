-- What stands at the place of a number. Assumes nothing.
use Rattle.std.proofs.Common.{◌≡◌, ℕ, zero, suc, ◌<◌, ◌≤◌, length, get_or, Some, None, Option, sym, refl, ap, ◌∙◌, arith}
use Rattle.std.specs.List.{slice_get}
use Rattle.std.proofs.lemmas.Option.{slice_get_read, slice_get_past}
use Rattle.agenda.specs.declared.question.Question.{Question}
use Rattle.agenda.specs.Agendas.{Table, asked, place_of, there}

asked_at : (table : Table) (n k : ℕ) → Some k ≡ place_of n → asked table n ≡ there (slice_get table k)
asked_at table zero k e = let z : ◌≡◌ {A = ℕ} 0 1 = cc in absurd (omega arith)
asked_at table (suc m) k e = let same : m ≡ k = cc in ap (λ i. there (slice_get table i)) same

pub asked_there : (table : Table) (n k : ℕ) (o : Option Question) → Some k ≡ place_of n → k < length table → o ≡ get_or table k o → o ≡ asked table n
asked_there table n k o e h is = sym (asked_at table n k e ∙ ap there (slice_get_read table (length table) k o refl h is))

pub asked_past : (table : Table) (n k : ℕ) → Some k ≡ place_of n → length table ≤ k → asked table n ≡ None
asked_past table n k e h = asked_at table n k e ∙ ap there (slice_get_past table k h)
