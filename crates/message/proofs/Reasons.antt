-- Whether the reasons of a table agree with the code, entry by entry. Assumes nothing.
use Rattle.std.proofs.Common.{◌≡◌, ℕ, Bool, true, false, cond, ◌&&◌, eqb, List, ◌∷◌, take, refl}
use Rattle.std.proofs.lemmas.List.Recursion.{same_from_clauses}
use Rattle.std.specs.List.{list_all}
use Rattle.std.specs.Str.{bytes_eq}
use Rattle.reader.specs.declared.table.Entry.{Entry}
use Rattle.message.specs.Reporting.{all_under, entry_under, agree_in}
use Rattle.message.specs.Values.{value_at, values_of}

module _ (text : List ℕ) (code : List ℕ) where
  first_entry : (e : Entry) (es : List Entry) → agree_in text (e ∷ es) code ≡ (entry_under text code e && agree_in text es code)
  first_entry e es = by (eqb e.row 13)
    where
      by : (b : Bool) → all_under code (cond b (value_at text e ∷ values_of text es 13) (values_of text es 13))
          ≡ (cond b (bytes_eq (take 4 (value_at text e)) code) true && agree_in text es code)
      by true = refl
      by false = refl

  pub all_agree : (es : List Entry) → list_all (entry_under text code) es ≡ agree_in text es code
  all_agree =
      same_from_clauses (list_all (entry_under text code)) (λ es. agree_in text es code) (λ e b. entry_under text code e && b) refl
      (λ e es. refl) first_entry
