-- A row that no step of a text goes past, and before which no text ends, has a field in every text of good order. Assumes nothing.
use Rattle.std.proofs.Common.{◌≡◌, ℕ, zero, suc, ◌+◌, ◌-◌, ◌<◌, Bool, true, false, cond, not, ◌&&◌, eqb, ltb, List, [], ◌∷◌, map, length, is_some, Some, None, Option, unwrap_or, refl, ap, ◌∙◌, inl, inr, arith}
use Rattle.std.proofs.lemmas.Bool.{and_parts, not-true, both_ways, cond-true, cond-false, eq-eqb, ne_eqb, ltb-true, cases_order}
use Rattle.fields.specs.declared.walk.Field.{Field as TextField}
use Rattle.sheet.specs.Rows.{Row}
use Rattle.sheet.specs.Keys.{key_of, find_row}
use Rattle.sheet.specs.Steps.{scan, step, follows, may_end}
use Rattle.sheet.specs.Order.{allowed, order_from}
use Rattle.reader.specs.Tables.{entry_of}
use Rattle.message.specs.Values.{values_of}
use Rattle.message.proofs.Never.{some_none}

-- a test of each number below n
abbrev pub below : ℕ → (ℕ → Bool) → Bool
below zero p = true
below (suc n) p = p n && below n p

below_at : (n : ℕ) (p : ℕ → Bool) → below n p ≡ true → (i : ℕ) → i < n → p i ≡ true
below_at zero p h i l = absurd (omega arith)
below_at (suc n) p h i l =
    let q = and_parts (p n) (below n p) h in
    elim (cases_order i n) [
      | inl e ↦ ap p e ∙ q.0
      | inr o ↦ elim o [ inl k ↦ below_at n p q.1 i k | inr k ↦ absurd (omega arith) ]
    ]

-- where `last` is the row read last, no row behind row r may come next, and the text may not end
abbrev pub stays : List Row → ℕ → Option ℕ → Bool
stays rows r last = not (may_end rows last) && below (length rows - suc r) (λ j. not (follows rows last (suc r + j)))

-- that is so of every row before row r, and at the start
abbrev pub required : List Row → ℕ → Bool
required rows r = stays rows r None && below r (λ l. stays rows r (Some l))

abbrev Earlier : Option ℕ → ℕ → Type 0
Earlier None r = Unit {0}
Earlier (Some l) r = l < r

module _ (rows : List Row) where
  stays_at : (r : ℕ) → required rows r ≡ true → (last : Option ℕ) → Earlier last r → stays rows r last ≡ true
  stays_at r h None e = (and_parts (stays rows r None) (below r (λ l. stays rows r (Some l))) h).0
  stays_at r h (Some l) e = below_at r (λ l. stays rows r (Some l)) (and_parts (stays rows r None) (below r (λ l. stays rows r (Some l))) h).1 l e

  row_within : (last : Option ℕ) (i : ℕ) → follows rows last i ≡ true → i < length rows
  row_within None i h = ltb-true _ _ (and_parts (ltb i (length rows)) (scan rows zero i) h).0
  row_within (Some l) i h = ltb-true _ _ (and_parts (ltb i (length rows)) (ltb l (length rows) && step rows l i) h).0

  module _ (r : ℕ) (h : required rows r ≡ true) where
    goes_on : (last : Option ℕ) → Earlier last r → may_end rows last ≡ true → ⊥
    goes_on last e m =
        both_ways (may_end rows last) (not-true _ (and_parts (not (may_end rows last)) (below (length rows - suc r) (λ j. not (follows rows last (suc r + j)))) (stays_at r h last e)).0) m

    -- the next row is not behind row r
    not_past : (last : Option ℕ) → Earlier last r → (i : ℕ) → follows rows last i ≡ true → r < i → ⊥
    not_past last e i f l =
        let w = row_within last i f in
        let n : suc r + (i - suc r) ≡ i = omega arith in
        let k : i - suc r < length rows - suc r = omega arith in
        let s = below_at (length rows - suc r) (λ j. not (follows rows last (suc r + j)))
        (and_parts (not (may_end rows last)) (below (length rows - suc r) (λ j. not (follows rows last (suc r + j)))) (stays_at r h last e)).1 (i - suc r) k in
        both_ways (follows rows last (suc r + (i - suc r))) (not-true _ s) (ap (follows rows last) n ∙ f)

    module _ (text : List ℕ) where
      -- the row of the next field may come next, and the rest goes on from there
      abbrev Stepped : Option ℕ → TextField → List TextField → Type 0
      Stepped last f fs =
          (i : ℕ) × (find_row rows (key_of text f) ≡ Some i) × (follows rows last i ≡ true) × (order_from rows text (Some i) fs ≡ None)

      step_of : (last : Option ℕ) (f : TextField) (fs : List TextField) → order_from rows text last (f ∷ fs) ≡ None → Stepped last f fs
      step_of last f fs e = by (find_row rows (key_of text f)) refl e
        where
          on : (i : ℕ) → find_row rows (key_of text f) ≡ Some i → (b : Bool) → follows rows last i ≡ b
              → cond (is_some (cond b (Some i) None)) (order_from rows text (cond b (Some i) None) fs) (Some f.start) ≡ None
              → Stepped last f fs
          on i p true q e = (i, p, q, e)
          on i p false q e = some_none f.start e

          by : (o : Option ℕ) → find_row rows (key_of text f) ≡ o
              → cond (is_some (allowed rows last o)) (order_from rows text (allowed rows last o) fs) (Some f.start) ≡ None
              → Stepped last f fs
          by None p e = some_none f.start e
          by (Some i) p e = on i p (follows rows last i) refl e

      abbrev pub Present : List TextField → Type 0
      Present fs = (v : List ℕ) × (vs : List (List ℕ)) × (values_of text (map (entry_of rows text) fs) r ≡ v ∷ vs)

      ended : (last : Option ℕ) → (b : Bool) → may_end rows last ≡ b → cond b None (Some (length text)) ≡ None → may_end rows last ≡ true
      ended last true q e = q
      ended last false q e = some_none (length text) e

      pub present : (last : Option ℕ) → Earlier last r → (fs : List TextField) → order_from rows text last fs ≡ None
          → Present fs
      present last l [] e = absurd (goes_on last l (ended last (may_end rows last) refl e))
      present last l (f ∷ fs) e = by (λ i k o. present (Some i) k fs o) (step_of last f fs e)
        where
          by : ((i : ℕ) → i < r → order_from rows text (Some i) fs ≡ None → Present fs)
              → Stepped last f fs
              → Present (f ∷ fs)
          by later (i, p, q, o) =
              let row : eqb (unwrap_or (find_row rows (key_of text f)) (length rows)) r ≡ eqb i r =
              ap (λ (x : Option ℕ). eqb (unwrap_or x (length rows)) r) p in
              elim (cases_order i r) [
                | inl k ↦ (_, _, cond-true _ _ _ (row ∙ eq-eqb i r k))
                | inr s ↦ elim s [
                  | inl k ↦
                      (let n = later i k o in (n.0, n.1, cond-false _ _ _ (row ∙ ne_eqb i r (λ t. omega arith)) ∙ n.2))
                  | inr k ↦ absurd (not_past last l i q k)
                ]
              ]
