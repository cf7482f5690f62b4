-- The values of a text, by its field table. Assumes nothing.
use Rattle.std.specs.Prelude.{ℕ, cond, List, [], ◌∷◌, length, take, drop, Some, None, Option, ◌==◌, nat_le}
use Rattle.format.specs.Texts.{and_then}
use Rattle.format.specs.Quantity.{read_quantity}
use Rattle.reader.specs.declared.table.Entry.{Entry}
use Rattle.reader.specs.Values.{content_of}
use Rattle.register.specs.Texts.{is_text}
use Rattle.message.specs.declared.rows.Keyed.{Keyed}

-- the value of an entry
abbrev pub value_at : List ℕ → Entry → List ℕ
value_at text e = take e.len (drop e.start text)

-- the values of the entries of a row, in their order
abbrev pub values_of : List ℕ → List Entry → ℕ → List (List ℕ)
values_of text [] row = []
values_of text (e ∷ es) row = cond (e.row == row) (value_at text e ∷ values_of text es row) (values_of text es row)

-- the first of them, if any
abbrev pub first : {A : Type 0} → List A → Option A
first [] = None
first (a ∷ rest) = Some a

abbrev pub value_of : List ℕ → List Entry → ℕ → Option (List ℕ)
value_of text es row = first (values_of text es row)

-- what stands in it behind the qualifier and two slashes
abbrev pub content_in : List ℕ → List Entry → Keyed → Option (List ℕ)
content_in text es k = and_then (value_of text es k.row) (content_of (Some k.qualifier))

-- that, as a reference: 1 to 16 characters of set x
abbrev pub as_reference : List ℕ → Option (List ℕ)
as_reference c = cond (is_text c) (Some c) None

abbrev pub reference_in : List ℕ → List Entry → Keyed → Option (List ℕ)
reference_in text es k = and_then (content_in text es k) as_reference

-- as a text of at most 35 characters
abbrev pub as_text : List ℕ → Option (List ℕ)
as_text c = cond (nat_le (length c) 35) (Some c) None

abbrev pub text_in : List ℕ → List Entry → Keyed → Option (List ℕ)
text_in text es k = and_then (content_in text es k) as_text

-- and as a quantity of shares
abbrev pub quantity_in : List ℕ → List Entry → Keyed → Option ℕ
quantity_in text es k = and_then (content_in text es k) read_quantity
