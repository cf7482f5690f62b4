-- Which values have the format of their row. Assumes nothing.
use Rattle.std.specs.Prelude.{ℕ, Bool, true, false, cond, List, [], ◌∷◌, is_some, Some, None, Option}
use Rattle.std.specs.List.{slice_get}
use Rattle.fields.specs.declared.headers.Qualifier.{Qualifier}
use Rattle.fields.specs.declared.walk.Field.{Field as TextField}
use Rattle.fields.specs.Fields.{fields, value_in}
use Rattle.format.specs.Texts.{after_word, or_false}
use Rattle.format.specs.Simple.{is_reference, is_account, is_timestamp, is_option_number, is_isin, is_owner}
use Rattle.format.specs.Quantity.{read_quantity}
use Rattle.format.specs.Vote.{read_vote}
use Rattle.format.specs.Identifier.{read_identifier}
use Rattle.sheet.specs.declared.rows.Format.{Format}
use Rattle.sheet.specs.declared.rows.Format.TheVariants.{Reference, Code, Timestamp, Isin, Account, Owner, AlternateIdentifier, Quantity, OptionNumber, Vote}
use Rattle.sheet.specs.Rows.{Row}
use Rattle.sheet.specs.Rows.Row.{Open, Close, Field}
use Rattle.sheet.specs.Keys.{key_of, find_row}

-- a qualifier with two slashes, or nothing
abbrev pub headed : Option Qualifier → List ℕ
headed None = []
headed (Some q) = q.0 ∷ q.1 ∷ q.2 ∷ q.3 ∷ 47 ∷ 47 ∷ []

-- what a value says: what stands behind its qualifier and two slashes, and all of it where there is no qualifier
abbrev pub content_of : Option Qualifier → List ℕ → Option (List ℕ)
content_of q value = after_word (headed q) value

-- has what a value says the format? `has` tells the codes of its row. An alternate identifier is told by the whole value.
abbrev pub content_fits : (List ℕ → Bool) → Format → List ℕ → Bool
content_fits has Reference c = is_reference c
content_fits has Code c = has c
content_fits has Timestamp c = is_timestamp c
content_fits has Isin c = is_isin c
content_fits has Account c = is_account c
content_fits has Owner c = is_owner c
content_fits has AlternateIdentifier c = false
content_fits has Quantity c = is_some (read_quantity c)
content_fits has OptionNumber c = is_option_number c
content_fits has Vote c = is_some (read_vote c)

-- has the value the format, under this qualifier?
abbrev pub value_fits : (List ℕ → Bool) → Option Qualifier → Format → List ℕ → Bool
value_fits has q Reference v = or_false (content_of q v) (content_fits has Reference)
value_fits has q Code v = or_false (content_of q v) (content_fits has Code)
value_fits has q Timestamp v = or_false (content_of q v) (content_fits has Timestamp)
value_fits has q Isin v = or_false (content_of q v) (content_fits has Isin)
value_fits has q Account v = or_false (content_of q v) (content_fits has Account)
value_fits has q Owner v = or_false (content_of q v) (content_fits has Owner)
value_fits has q AlternateIdentifier v = is_some (read_identifier v)
value_fits has q Quantity v = or_false (content_of q v) (content_fits has Quantity)
value_fits has q OptionNumber v = or_false (content_of q v) (content_fits has OptionNumber)
value_fits has q Vote v = or_false (content_of q v) (content_fits has Vote)

-- has the value what its row asks for? A field that begins or ends a block has no more to it than its key.
abbrev pub row_fits : (List ℕ → Bool) → Option Qualifier → Option Row → List ℕ → Bool
row_fits has q None v = false
row_fits has q (Some (Open m n)) v = true
row_fits has q (Some (Close n)) v = true
row_fits has q (Some (Field f)) v = value_fits has q f.format v

-- the same of the row of this number, if any
abbrev pub number_fits : List Row → (ℕ → Option Qualifier → List ℕ → Bool) → Option Qualifier → Option ℕ → List ℕ → Bool
number_fits rows codes q None v = false
number_fits rows codes q (Some i) v = row_fits (codes i q) q (slice_get rows i) v

-- has a field of the text the format of its row?
abbrev pub field_fits : List Row → (ℕ → Option Qualifier → List ℕ → Bool) → List ℕ → TextField → Bool
field_fits rows codes text f = number_fits rows codes f.qualifier (find_row rows (key_of text f)) (value_in text f)

-- the start of the first value of these fields that has not its row's format
abbrev pub value_from : List Row → (ℕ → Option Qualifier → List ℕ → Bool) → List ℕ → List TextField → Option ℕ
value_from rows codes text [] = None
value_from rows codes text (f ∷ fs) = cond (field_fits rows codes text f) (value_from rows codes text fs) (Some f.value)

abbrev pub value_fault : List Row → (ℕ → Option Qualifier → List ℕ → Bool) → List ℕ → Option ℕ
value_fault rows codes text = value_from rows codes text (fields text)
