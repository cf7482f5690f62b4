-- What the text of an instruction says, by its field table. Assumes nothing.
use Rattle.std.specs.Prelude.{ℕ, cond, List, [], ◌∷◌, drop, Some, None, codes, Option, ◌==◌}
use Rattle.std.specs.Option.{option_map}
use Rattle.std.specs.Str.{bytes_eq}
use Rattle.format.specs.declared.identifiers.IdentifierParts.{IdentifierParts}
use Rattle.format.specs.Texts.{and_then, after_word}
use Rattle.format.specs.Identifier.{read_identifier}
use Rattle.reader.specs.declared.table.Entry.{Entry}
use Rattle.reader.specs.Values.{content_of}
use Rattle.sheets.specs.Tables.{rows565}
use Rattle.sheets.specs.Words.{qualifier}
use Rattle.message.specs.declared.instruction.Function.{Function}
use Rattle.message.specs.declared.instruction.Function.TheVariants.{New, Cancel}
use Rattle.message.specs.Instructions.{RightsText}
use Rattle.message.specs.Rows.{row_of, in565}
use Rattle.message.specs.Said.{SaidInstruction}
use Rattle.message.specs.Voting.{votes_in}
use Rattle.message.specs.Values.{value_at, values_of, value_of, as_reference, reference_in, as_text, text_in, quantity_in}

-- 23G: what the instruction is for
abbrev pub function_of : List ℕ → Option Function
function_of v = cond (bytes_eq v (codes "NEWM")) (Some New) (cond (bytes_eq v (codes "CANC")) (Some Cancel) None)

abbrev pub function_in : List ℕ → List Entry → Option Function
function_in text es = and_then (value_of text es (row_of rows565 "23G" None)) function_of

-- PREV: its reference, where there is such a field
abbrev pub previous_of : Option (List ℕ) → Option (Option (List ℕ))
previous_of None = Some None
previous_of (Some v) = option_map (λ c. Some c) (and_then (content_of (Some (qualifier "PREV")) v) as_reference)

abbrev pub previous_in : List ℕ → List Entry → Option (Option (List ℕ))
previous_in text es = previous_of (value_of text es (in565 "20C" "PREV").row)

-- 35B: what stands behind the word ISIN and a space
abbrev pub isin_of : List ℕ → Option (List ℕ)
isin_of v = and_then (after_word (codes "ISIN ") v) as_text

abbrev pub isin_in : List ℕ → List Entry → Option (List ℕ)
isin_in text es = and_then (value_of text es (row_of rows565 "35B" None)) isin_of

-- 95S: the country and the text of an alternate identifier that has the code RHID
abbrev pub rights_from : List ℕ → IdentifierParts → Option RightsText
rights_from v p = cond (bytes_eq p.code (codes "RHID")) (Some (record { country = p.country; identifier = drop p.start v })) None

abbrev pub rights_of_value : List ℕ → Option RightsText
rights_of_value v = and_then (read_identifier v) (rights_from v)

-- those of values
abbrev pub before : {A : Type 0} → Option A → List A → List A
before None rest = rest
before (Some a) rest = a ∷ rest

abbrev pub rights_among : List (List ℕ) → List RightsText
rights_among [] = []
rights_among (v ∷ vs) = before (rights_of_value v) (rights_among vs)

-- that of an entry, if it is of 95S and has one; and those of all entries
abbrev pub rights_of_entry : List ℕ → Entry → Option RightsText
rights_of_entry text e = cond (e.row == (in565 "95S" "ALTE").row) (rights_of_value (value_at text e)) None

abbrev pub all_rights : List ℕ → List Entry → List RightsText
all_rights text es = rights_among (values_of text es (in565 "95S" "ALTE").row)

-- where there is just one, that one
abbrev pub single : {A : Type 0} → List A → Option A
single [] = None
single (a ∷ []) = Some a
single (a ∷ b ∷ rest) = None

abbrev pub rights_in : List ℕ → List Entry → Option RightsText
rights_in text es = single (all_rights text es)

-- all parts, one after the other; nothing, where one of them cannot be read
abbrev pub instruction_in : List ℕ → List Entry → Option SaidInstruction
instruction_in text es =
    and_then (reference_in text es (in565 "20C" "CORP")) (λ event.
    and_then (reference_in text es (in565 "20C" "SEME")) (λ reference.
    and_then (function_in text es) (λ function.
    and_then (previous_in text es) (λ previous.
    and_then (isin_in text es) (λ isin.
    and_then (text_in text es (in565 "97A" "SAFE")) (λ account.
    and_then (quantity_in text es (in565 "36B" "OWND")) (λ holding.
    and_then (text_in text es (in565 "13A" "CAON")) (λ option.
    and_then (quantity_in text es (in565 "36B" "QINS")) (λ quantity.
    and_then (votes_in text es) (λ votes.
    Some (record {
      event = event;
      reference = reference;
      function = function;
      previous = previous;
      isin = isin;
      account = account;
      rights = rights_in text es;
      holding = holding;
      option = option;
      quantity = quantity;
      votes = votes.0;
      count = votes.1;
    })))))))))))
