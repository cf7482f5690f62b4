-- An instruction that is read says something. Assumes nothing.
use Rattle.std.proofs.Common.{◌≡◌, ℕ, true, List, [], ◌∷◌, is_some, None, Option, refl, ap, ◌∙◌}
use Rattle.std.proofs.ByRecursion.{All-weaker}
use Rattle.std.specs.List.{AllByRecursion}
use Rattle.format.specs.Quantity.{read_quantity}
use Rattle.format.specs.Simple.{is_reference, is_account, is_option_number}
use Rattle.format.specs.Texts.{and_then}
use Rattle.format.specs.Vote.{read_vote}
use Rattle.sheet.specs.Order.{order_fault}
use Rattle.sheet.specs.Rows.{FieldRow}
use Rattle.sheet.specs.declared.rows.Format.TheVariants.{Reference, Vote}
use Rattle.sheet.specs.declared.marks.Mark.TheVariants.{Once, AnyNumber}
use Rattle.sheets.specs.declared.standard.StandardSheet.TheVariants.{Mt565}
use Rattle.sheets.specs.Codes.{among, instruction_functions}
use Rattle.sheets.specs.Standards.{codes_of}
use Rattle.sheets.specs.Tables.{rows565}
use Rattle.sheets.specs.Words.{tag, qualifier, only}
use Rattle.reader.specs.declared.table.Entry.{Entry}
use Rattle.reader.specs.Tables.{table_of}
use Rattle.reader.specs.Values.{value_fault}
use Rattle.message.specs.declared.rows.Keyed.{Keyed}
use Rattle.message.specs.Instructing.{function_of, function_in, previous_of, previous_in, isin_in, isin_of, instruction_in}
use Rattle.message.specs.Rows.{in565}
use Rattle.message.specs.Values.{first, values_of, content_in, as_reference, as_text}
use Rattle.message.specs.Voting.{vote_of, votes_of, counted, votes_in}
use Rattle.message.proofs.Decoding.{then_there, mapped_there, among_each, reference_there, account_there, option_there, isin_there, suits_content, values_suit, whole_there, part_there}
use Rattle.message.proofs.Suiting.{Suits}

-- 23G has one of the two functions
function_there : (v : List ℕ) → among instruction_functions v ≡ true → is_some (function_of v) ≡ true
function_there = among_each (λ v. is_some (function_of v) ≡ true) instruction_functions (refl, (refl, tt))

-- each value of 70E is a vote
abbrev vote_row : FieldRow
vote_row = record { mark = AnyNumber; tag = tag "70E"; qualifiers = only "INST"; format = Vote }

vote_there : (v : List ℕ) → Suits (codes_of Mt565 26) vote_row v → is_some (vote_of v) ≡ true
vote_there v s =
    let c = suits_content (codes_of Mt565 26) vote_row (qualifier "INST") refl (λ c. is_some (read_vote c)) (λ v. refl) v s in
    ap (λ (o : Option (List ℕ)). is_some (and_then o read_vote)) c.1 ∙ c.2

-- and each value of PREV a reference
abbrev previous_row : FieldRow
previous_row = record { mark = Once; tag = tag "20C"; qualifiers = only "PREV"; format = Reference }

previous_there : (vs : List (List ℕ)) → AllByRecursion (Suits (codes_of Mt565 8) previous_row) vs → is_some (previous_of (first vs)) ≡ true
previous_there [] a = refl
previous_there (v ∷ vs) a =
    let c = suits_content (codes_of Mt565 8) previous_row (qualifier "PREV") refl is_reference (λ v. refl) v a.0 in
    mapped_there _ _ (ap (λ (o : Option (List ℕ)). is_some (and_then o as_reference)) c.1 ∙ reference_there c.0 c.2)

votes_there : (vs : List (List ℕ)) → AllByRecursion (λ v. is_some (vote_of v) ≡ true) vs → is_some (votes_of vs) ≡ true
votes_there [] a = refl
votes_there (v ∷ vs) a = then_there (vote_of v) _ a.0 (λ w. mapped_there (λ ws. w ∷ ws) (votes_of vs) (votes_there vs a.1))

module _ (text : List ℕ) (ordered : order_fault rows565 text ≡ None) (valued : value_fault rows565 (codes_of Mt565) text ≡ None) where
  abbrev es : List Entry
  es = table_of rows565 text

  function : is_some (function_in text es) ≡ true
  function =
      let t = whole_there rows565 (codes_of Mt565) text ordered valued 3 _ refl refl refl in
      ap (λ (o : Option (List ℕ)). is_some (and_then o function_of)) t.1 ∙ function_there t.0 t.2

  previous : is_some (previous_in text es) ≡ true
  previous = previous_there (values_of text es 8) (values_suit rows565 (codes_of Mt565) text ordered valued 8 previous_row refl)

  isin : is_some (isin_in text es) ≡ true
  isin =
      let t = whole_there rows565 (codes_of Mt565) text ordered valued 12 _ refl refl refl in
      ap (λ (o : Option (List ℕ)). is_some (and_then o isin_of)) t.1 ∙ isin_there t.0 t.2

  votes : is_some (votes_in text es) ≡ true
  votes =
      mapped_there counted (votes_of (values_of text es 26))
      (votes_there (values_of text es 26)
      (All-weaker (Suits (codes_of Mt565 26) vote_row) (λ v. is_some (vote_of v) ≡ true) vote_there (values_of text es 26)
      (values_suit rows565 (codes_of Mt565) text ordered valued 26 vote_row refl)))

  abbrev Part : {A : Type 0} → Keyed → (List ℕ → Option A) → Type 0
  Part k read = is_some (and_then (content_in text es k) read) ≡ true

  event : Part (in565 "20C" "CORP") as_reference
  event = part_there rows565 (codes_of Mt565) text ordered valued _ _ refl refl refl is_reference (λ v. refl) as_reference reference_there

  reference : Part (in565 "20C" "SEME") as_reference
  reference = part_there rows565 (codes_of Mt565) text ordered valued _ _ refl refl refl is_reference (λ v. refl) as_reference reference_there

  account : Part (in565 "97A" "SAFE") as_text
  account = part_there rows565 (codes_of Mt565) text ordered valued _ _ refl refl refl is_account (λ v. refl) as_text account_there

  holding : Part (in565 "36B" "OWND") read_quantity
  holding = part_there rows565 (codes_of Mt565) text ordered valued _ _ refl refl refl (λ c. is_some (read_quantity c)) (λ v. refl) read_quantity (λ c h. h)

  option : Part (in565 "13A" "CAON") as_text
  option = part_there rows565 (codes_of Mt565) text ordered valued _ _ refl refl refl is_option_number (λ v. refl) as_text option_there

  quantity : Part (in565 "36B" "QINS") read_quantity
  quantity = part_there rows565 (codes_of Mt565) text ordered valued _ _ refl refl refl (λ c. is_some (read_quantity c)) (λ v. refl) read_quantity (λ c h. h)

  pub instruction_there : is_some (instruction_in text es) ≡ true
  instruction_there =
      then_there _ _ event (λ a.
      then_there _ _ reference (λ b.
      then_there _ _ function (λ c.
      then_there _ _ previous (λ p.
      then_there _ _ isin (λ d.
      then_there _ _ account (λ e.
      then_there _ _ holding (λ f.
      then_there _ _ option (λ g.
      then_there _ _ quantity (λ h.
      then_there _ _ votes (λ i. refl))))))))))
