-- A field fits exactly when its value has its row's format. Assumes nothing.
use Rattle.std.proofs.Common.{◌≡◌, ℕ, Bool, true, false, List, is_some, Some, None, Decides, Option, sym, refl, ap, ◌∙◌, subst}
use Rattle.std.specs.Option.{option_map}
use Rattle.std.proofs.lemmas.Bool.{both_ways}
use Rattle.fields.specs.Characters.{set_x, digit, alphanumeric}
use Rattle.fields.specs.Fields.{value_in}
use Rattle.fields.specs.declared.headers.Qualifier.{Qualifier}
use Rattle.fields.specs.declared.walk.Field.{Field as TextField}
use Rattle.format.specs.Texts.{after_word, or_false}
use Rattle.format.specs.Laws.{Decoded}
use Rattle.format.specs.Runs.{Of}
use Rattle.format.specs.Simple.{Isin as IsIsin, Lines}
use Rattle.format.specs.Quantity.{InQuantity, quantity_text, read_quantity}
use Rattle.format.specs.Vote.{InVote, vote_spelled, read_vote}
use Rattle.format.specs.Identifier.{Identifier, InIdentifier, identifier_text, identifier_in, parts_of}
use Rattle.format.proofs.NumberLaws.{word_sound, word_complete}
use Rattle.format.proofs.RunLaws.{of_decides, isin_decides, lines_decides}
use Rattle.format.proofs.QuantityLaws.{quantity_decoded}
use Rattle.format.proofs.VoteLaws.{vote_decoded}
use Rattle.format.proofs.IdentifierLaws.{identifier_decoded}
use Rattle.sheet.specs.declared.rows.Format.{Format}
use Rattle.sheet.specs.declared.rows.Format.TheVariants.{Reference, Code, Timestamp, Isin, Account, Owner, AlternateIdentifier, Quantity, OptionNumber, Vote}
use Rattle.sheet.specs.Rows.{Row}
use Rattle.sheet.specs.Rows.Row.{Open, Close, Field}
use Rattle.sheet.specs.Keys.{key_of, find_row}
use Rattle.sheet.specs.Lawful.{Lawful}
use Rattle.sheet.proofs.Keyed.{only_row, found_row}
use Rattle.reader.specs.Reading.{Codes}
use Rattle.reader.specs.Values.{headed, content_of, content_fits, value_fits, row_fits, number_fits, field_fits}
use Rattle.reader.specs.Laws.{Behind, HasFormat, HasRowFormat, Fits}

never : {X : Type 0} → ◌≡◌ {A = Bool} false true → X
never e = absurd (both_ways false refl e)

-- what is decoded is there exactly when something in range is spelled so
decoded_decides : {A : Type 0} (In : A → Type 0) (spelled : A → List ℕ) (v : List ℕ) (r : Option A) → Decoded In spelled v r
    → Decides (is_some r) ((w : A) × In w × (v ≡ spelled w))
decoded_decides In spelled v (Some w) d = ((λ _. (w, d.0, d.1)), (λ _. refl))
decoded_decides In spelled v None d = ((λ e. never e), (λ s. absurd (d s.0 s.1 s.2)))

-- behind the qualifier
behind_decides : (test : List ℕ → Bool) (P : List ℕ → Type 0) → ((c : List ℕ) → Decides (test c) (P c)) → (q : Option Qualifier) (v : List ℕ)
    → Decides (or_false (content_of q v) test) (Behind q v P)
behind_decides test P d q v = (right (content_of q v) refl, complete)
  where
    right : (o : Option (List ℕ)) → content_of q v ≡ o → or_false o test ≡ true → Behind q v P
    right None p e = never e
    right (Some c) p e = (c, word_sound (headed q) v c p, (d c).0 e)

    complete : Behind q v P → or_false (content_of q v) test ≡ true
    complete (c, e, p) =
        let w : content_of q v ≡ Some c = ap (after_word (headed q)) e ∙ word_complete (headed q) c in
        ap (λ (o : Option (List ℕ)). or_false o test) w ∙ (d c).1 p

some_mapped : {A B : Type 0} (f : A → B) (o : Option A) → is_some (option_map f o) ≡ is_some o
some_mapped f None = refl
some_mapped f (Some a) = refl

pub format_decides : (has : List ℕ → Bool) (q : Option Qualifier) (f : Format) (v : List ℕ) → Decides (value_fits has q f v) (HasFormat has q f v)
format_decides has q Reference v = behind_decides (content_fits has Reference) (Of set_x 1 16) (λ c. of_decides set_x 1 16 c _ refl) q v
format_decides has q Code v = behind_decides (content_fits has Code) (λ c. has c ≡ true) (λ c. ((λ e. e), (λ e. e))) q v
format_decides has q Timestamp v = behind_decides (content_fits has Timestamp) (Of digit 14 14) (λ c. of_decides digit 14 14 c _ refl) q v
format_decides has q Isin v = behind_decides (content_fits has Isin) IsIsin (λ c. isin_decides c _ refl) q v
format_decides has q Account v = behind_decides (content_fits has Account) (Of set_x 1 35) (λ c. of_decides set_x 1 35 c _ refl) q v
format_decides has q Owner v = behind_decides (content_fits has Owner) (Lines 10) (λ c. lines_decides 10 c _ refl) q v
format_decides has q AlternateIdentifier v =
    subst (λ (b : Bool). Decides b ((m : Identifier) × InIdentifier m × (v ≡ identifier_text m))) (sym (some_mapped parts_of (identifier_in v)))
    (decoded_decides InIdentifier identifier_text v (identifier_in v) (identifier_decoded v (identifier_in v) refl))
format_decides has q Quantity v =
    behind_decides (content_fits has Quantity) (λ c. (n : ℕ) × InQuantity n × (c ≡ quantity_text n))
    (λ c. decoded_decides InQuantity quantity_text c (read_quantity c) (quantity_decoded c (read_quantity c) refl)) q v
format_decides has q OptionNumber v =
    behind_decides (content_fits has OptionNumber) (Of alphanumeric 3 3) (λ c. of_decides alphanumeric 3 3 c _ refl) q v
format_decides has q Vote v =
    behind_decides (content_fits has Vote) (λ c. (w : _) × InVote w × (c ≡ vote_spelled w))
    (λ c. decoded_decides InVote vote_spelled c (read_vote c) (vote_decoded c (read_vote c) refl)) q v

pub row_decides : (has : List ℕ → Bool) (q : Option Qualifier) (r : Row) (v : List ℕ) → Decides (row_fits has q (Some r) v) (HasRowFormat has q r v)
row_decides has q (Open m n) v = ((λ _. tt), (λ _. refl))
row_decides has q (Close n) v = ((λ _. tt), (λ _. refl))
row_decides has q (Field f) v = format_decides has q f.format v

module _ (rows : List Row) (codes : Codes) (text : List ℕ) where
  pub fits_right : (f : TextField) → field_fits rows codes text f ≡ true → Fits rows codes text f
  fits_right f e = by (find_row rows (key_of text f)) refl e
    where
      by : (o : Option ℕ) → find_row rows (key_of text f) ≡ o → number_fits rows codes f.qualifier o (value_in text f) ≡ true → Fits rows codes text f
      by None p e = never e
      by (Some i) p e =
          let at = found_row rows (key_of text f) i p in
          record {
            number = i;
            row = at.0;
            there = at.1;
            keyed = at.2;
            value =
                (row_decides (codes i f.qualifier) f.qualifier at.0 (value_in text f)).0
                (subst (λ (o : Option Row). row_fits (codes i f.qualifier) f.qualifier o (value_in text f) ≡ true) at.1 e);
          }

  pub fits_complete : Lawful rows → (f : TextField) → Fits rows codes text f → field_fits rows codes text f ≡ true
  fits_complete law f t =
      let q = f.qualifier in
      let v = value_in text f in
      let p : find_row rows (key_of text f) ≡ Some t.number = only_row rows law (key_of text f) t.number (t.row, t.there, t.keyed) in
      ap (λ (o : Option ℕ). number_fits rows codes q o v) p
      ∙ ap (λ (o : Option Row). row_fits (codes t.number q) q o v) t.there
      ∙ (row_decides (codes t.number q) q t.row v).1 t.value
