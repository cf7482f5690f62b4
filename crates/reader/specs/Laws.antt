-- What reading comes to, in the words of the subject. Assumes nothing.
use Rattle.std.specs.Prelude.{◌≡◌, ℕ, ◌<◌, ◌≤◌, Bool, true, List, [], ◌∷◌, ◌++◌, map, length, take, Some, Ok, Err, Option, Result}
use Rattle.std.specs.List.{slice_get}
use Rattle.fields.specs.declared.faults.TextFault.TheVariants as TF
use Rattle.fields.specs.declared.headers.Qualifier.{Qualifier}
use Rattle.fields.specs.declared.walk.Field.{Field as TextField}
use Rattle.fields.specs.Characters.{set_x, digit, alphanumeric}
use Rattle.fields.specs.Fields.{fields, value_in}
use Rattle.fields.specs.Laws.{TextJudged, Told}
use Rattle.format.specs.Runs.{Of}
use Rattle.format.specs.Simple.{Isin as IsIsin, Lines}
use Rattle.format.specs.Quantity.{InQuantity, quantity_text}
use Rattle.format.specs.Vote.{InVote, vote_spelled}
use Rattle.format.specs.Identifier.{Identifier, InIdentifier, identifier_text}
use Rattle.format.specs.declared.votes.VoteText.{VoteText}
use Rattle.sheet.specs.declared.rows.Format.{Format}
use Rattle.sheet.specs.declared.rows.Format.TheVariants.{Reference, Code, Timestamp, Isin, Account, Owner, AlternateIdentifier, Quantity, OptionNumber, Vote}
use Rattle.sheet.specs.Rows.{Row}
use Rattle.sheet.specs.Rows.Row.{Open, Close, Field}
use Rattle.sheet.specs.Keys.{key_of, keys_of, row_has}
use Rattle.sheet.specs.Sentences.{IsSentence}
use Rattle.sheet.specs.Laws.{KeySentence, KeyJudged, Spells}
use Rattle.reader.specs.declared.faults.ReadingFault.{ReadingFault}
use Rattle.reader.specs.declared.faults.ReadingFault.TheVariants.{MessageNumber, Length, Character, Line, Order, Value, Table}
use Rattle.reader.specs.declared.table.Entry.{Entry}
use Rattle.reader.specs.Values.{headed}
use Rattle.reader.specs.Reading.{Codes, sentence_verdict, read_verdict, table_after}

-- the value is its qualifier and two slashes, if it has one, and then something that is P
abbrev pub Behind : Option Qualifier → List ℕ → (List ℕ → Type 0) → Type 0
Behind q v P = (c : List ℕ) × (v ≡ headed q ++ c) × P c

-- the value has the format: it is the spelling of something in range. `has` tells the codes of its row.
abbrev pub HasFormat : (List ℕ → Bool) → Option Qualifier → Format → List ℕ → Type 0
HasFormat has q Reference v = Behind q v (Of set_x 1 16)
HasFormat has q Code v = Behind q v (λ c. has c ≡ true)
HasFormat has q Timestamp v = Behind q v (Of digit 14 14)
HasFormat has q Isin v = Behind q v IsIsin
HasFormat has q Account v = Behind q v (Of set_x 1 35)
HasFormat has q Owner v = Behind q v (Lines 10)
HasFormat has q AlternateIdentifier v = (m : Identifier) × InIdentifier m × (v ≡ identifier_text m)
HasFormat has q Quantity v = Behind q v (λ c. (n : ℕ) × InQuantity n × (c ≡ quantity_text n))
HasFormat has q OptionNumber v = Behind q v (Of alphanumeric 3 3)
HasFormat has q Vote v = Behind q v (λ c. (w : VoteText) × InVote w × (c ≡ vote_spelled w))

-- the value has what the row asks for; one that begins or ends a block has no more to it than its key
abbrev pub HasRowFormat : (List ℕ → Bool) → Option Qualifier → Row → List ℕ → Type 0
HasRowFormat has q (Open m n) v = Unit {0}
HasRowFormat has q (Close n) v = Unit {0}
HasRowFormat has q (Field f) v = HasFormat has q f.format v

-- the field is of a row, and its value has that row's format
pub record Fits (rows : List Row) (codes : Codes) (text : List ℕ) (f : TextField) : Type 0 where
  pub number : ℕ
  pub row : Row
  pub there : slice_get rows number ≡ Some row
  pub keyed : row_has row (key_of text f) ≡ true
  pub value : HasRowFormat (codes number f.qualifier) f.qualifier row (value_in text f)

abbrev pub AllFit : List Row → Codes → List ℕ → List TextField → Type 0
AllFit rows codes text [] = Unit {0}
AllFit rows codes text (f ∷ fs) = Fits rows codes text f × AllFit rows codes text fs

-- the text is a sentence of the sheet: of good length, characters and lines; its fields, which are the text, a sentence by their keys;
-- and each value as its row asks
pub record TextSentence (rows : List Row) (codes : Codes) (text : List ℕ) : Type 0 where
  pub good : TextJudged text (Ok tt)
  pub parts : List TextField
  pub told : Told text parts
  pub ordered : KeySentence rows (keys_of text parts)
  pub values : AllFit rows codes text parts

-- at `place` starts the first value that has not its row's format
pub record Unfit (rows : List Row) (codes : Codes) (text : List ℕ) (place : ℕ) : Type 0 where
  pub before : List TextField
  pub first : TextField
  pub behind : List TextField
  pub cut : fields text ≡ before ++ (first ∷ behind)
  pub starts : place ≡ first.value
  pub fit : AllFit rows codes text before
  pub unfit : Fits rows codes text first → ⊥

-- the questions before the one told are answered yes, and that one no, at that place; or all are answered yes
abbrev pub SentenceJudged : List Row → Codes → List ℕ → Result (Unit {0}) ReadingFault → Type 0
SentenceJudged rows codes text (Ok u) = TextSentence rows codes text
SentenceJudged rows codes text (Err MessageNumber) = ⊥
SentenceJudged rows codes text (Err Length) = TextJudged text (Err TF.Length)
SentenceJudged rows codes text (Err (Character at)) = TextJudged text (Err (TF.Character at))
SentenceJudged rows codes text (Err (Line start)) = TextJudged text (Err (TF.Line start))
SentenceJudged rows codes text (Err (Order start)) = TextJudged text (Ok tt) × KeyJudged rows text (Some start)
SentenceJudged rows codes text (Err (Value start)) =
    TextJudged text (Ok tt) × KeySentence rows (keys_of text (fields text)) × Unfit rows codes text start
SentenceJudged rows codes text (Err (Table len)) = ⊥

-- the table is one that the sheet allows for the text: its rows, a sentence, have the keys of the text's fields in their order, and it has
-- the places of their values
pub record Allowed (rows : List Row) (text : List ℕ) (entries : List Entry) : Type 0 where
  pub parts : List TextField
  pub told : Told text parts
  pub spells : Spells rows (map (λ e. e.row) entries) (keys_of text parts)
  pub sentence : IsSentence rows (map (λ e. e.row) entries)
  pub starts : map (λ e. e.start) entries ≡ map (λ f. f.value) parts
  pub lens : map (λ e. e.len) entries ≡ map (λ f. f.len) parts

-- What the check of a text against a sheet answers.
pub record SentenceChecked (rows : List Row) (codes : Codes) (text : List ℕ) (r : Result (Unit {0}) ReadingFault) : Type 0 where
  -- the first question that the text fails
  pub value : r ≡ sentence_verdict rows codes text
  -- in the words of the subject: that question is the first, and the place is the first
  pub judged : SentenceJudged rows codes text r
  -- every sentence passes
  pub complete : TextSentence rows codes text → r ≡ Ok tt

-- the number of fields of a sentence for which the table has room; or a sentence for which it has none; or the first fault
abbrev pub ReadJudged : List Row → Codes → List ℕ → ℕ → Result ℕ ReadingFault → Type 0
ReadJudged rows codes text room (Ok n) = TextSentence rows codes text × (n ≡ length (fields text)) × (n ≤ room)
ReadJudged rows codes text room (Err MessageNumber) = ⊥
ReadJudged rows codes text room (Err Length) = SentenceJudged rows codes text (Err Length)
ReadJudged rows codes text room (Err (Character at)) = SentenceJudged rows codes text (Err (Character at))
ReadJudged rows codes text room (Err (Line start)) = SentenceJudged rows codes text (Err (Line start))
ReadJudged rows codes text room (Err (Order start)) = SentenceJudged rows codes text (Err (Order start))
ReadJudged rows codes text room (Err (Value start)) = SentenceJudged rows codes text (Err (Value start))
ReadJudged rows codes text room (Err (Table len)) =
    TextSentence rows codes text × (room < length (fields text)) × (len ≡ length text)

-- What reading a text into a table answers and leaves.
pub record Reads (rows : List Row) (codes : Codes) (text : List ℕ) (table after : List Entry) (r : Result ℕ ReadingFault) : Type 0 where
  -- the outcome: the answer, and every entry of the table
  pub value : r ≡ read_verdict rows codes text (length table)
  pub entries : after ≡ table_after rows text table r
  -- the refusals are first, and what is read is a sentence
  pub judged : ReadJudged rows codes text (length table) r
  -- every sentence is read for which there is room
  pub complete : TextSentence rows codes text → length (fields text) ≤ length table → r ≡ Ok (length (fields text))
  -- what is found is a table that the sheet allows, and the only one
  pub allowed : (n : ℕ) → r ≡ Ok n → Allowed rows text (take n after)
  pub only : (n : ℕ) → r ≡ Ok n → (es : List Entry) → Allowed rows text es → es ≡ take n after
