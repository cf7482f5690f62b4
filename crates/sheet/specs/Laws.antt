-- What the definitions come to, in the words of the subject. Assumes nothing.
use Rattle.std.specs.Prelude.{◌≡◌, ℕ, zero, suc, ◌≤◌, true, ◌⊎◌, List, [], ◌∷◌, ◌++◌, length, Some, None, Ok, Option}
use Rattle.std.specs.List.{slice_get}
use Rattle.fields.specs.declared.walk.Field.{Field as TextField}
use Rattle.fields.specs.Fields.{fields}
use Rattle.fields.specs.Faults.{text_verdict}
use Rattle.sheet.specs.Rows.{Row}
use Rattle.sheet.specs.Sentences.{Parts, laid, IsSentence, BeginsOne}
use Rattle.sheet.specs.Sentences.Parts.{end, line, block}
use Rattle.sheet.specs.Steps.{Walks, Reads}
use Rattle.sheet.specs.Keys.{Key, key_of, keys_of, row_has}
use Rattle.sheet.specs.Lawful.{possible, lawful}

-- A text each of whose steps, and whose end, is allowed is a sentence, and every sentence is such a text. A text each of whose steps
-- is allowed begins a sentence, and whatever begins one is such a text. And the rows lay out one sheet.
pub record ReadsSentences (rows : List Row) : Type 0 where
  pub sound : (w : List ℕ) → Reads rows None w → IsSentence rows w
  pub complete : (w : List ℕ) → IsSentence rows w → Reads rows None w
  pub goes_on : (w : List ℕ) → Walks rows None w → BeginsOne rows w
  pub begun : (w : List ℕ) → BeginsOne rows w → Walks rows None w
  pub laid_once : (p q : Parts) → rows ≡ laid p [] → rows ≡ laid q [] → p ≡ q

-- the row of number i has the key
abbrev pub RowAt : List Row → ℕ → Key → Type 0
RowAt rows i k = (r : Row) × (slice_get rows i ≡ Some r) × (row_has r k ≡ true)

-- the key is in this row and in no other; or it is in none
abbrev pub Found : List Row → Key → Option ℕ → Type 0
Found rows k None = (i : ℕ) → RowAt rows i k → ⊥
Found rows k (Some i) = RowAt rows i k × ((j : ℕ) → RowAt rows j k → j ≡ i)

-- each block ends with the name that it begins with, and blocks stand in one another no deeper than d
abbrev pub Nested : ℕ → Parts → Type 0
Nested d end = Unit {0}
Nested d (line f rest) = Nested d rest
Nested zero (block m n inner c rest) = ⊥
Nested (suc d) (block m n inner c rest) = (n ≡ c) × Nested d inner × Nested (suc d) rest

-- the law of a sheet
pub record Law (rows : List Row) : Type 0 where
  pub few : length rows ≤ 64
  pub layout : Parts
  pub lays : rows ≡ laid layout []
  pub nested : Nested 4 layout
  pub single : (i j : ℕ) (k : Key) → RowAt rows i k → RowAt rows j k → i ≡ j
  pub possible_all : (i : ℕ) (k : Key) → RowAt rows i k → possible k ≡ true

-- a good text has one field, and this is its key
pub record Had (k : Key) : Type 0 where
  pub text : List ℕ
  pub field : TextField
  pub good : text_verdict text ≡ Ok tt
  pub alone : fields text ≡ field ∷ []
  pub key : key_of text field ≡ k

-- the test of the law is right on every list of rows, and every key that passes its test is the key of a field of a good text
pub record LawTested : Type 0 where
  pub right : (rows : List Row) → lawful rows ≡ true → Law rows
  pub whole : (rows : List Row) → Law rows → lawful rows ≡ true
  pub had : (k : Key) → possible k ≡ true → Had k

-- each key is one of its row's
abbrev pub Spells : List Row → List ℕ → List Key → Type 0
Spells rows [] [] = Unit {0}
Spells rows [] (k ∷ ks) = ⊥
Spells rows (i ∷ w) [] = ⊥
Spells rows (i ∷ w) (k ∷ ks) = RowAt rows i k × Spells rows w ks

-- the keys are those of rows that are a sentence
abbrev pub KeySentence : List Row → List Key → Type 0
KeySentence rows ks = (w : List ℕ) × Spells rows w ks × IsSentence rows w

-- fields can have each of these keys
abbrev pub Possible : List Key → Type 0
Possible [] = Unit {0}
Possible (k ∷ ks) = (possible k ≡ true) × Possible ks

-- some sentence begins with these keys, and goes on with keys that fields can have
abbrev pub KeyBegins : List Row → List Key → Type 0
KeyBegins rows ks = (ls : List Key) × Possible ls × KeySentence rows (ks ++ ls)

-- at `place` starts the first field with which no sentence goes on
pub record Stray (rows : List Row) (text : List ℕ) (place : ℕ) : Type 0 where
  pub before : List TextField
  pub stray : TextField
  pub behind : List TextField
  pub cut : fields text ≡ before ++ (stray ∷ behind)
  pub starts : place ≡ stray.start
  pub begins : KeyBegins rows (keys_of text before)
  pub stops : KeyBegins rows (keys_of text (before ++ (stray ∷ []))) → ⊥

-- the text begins a sentence and is none, and `place` is its length
pub record Short (rows : List Row) (text : List ℕ) (place : ℕ) : Type 0 where
  pub at_end : place ≡ length text
  pub begins : KeyBegins rows (keys_of text (fields text))
  pub unfinished : KeySentence rows (keys_of text (fields text)) → ⊥

-- by keys the text is a sentence; or a field strays; or the text is too short
abbrev pub KeyJudged : List Row → List ℕ → Option ℕ → Type 0
KeyJudged rows text None = KeySentence rows (keys_of text (fields text))
KeyJudged rows text (Some place) = Stray rows text place ⊎ Short rows text place
