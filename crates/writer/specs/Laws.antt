-- What writing comes to, in the words of the subject. Assumes nothing.
use Rattle.std.specs.Prelude.{◌≡◌, ℕ, ◌+◌, ◌<◌, ◌≤◌, ◌⊎◌, List, [], ◌∷◌, ◌++◌, map, length, take, Some, Ok, Err, Result, ◌≢◌}
use Rattle.std.specs.List.{slice_get}
use Rattle.fields.specs.declared.headers.Qualifier.{Qualifier}
use Rattle.sheet.specs.Rows.{Row}
use Rattle.sheet.specs.Rows.Row.{Open, Close, Field}
use Rattle.reader.specs.declared.faults.ReadingFault.TheVariants as RF
use Rattle.reader.specs.declared.table.Entry.{Entry as TableEntry}
use Rattle.reader.specs.Reading.{Codes, read_verdict}
use Rattle.reader.specs.Tables.{table_of}
use Rattle.reader.specs.Laws.{TextSentence, SentenceJudged}
use Rattle.writer.specs.declared.faults.WritingFault.{WritingFault}
use Rattle.writer.specs.declared.faults.WritingFault.TheVariants.{MessageNumber, Entry, Length, Character, Line, Order, Value, Output}
use Rattle.writer.specs.Entries.{part_in}
use Rattle.writer.specs.Spelling.{spelled_text}
use Rattle.writer.specs.Writing.{write_verdict, output_after}

-- one of these qualifiers
abbrev pub OneOf : Qualifier → List Qualifier → Type 0
OneOf q [] = ⊥
OneOf q (x ∷ xs) = (q ≡ x) ⊎ OneOf q xs

-- the part begins with the qualifier and a slash
abbrev pub BeginsWith : Qualifier → List ℕ → Type 0
BeginsWith q part = (m : List ℕ) × (part ≡ q.0 ∷ q.1 ∷ q.2 ∷ q.3 ∷ 47 ∷ m)

-- the part begins with one of these qualifiers and a slash, where there are any
abbrev pub Begun : List Qualifier → List ℕ → Type 0
Begun [] part = Unit {0}
Begun (q ∷ qs) part = (x : Qualifier) × OneOf x (q ∷ qs) × BeginsWith x part

-- the part has the row's key: it is the block's name; or begins with a qualifier of the row, if it has any, and a slash
abbrev pub HasKey : Row → List ℕ → Type 0
HasKey (Open m n) part = part ≡ n
HasKey (Close n) part = part ≡ n
HasKey (Field f) part = Begun f.qualifiers part

-- nowhere does a colon stand directly behind a CR LF
abbrev pub Single : List ℕ → Type 0
Single part = (a b : List ℕ) → part ≢ a ++ (13 ∷ 10 ∷ 58 ∷ b)

-- the entry has a row, and a part inside the bytes, with that row's key and no colon in it directly behind a CR LF
pub record GoodEntry (rows : List Row) (bytes : List ℕ) (e : TableEntry) : Type 0 where
  pub row : Row
  pub there : slice_get rows e.row ≡ Some row
  pub within : e.start + e.len ≤ length bytes
  pub key : HasKey row (part_in bytes e)
  pub single : Single (part_in bytes e)

abbrev pub AllGood : List Row → List ℕ → List TableEntry → Type 0
AllGood rows bytes [] = Unit {0}
AllGood rows bytes (e ∷ es) = GoodEntry rows bytes e × AllGood rows bytes es

-- the entry of number k is the first that is not good
pub record FirstBad (rows : List Row) (bytes : List ℕ) (entries : List TableEntry) (k : ℕ) : Type 0 where
  pub before : List TableEntry
  pub first : TableEntry
  pub behind : List TableEntry
  pub cut : entries ≡ before ++ (first ∷ behind)
  pub place : k ≡ length before
  pub good : AllGood rows bytes before
  pub bad : GoodEntry rows bytes first → ⊥

-- the questions before the one told are answered yes, and that one no, at that place; or all are answered yes
abbrev pub WriteJudged : List Row → Codes → List TableEntry → List ℕ → ℕ → Result ℕ WritingFault → Type 0
WriteJudged rows codes entries bytes room (Ok n) =
    AllGood rows bytes entries × TextSentence rows codes (spelled_text rows bytes entries)
    × (n ≡ length (spelled_text rows bytes entries)) × (n ≤ room)
WriteJudged rows codes entries bytes room (Err MessageNumber) = ⊥
WriteJudged rows codes entries bytes room (Err (Entry k)) = FirstBad rows bytes entries k
WriteJudged rows codes entries bytes room (Err Length) =
    AllGood rows bytes entries × SentenceJudged rows codes (spelled_text rows bytes entries) (Err RF.Length)
WriteJudged rows codes entries bytes room (Err (Character at)) =
    AllGood rows bytes entries × SentenceJudged rows codes (spelled_text rows bytes entries) (Err (RF.Character at))
WriteJudged rows codes entries bytes room (Err (Line start)) =
    AllGood rows bytes entries × SentenceJudged rows codes (spelled_text rows bytes entries) (Err (RF.Line start))
WriteJudged rows codes entries bytes room (Err (Order start)) =
    AllGood rows bytes entries × SentenceJudged rows codes (spelled_text rows bytes entries) (Err (RF.Order start))
WriteJudged rows codes entries bytes room (Err (Value start)) =
    AllGood rows bytes entries × SentenceJudged rows codes (spelled_text rows bytes entries) (Err (RF.Value start))
WriteJudged rows codes entries bytes room (Err Output) =
    AllGood rows bytes entries × TextSentence rows codes (spelled_text rows bytes entries)
    × (room < length (spelled_text rows bytes entries))

-- the text is a sentence of the sheet, and is read into any table with room; its table has the rows of the entries, in their order, and their values byte for byte
pub record ReadsBack (rows : List Row) (codes : Codes) (entries : List TableEntry) (bytes text : List ℕ) : Type 0 where
  pub sentence : TextSentence rows codes text
  pub read : (room : ℕ) → length entries ≤ room → read_verdict rows codes text room ≡ Ok (length entries)
  pub same_rows : map (λ e. e.row) (table_of rows text) ≡ map (λ e. e.row) entries
  pub same_values : map (part_in text) (table_of rows text) ≡ map (part_in bytes) entries

-- What writing entries, which point into bytes, into an output answers and leaves.
pub record Writes (rows : List Row) (codes : Codes) (entries : List TableEntry) (bytes out after : List ℕ) (r : Result ℕ WritingFault) : Type 0 where
  -- the outcome: the answer, and every byte of the output
  pub value : r ≡ write_verdict rows codes entries bytes (length out)
  pub output : after ≡ output_after (spelled_text rows bytes entries) out r
  -- the question told is the first that is answered no, and the place is the first
  pub judged : WriteJudged rows codes entries bytes (length out) r
  -- good entries that spell a sentence are written exactly where the output holds it
  pub complete : AllGood rows bytes entries → TextSentence rows codes (spelled_text rows bytes entries)
      → length (spelled_text rows bytes entries) ≤ length out → r ≡ Ok (length (spelled_text rows bytes entries))
  pub full : AllGood rows bytes entries → TextSentence rows codes (spelled_text rows bytes entries)
      → length out < length (spelled_text rows bytes entries) → r ≡ Err Output
  -- whatever was finished reads back
  pub reads_back : (n : ℕ) → r ≡ Ok n → ReadsBack rows codes entries bytes (take n after)
