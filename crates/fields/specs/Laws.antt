-- What the definitions come to, in the words of the subject. Assumes nothing.
use Rattle.std.specs.Prelude.{◌≡◌, ℕ, suc, ◌+◌, ◌<◌, ◌≤◌, Bool, true, false, not, ◌&&◌, ◌||◌, ◌⊎◌, List, [], ◌∷◌, ◌++◌, length, Some, None, Ok, Err, Option, Result, ◌≢◌, slice_index}
use Rattle.fields.specs.declared.headers.Tag.{Tag}
use Rattle.fields.specs.declared.headers.Qualifier.{Qualifier}
use Rattle.fields.specs.declared.walk.Field.{Field}
use Rattle.fields.specs.declared.faults.TextFault.{TextFault}
use Rattle.fields.specs.declared.faults.TextFault.TheVariants.{Length, Character, Line}
use Rattle.fields.specs.Characters.{set_x, digit, capital, alphanumeric, begins}
use Rattle.fields.specs.Lines.{breaks, tail}
use Rattle.fields.specs.Headers.{bare}
use Rattle.fields.specs.Faults.{good_line, text_verdict}
use Rattle.fields.specs.Fields.{fields, second, after, value_in, spelled}

-- a CR at k, and an LF directly behind it
abbrev pub TogetherAt : List ℕ → ℕ → Type 0
TogetherAt text k = (slice_index text k ≡ 13) × (slice_index text (suc k) ≡ 10)

-- the byte at k is of set x, or the CR or the LF of a CR and LF directly together
abbrev pub GoodAt : List ℕ → ℕ → Type 0
GoodAt text k = (set_x (slice_index text k) ≡ true) ⊎ (TogetherAt text k ⊎ ((j : ℕ) × (k ≡ suc j) × TogetherAt text j))

-- every byte is good; or i is the place of the first that is not
abbrev pub BytesJudged : List ℕ → Option ℕ → Type 0
BytesJudged text None = (k : ℕ) → k < length text → GoodAt text k
BytesJudged text (Some i) = (i < length text) × ((k : ℕ) → k < i → GoodAt text k) × (GoodAt text i → ⊥)

-- nowhere in the line do CR and LF stand directly together
abbrev pub unbroken : List ℕ → Bool
unbroken [] = true
unbroken (c ∷ cs) = not (breaks c cs) && unbroken cs

-- good lines, the first a field if `first` says so
abbrev pub Good : Bool → List (List ℕ) → Type 0
Good first [] = Unit {0}
Good first (l ∷ ls) = (unbroken l ≡ true) × (good_line first l ≡ true) × Good false ls

-- the lines, each followed by CR LF
abbrev pub joined : List (List ℕ) → List ℕ
joined [] = []
joined (l ∷ ls) = l ++ (13 ∷ 10 ∷ joined ls)

-- is the line behind these lines the first?
abbrev pub still_first : Bool → List (List ℕ) → Bool
still_first first [] = first
still_first first (l ∷ ls) = false

-- something is left, and it does not begin with a good line and CR LF
abbrev pub BadFrom : Bool → List ℕ → Type 0
BadFrom first t =
    (t ≢ []) × ((l m : List ℕ) → unbroken l ≡ true → good_line first l ≡ true → t ≢ l ++ (13 ∷ 10 ∷ m))

-- good lines, and behind them a bad one, which starts i bytes on
pub record FirstBad (first : Bool) (text : List ℕ) (i : ℕ) : Type 0 where
  pub before : List (List ℕ)
  pub left : List ℕ
  pub good : Good first before
  pub whole : text ≡ joined before ++ left
  pub place : i ≡ length (joined before)
  pub bad : BadFrom (still_first first before) left

-- the text is good lines, each followed by CR LF, the first a field; or i is where its first bad line starts
abbrev pub LinesJudged : List ℕ → Option ℕ → Type 0
LinesJudged text None = (ls : List (List ℕ)) × Good true ls × (text ≡ joined ls)
LinesJudged text (Some i) = FirstBad true text i

-- the text has from 1 to 10,000 bytes
abbrev pub Sized : List ℕ → Type 0
Sized text = (1 ≤ length text) × (length text ≤ 10000)

-- the text passes all three questions; or the fault is of the first that it fails, at the first place where it does
abbrev pub TextJudged : List ℕ → Result (Unit {0}) TextFault → Type 0
TextJudged text (Ok _) = Sized text × BytesJudged text None × LinesJudged text None
TextJudged text (Err Length) = Sized text → ⊥
TextJudged text (Err (Character at)) = Sized text × BytesJudged text (Some at)
TextJudged text (Err (Line start)) = Sized text × BytesJudged text None × LinesJudged text (Some start)

-- the fields stand one directly behind the other, from `at` to `end`, each with its value behind its header
abbrev pub Gapless : ℕ → ℕ → List Field → Type 0
Gapless at end [] = at ≡ end
Gapless at end (f ∷ fs) = (f.start ≡ at) × (f.value ≡ at + (5 + length (second f.qualifier))) × Gapless (after f) end fs

-- does a CR LF with a colon behind it stand anywhere?
abbrev pub colon_line : List ℕ → Bool
colon_line [] = false
colon_line (c ∷ cs) = (breaks c cs && begins 58 (tail cs)) || colon_line cs

-- the four tags have no qualifier; any other has one, and the value begins with it and a slash
abbrev pub Keyed : Tag → Option Qualifier → List ℕ → Type 0
Keyed t None value = bare t ≡ true
Keyed t (Some q) value =
    (bare t ≡ false) × ((alphanumeric q.0 && (alphanumeric q.1 && (alphanumeric q.2 && alphanumeric q.3))) ≡ true)
    × ((m : List ℕ) × (value ≡ q.0 ∷ q.1 ∷ q.2 ∷ q.3 ∷ 47 ∷ m))

-- two digits and a capital letter; a qualifier or none; and no field begins in the value
pub record Right (text : List ℕ) (f : Field) : Type 0 where
  pub tag : (digit f.tag.0 && (digit f.tag.1 && capital f.tag.2)) ≡ true
  pub keyed : Keyed f.tag f.qualifier (value_in text f)
  pub single : colon_line (value_in text f) ≡ false

abbrev pub AllRight : List ℕ → List Field → Type 0
AllRight text [] = Unit {0}
AllRight text (f ∷ fs) = Right text f × AllRight text fs

-- right fields that spell the text, one directly behind the other from its start to its end
pub record Told (text : List ℕ) (fs : List Field) : Type 0 where
  pub right : AllRight text fs
  pub spelled_out : spelled text fs ≡ text
  pub in_order : Gapless 0 (length text) fs

-- What the check of a text answers.
pub record Checked (text : List ℕ) (r : Result (Unit {0}) TextFault) : Type 0 where
  -- the first of the three questions that the text fails
  pub value : r ≡ text_verdict text
  -- in the words of the subject, and no other answer is right
  pub judged : TextJudged text r
  pub only : (s : Result (Unit {0}) TextFault) → TextJudged text s → s ≡ r
  -- a text that passes is its fields, spelled one after the other
  pub told : r ≡ Ok tt → Told text (fields text)
  -- and no text is told by other fields than its own
  pub told_once : (fs : List Field) → Told text fs → fs ≡ fields text
