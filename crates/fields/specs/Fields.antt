-- The fields of a text. Assumes nothing.
use Rattle.std.specs.Prelude.{◌≡◌, ℕ, ◌+◌, ◌-◌, ◌<◌, ◌≤◌, cond, List, [], ◌∷◌, ◌++◌, length, take, drop, is_some, Some, None, Option}
use Rattle.fields.specs.declared.headers.Qualifier.{Qualifier}
use Rattle.fields.specs.declared.headers.Header.{Header}
use Rattle.fields.specs.declared.walk.Field.{Field}
use Rattle.fields.specs.Lines.{Lines, rest, line, lines, LineAt}
use Rattle.fields.specs.Headers.{header}

-- how many bytes of these lines, up to the first with a header, go on with the field before them
abbrev pub continued : Lines → ℕ
continued (rest r) = 0
continued (line l ls) = cond (is_some (header l)) 0 (length l + (2 + continued ls))

-- the field that begins at `at` with this header, if any, and has so many bytes before its last CR LF
abbrev pub opened : Option Header → ℕ → ℕ → List Field
opened None at size = []
opened (Some h) at size =
    record { start = at; tag = h.tag; qualifier = h.qualifier; value = at + h.len; len = size - h.len } ∷ []

-- the fields of what stands at `at`. A line with a header begins a field; any other continues the one before it.
abbrev pub fields_from : ℕ → Lines → List Field
fields_from at (rest r) = []
fields_from at (line l ls) = opened (header l) at (length l + continued ls) ++ fields_from (at + (length l + 2)) ls

abbrev pub fields : List ℕ → List Field
fields text = fields_from 0 (lines text)

-- the fields from place `at` on
abbrev pub left : List ℕ → ℕ → List Field
left text at = fields_from at (lines (drop at text))

-- where the next field would start
abbrev pub after : Field → ℕ
after f = f.value + (f.len + 2)

-- l is the first line from `at` on that begins a field; it starts at s, and h is its header
pub record HeadAt (text : List ℕ) (at s : ℕ) (l : List ℕ) (h : Header) : Type 0 where
  pub there : LineAt text s l
  pub read : Some h ≡ header l
  pub value : h.len ≤ length l
  pub onward : at ≤ s
  pub same : left text at ≡ left text s

-- f is the first field from `at` on, and ends within the text
pub record Next (text : List ℕ) (at : ℕ) (f : Field) : Type 0 where
  pub found : left text at ≡ f ∷ left text (after f)
  pub onward : at < after f
  pub within : after f ≤ length text

abbrev pub value_in : List ℕ → Field → List ℕ
value_in text f = take f.len (drop f.value text)

-- the second colon, where there is a qualifier
abbrev pub second : Option Qualifier → List ℕ
second None = []
second (Some q) = 58 ∷ []

-- colon, tag, colon, a second colon where there is a qualifier, value, CR LF
abbrev pub spelled1 : List ℕ → Field → List ℕ
spelled1 text f = (58 ∷ f.tag.0 ∷ f.tag.1 ∷ f.tag.2 ∷ 58 ∷ second f.qualifier) ++ (value_in text f ++ (13 ∷ 10 ∷ []))

abbrev pub spelled : List ℕ → List Field → List ℕ
spelled text [] = []
spelled text (f ∷ fs) = spelled1 text f ++ spelled text fs
