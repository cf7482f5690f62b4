-- What a sheet's rows mean: the parts that they lay out, and the sentences of those parts. A text is here the list of its fields' row
-- numbers. Assumes nothing.
use Rattle.std.specs.Prelude.{◌≡◌, ℕ, zero, suc, List, [], ◌∷◌, ◌++◌}
use Rattle.sheet.specs.declared.marks.Mark.{Mark}
use Rattle.sheet.specs.Rows.{FieldRow, Row}
use Rattle.sheet.specs.Rows.Row.{Open, Close, Field}
use Rattle.sheet.specs.Marks.{Allows}

-- the parts of a sheet, or of a block, in their order: a field's row; or a whole block with its mark, the name where it begins, its
-- parts, and the name where it ends
pub data Parts : Type 0 where
  end : Parts
  line : FieldRow → Parts → Parts
  block : Mark → List ℕ → Parts → List ℕ → Parts → Parts

-- the rows of the parts, and then the rows `t`
abbrev pub laid : Parts → List Row → List Row
laid end t = t
laid (line f rest) t = Field f ∷ laid rest t
laid (block m n inner c rest) t = Open m n ∷ laid inner (Close c ∷ laid rest t)

-- the number of the row behind the parts, where `k` is the number of their first
abbrev pub past : Parts → ℕ → ℕ
past end k = k
past (line f rest) k = past rest (suc k)
past (block m n inner c rest) k = past rest (suc (past inner (suc k)))

-- n texts that are each a P, one behind another
abbrev pub Times : (List ℕ → Type 0) → ℕ → List ℕ → Type 0
Times P zero w = w ≡ []
Times P (suc n) w = (u : List ℕ) × (v : List ℕ) × (w ≡ u ++ v) × P u × Times P n v

-- a sentence of the parts, the first of which has row number `k`: each part in its turn, as often as its mark allows.
-- A block stands as its first row, a sentence of what it holds, and its last row.
abbrev pub Sentence : Parts → ℕ → List ℕ → Type 0
Sentence end k w = w ≡ []
Sentence (line f rest) k w =
    (n : ℕ) × (u : List ℕ) × (v : List ℕ) × Allows f.mark n × (w ≡ u ++ v)
    × Times (λ x. x ≡ k ∷ []) n u × Sentence rest (suc k) v
Sentence (block m n inner c rest) k w =
    (i : ℕ) × (u : List ℕ) × (v : List ℕ) × Allows m i × (w ≡ u ++ v)
    × Times (λ x. (b : List ℕ) × (x ≡ k ∷ (b ++ past inner (suc k) ∷ [])) × Sentence inner (suc k) b) i u
    × Sentence rest (suc (past inner (suc k))) v

-- a sentence of a sheet with these rows: one of the parts that they lay out
abbrev pub IsSentence : List Row → List ℕ → Type 0
IsSentence rows w = (p : Parts) × (rows ≡ laid p []) × Sentence p 0 w

-- some sentence begins with w
abbrev pub BeginsOne : List Row → List ℕ → Type 0
BeginsOne rows w = (v : List ℕ) × IsSentence rows (w ++ v)
