-- The parts of a row, written out. Assumes nothing.
use Rattle.std.specs.Prelude.{ℕ, cond, List, [], ◌∷◌, codes, ◌==◌, slice_index}
use Prim.Native.String.{String}
use Rattle.fields.specs.declared.headers.Tag.{Tag}
use Rattle.fields.specs.declared.headers.Qualifier.{Qualifier}
use Rattle.sheet.specs.declared.marks.Mark.{Mark}
use Rattle.sheet.specs.declared.rows.Format.{Format}
use Rattle.sheet.specs.Rows.{Row}
use Rattle.sheet.specs.Rows.Row.{Field}

-- the name of a block
abbrev pub block : String → List ℕ
block s = codes s

abbrev pub tag : String → Tag
tag s = (slice_index (codes s) 0, slice_index (codes s) 1, slice_index (codes s) 2)

abbrev pub qualifier : String → Qualifier
qualifier s = (slice_index (codes s) 0, slice_index (codes s) 1, slice_index (codes s) 2, slice_index (codes s) 3)

-- no qualifier, and one alone
abbrev pub none : List Qualifier
none = []

abbrev pub only : String → List Qualifier
only s = qualifier s ∷ []

-- the row of a field
abbrev pub field : Mark → String → List Qualifier → Format → Row
field m t q f = Field (record { mark = m; tag = tag t; qualifiers = q; format = f })

-- one more character in front of the first word
abbrev pub longer : ℕ → List (List ℕ) → List (List ℕ)
longer c [] = (c ∷ []) ∷ []
longer c (w ∷ ws) = (c ∷ w) ∷ ws

-- the words of a text that spaces part
abbrev pub parted : List ℕ → List (List ℕ)
parted [] = [] ∷ []
parted (c ∷ cs) = cond (c == 32) ([] ∷ parted cs) (longer c (parted cs))

abbrev pub words : String → List (List ℕ)
words s = parted (codes s)
