-- The texts of references, and how one lies in sixteen bytes. Assumes nothing.
use Rattle.std.specs.Prelude.{ℕ, ◌-◌, Bool, true, false, cond, ◌&&◌, List, [], ◌∷◌, ◌++◌, length, replicate, ◌==◌, nat_le}
use Rattle.std.specs.List.{list_all}
use Rattle.fields.specs.Characters.{set_x}

-- every character is of set x
abbrev pub all_x : List ℕ → Bool
all_x t = list_all set_x t

-- 1 to 16 characters of set x
abbrev pub is_text : List ℕ → Bool
is_text t = nat_le 1 (length t) && (nat_le (length t) 16 && all_x t)

-- a text in sixteen bytes, the rest zeros
abbrev pub padded : List ℕ → List ℕ
padded t = t ++ replicate (16 - length t) 0

-- the bytes before the first zero
abbrev pub unpadded : List ℕ → List ℕ
unpadded [] = []
unpadded (b ∷ bs) = cond (b == 0) [] (b ∷ unpadded bs)

-- zeros alone
abbrev pub zeros : List ℕ → Bool
zeros [] = true
zeros (b ∷ bs) = b == 0 && zeros bs

-- characters of set x, then zeros alone
abbrev pub trails : List ℕ → Bool
trails [] = true
trails (b ∷ bs) = cond (b == 0) (zeros bs) (set_x b && trails bs)

-- the same, with at least one character
abbrev pub shaped : List ℕ → Bool
shaped [] = false
shaped (b ∷ bs) = set_x b && trails bs
