-- A text folded to lines, and back. Assumes nothing.
use Rattle.std.specs.Prelude.{◌≡◌, ℕ, zero, suc, ◌-◌, ◌<◌, ◌≤◌, Bool, true, false, cond, ◌&&◌, List, [], ◌∷◌, ◌++◌, length, ◌==◌, Some, None, Option}

-- a CR LF stands after every w-th character that another follows; the first line has room for k more characters
abbrev pub folded_from : ℕ → ℕ → List ℕ → List ℕ
folded_from w k [] = []
folded_from w zero (c ∷ s) = 13 ∷ 10 ∷ c ∷ folded_from w (w - 1) s
folded_from w (suc k) (c ∷ s) = c ∷ folded_from w k s

abbrev pub folded : ℕ → List ℕ → List ℕ
folded w s = folded_from w w s

-- the characters but for what stands where the CR LFs should
abbrev pub unfolded_from : ℕ → ℕ → List ℕ → List ℕ
unfolded_from w k [] = []
unfolded_from w zero (a ∷ []) = []
unfolded_from w zero (a ∷ b ∷ []) = []
unfolded_from w zero (a ∷ b ∷ c ∷ v) = c ∷ unfolded_from w (w - 1) v
unfolded_from w (suc k) (c ∷ v) = c ∷ unfolded_from w k v

abbrev pub unfolded : ℕ → List ℕ → List ℕ
unfolded w v = unfolded_from w w v

-- do CR LFs stand there?
abbrev pub is_folded_from : ℕ → ℕ → List ℕ → Bool
is_folded_from w k [] = true
is_folded_from w zero (a ∷ []) = false
is_folded_from w zero (a ∷ b ∷ []) = false
is_folded_from w zero (a ∷ b ∷ c ∷ v) = (a == 13 && b == 10) && is_folded_from w (w - 1) v
is_folded_from w (suc k) (c ∷ v) = is_folded_from w k v

abbrev pub is_folded : ℕ → List ℕ → Bool
is_folded w v = is_folded_from w w v

-- what stands behind a CR LF and is not nothing
abbrev pub behind_break : List ℕ → Option (List ℕ)
behind_break [] = None
behind_break (a ∷ []) = None
behind_break (a ∷ b ∷ []) = None
behind_break (a ∷ b ∷ c ∷ v) = cond (a == 13 && b == 10) (Some (c ∷ v)) None

-- lines, with CR LF between them
abbrev pub lines : List (List ℕ) → List ℕ
lines [] = []
lines (l ∷ []) = l
lines (l ∷ m ∷ ls) = l ++ (13 ∷ 10 ∷ lines (m ∷ ls))

abbrev pub joined : List (List ℕ) → List ℕ
joined [] = []
joined (l ∷ ls) = l ++ joined ls

-- every line has w characters, but for the last, which has from 1 to w
abbrev pub Full : ℕ → List (List ℕ) → Type 0
Full w [] = ⊥
Full w (l ∷ []) = (1 ≤ length l) × (length l ≤ w)
Full w (l ∷ m ∷ ls) = (length l ≡ w) × Full w (m ∷ ls)

-- a text that is folded is its characters in lines of 35, the last perhaps shorter, with CR LF between them; and only that is
pub record Folds : Type 0 where
  pub to : (s : List ℕ) → 0 < length s → (ls : List (List ℕ)) × Full 35 ls × (s ≡ joined ls) × (folded 35 s ≡ lines ls)
  pub from : (ls : List (List ℕ)) → Full 35 ls → folded 35 (joined ls) ≡ lines ls
