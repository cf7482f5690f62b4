-- Texts that are read from their front, and words there. Assumes nothing.
use Rattle.std.specs.Prelude.{ℕ, Bool, true, false, cond, List, [], ◌∷◌, Some, None, Option, ◌==◌}

-- what is read and what is left behind it, the latter as the list of its characters
abbrev pub left : {A T : Type 0} → (T → List ℕ) → Option (A × T) → Option (A × List ℕ)
left chars None = None
left chars (Some p) = Some (p.0, chars p.1)

-- one thing read after another; none, where one of them is not there
abbrev pub and_then : {A B : Type 0} → Option A → (A → Option B) → Option B
and_then None f = None
and_then (Some a) f = f a

-- the first of two that is there
abbrev pub or_else : {A : Type 0} → Option A → Option A → Option A
or_else None b = b
or_else (Some a) b = Some a

-- a test of what is read; not passed, where nothing is
abbrev pub or_false : Option (List ℕ) → (List ℕ → Bool) → Bool
or_false None f = false
or_false (Some t) f = f t

-- what stands behind the word, where the text begins with it
abbrev pub after_word : List ℕ → List ℕ → Option (List ℕ)
after_word [] s = Some s
after_word (c ∷ w) [] = None
after_word (c ∷ w) (x ∷ s) = cond (x == c) (after_word w s) None

-- a word that stands for something
abbrev pub stands_for : {A : Type 0} → A → Option (List ℕ) → Option (A × List ℕ)
stands_for a None = None
stands_for a (Some t) = Some (a, t)

abbrev pub is_end : List ℕ → Bool
is_end [] = true
is_end (c ∷ s) = false
