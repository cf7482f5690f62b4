-- What a mark allows. Assumes nothing.
use Rattle.std.specs.Prelude.{◌≡◌, ℕ, ◌≤◌, Bool, true, false}
use Rattle.sheet.specs.declared.marks.Mark.{Mark}
use Rattle.sheet.specs.declared.marks.Mark.TheVariants.{Once, AtMostOnce, AtLeastOnce, AnyNumber}

-- how often a mark lets its part stand
abbrev pub Allows : Mark → ℕ → Type 0
Allows Once n = n ≡ 1
Allows AtMostOnce n = n ≤ 1
Allows AtLeastOnce n = 1 ≤ n
Allows AnyNumber n = Unit {0}

-- may the part be left out?
abbrev pub may_miss : Mark → Bool
may_miss Once = false
may_miss AtMostOnce = true
may_miss AtLeastOnce = false
may_miss AnyNumber = true

-- may it stand more than once?
abbrev pub may_repeat : Mark → Bool
may_repeat Once = false
may_repeat AtMostOnce = false
may_repeat AtLeastOnce = true
may_repeat AnyNumber = true
