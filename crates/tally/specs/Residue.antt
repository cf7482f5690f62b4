-- Numbers modulo m, joined by adding. Assumes nothing.
use Rattle.std.specs.Prelude.{ℕ, ◌+◌, ◌-◌, ◌%◌, ◌<◌}
use Rattle.std.proofs.Common.{mod-lt}
use Rattle.tally.specs.declared.vote.Vote.{Vote}
use Rattle.tally.specs.Scale.{Scale}

-- a number below m
abbrev pub Residue : ℕ → Type 0
Residue m = (n : ℕ) × (n < m)

-- what is left of a number modulo m
abbrev pub residue : (m : ℕ) → 0 < m → ℕ → Residue m
residue m p n = (n % m, mod-lt n p)

-- each vote weighs a number modulo m, and joining adds modulo m
abbrev pub modulo : (m : ℕ) → 0 < m → (Vote → ℕ) → Scale (Residue m)
modulo m p w = record {
  weight = λ v. residue m p (w v);
  join = λ a b. residue m p (a.0 + b.0);
  neutral = residue m p 0;
  inverse = λ a. residue m p (m - a.0);
}
