-- The control total: quantity times question number, modulo 10,000,000,000. Assumes nothing.
use Rattle.std.specs.Prelude.{ℕ, ◌*◌, ◌%◌, ◌<◌}
use Rattle.std.proofs.Common.{lit<}
use Rattle.tally.specs.declared.vote.Vote.{Vote}
use Rattle.tally.specs.Scale.{Scale}
use Rattle.tally.specs.Residue.{Residue, residue, modulo}

-- ten digits are kept
abbrev pub control_modulus : ℕ
control_modulus = 10000000000

-- a vote weighs its quantity times the number of its question
abbrev pub control_weight : Vote → ℕ
control_weight v = (v.quantity * v.question) % control_modulus

-- weights are added modulo 10,000,000,000
abbrev pub control : Scale (Residue control_modulus)
control = modulo control_modulus (lit< tt) control_weight

-- a number below the modulus, as it is
abbrev pub exactly : (n : ℕ) → n < control_modulus → Residue control_modulus
exactly n below = (n, below)

-- what is left of any number
abbrev pub leaving : ℕ → Residue control_modulus
leaving n = residue control_modulus (lit< tt) n
