-- The text that a reference spells. Assumes nothing.
use Rattle.std.specs.Prelude.{ℕ, List}
use Rattle.register.specs.declared.reference.Reference.{Reference}
use Rattle.register.specs.Texts.{unpadded}

-- the characters of a reference
abbrev pub spelling : Reference → List ℕ
spelling r = unpadded r.bytes
