use Rattle.std.proofs.Common.{◌≡◌, drop}
use Rattle.format.specs.Texts.{after_word}
use Rattle.format.proofs.text.Text.step_over.Given as goal

-- what is left of the word, here, gives what the whole gives
abbrev pub invariant-loop-c : goal.invariant-loop-c
invariant-loop-c g l =
    let chars = g.Self.Text.chars in
    after_word (drop l.c-index l.word) (chars l.rest) ≡ after_word l.word (chars l.fn.self)
