-- Copies of an empty record mean no instruction.
use Rattle.std.proofs.Common.{◌≡◌, ℕ, zero, suc, length, replicate, Some, None, Option, subst, rules, arith}
use Rattle.std.specs.List.{slice_get}
use Rattle.book.specs.Book.{Instruction, Records, meanings}
use Rattle.meeting.proofs.draft.empty.Goals as goal

empty_meant : (n k : ℕ) (o : Option Instruction) → slice_get (meanings (replicate n None)) k ≡ Some o → o ≡ None
empty_meant zero k o e = let z : ◌≡◌ {A = ℕ} 0 1 = cc in absurd (omega arith)
empty_meant (suc n) zero o e = cc
empty_meant (suc n) (suc k) o e = empty_meant n k o e

pub returns : goal.returns
returns c = λ n o e. empty_meant (length c.args.records.now) n o (subst (λ (rs : Records). slice_get (meanings rs) n ≡ Some o) (c.fill.ensures.after (λ y k. search rules)) e)
