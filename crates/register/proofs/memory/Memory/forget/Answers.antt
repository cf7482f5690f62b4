-- What is taken out was the only memo of its reference.
use Rattle.std.proofs.Common.{T, List, None, sym, ◌∙◌, subst}
use Rattle.register.specs.Memos.{Memo, single}
use Rattle.register.proofs.Pairs.{distinct_removed}
use Rattle.register.proofs.Remembered.{distinct_from_single, single_from_distinct}
use Rattle.register.proofs.Forgetting.{forgotten_none, forgotten_at}
use Rattle.register.proofs.memory.Memory.forget.Goals as goal

pub invariant_of-self : goal.invariant_of-self
invariant_of-self c =
    let ms = c.args.self.now.memos.items in
    let d : Memo = record { reference = c.args.reference.now; value = None } in
    let P : List Memo → Type 0 = λ l. T (single l) in
    record { once = subst P (sym c.remove.ensures) (single_from_distinct _ (distinct_removed ms c.in-Some.i d (distinct_from_single ms c.args.self.now.once) c.in-Some.ensures.0)) }

pub returns-in-Some : goal.returns-in-Some
returns-in-Some c =
    let ms = c.args.self.now.memos.items in
    let d : Memo = record { reference = c.args.reference.now; value = None } in
    c.remove.ensures ∙ sym (forgotten_at ms _ c.in-Some.i d (distinct_from_single ms c.args.self.now.once) c.in-Some.ensures.0 (c.in-Some.ensures.1 d))

pub returns-in_default : goal.returns-in_default
returns-in_default c = sym (forgotten_none _ _ c.in_default.ensures)
