use Rattle.std.proofs.Common.{◌≡◌, ℕ, false, true, List, ◌++◌, ◌+◌, ◌<◌, ◌≤◌, length, refl, ap, ◌∙◌, arith}
use Rattle.std.proofs.lemmas.Result.{MatchResult-from_err}
use Rattle.format.proofs.FoldLaws.{flat_read, flat_over, first_fits}
use Rattle.format.proofs.folds.flat.Goals as goal

pub returns-in_err-append : goal.returns-in_err-append
returns-in_err-append c =
    let h : length c.new-text.result.items + length c.part.result.now ≤ 70 = omega (arith, first_fits c.args.bytes.now _ c.new-text.ensures, ap length c.part.ensures) in
    let z : false ≡ true = c.in_err-append.ensures.room.1 h in
    absurd (cc)

pub returns-in_err-append-2 : goal.returns-in_err-append-2
returns-in_err-append-2 c =
    let v = c.args.bytes.now in
    let f = c.in_ok-append.ensures.ok ∙ ap (λ (x : List ℕ). c.new-text.result.items ++ x) c.part.ensures in
    let h : 72 < length v = flat_over v _ _ c.new-text.ensures f (λ k. c.in_err-append-2.ensures.room.1 (omega (arith, k, ap length c.part-2.ensures))) in
    MatchResult-from_err _ _ _ c.from_residual-in_err-append-2.ensures.0 (λ _. h)

pub returns : goal.returns
returns c =
    let v = c.args.bytes.now in
    let f = c.in_ok-append.ensures.ok ∙ ap (λ (x : List ℕ). c.new-text.result.items ++ x) c.part.ensures in
    let g = c.in_ok-append-2.ensures.ok ∙ ap (λ (x : List ℕ). c.append.new.self.items ++ x) c.part-2.ensures in
    let k : length c.append.new.self.items + length c.part-2.result.now ≤ 70 = c.in_ok-append-2.ensures.room.0 refl in
    flat_read v _ _ _ c.new-text.ensures f (omega (arith, k, ap length c.part-2.ensures)) g
