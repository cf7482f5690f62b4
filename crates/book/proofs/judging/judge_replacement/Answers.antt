-- What the register answers, twice, leads to what is found.
use Rattle.std.proofs.Common.{◌≡◌, ℕ, Ok, Some, is_some, Option, ap, ◌∙◌}
use Rattle.register.specs.Pairs.{look}
use Rattle.register.specs.Spelling.{spelling}
use Rattle.book.specs.Book.{in_record, meanings, terms_of}
use Rattle.book.specs.Orders.Ordered.{lodge}
use Rattle.book.specs.Verdicts.{replacement_fault}
use Rattle.book.proofs.Judgements.{judges_twice, passed_as, refused_as}
use Rattle.book.proofs.Verdict.{some_mapped}
use Rattle.book.proofs.judging.judge_replacement.Goals as goal

pub returns-in_err-check_replacement : goal.returns-in_err-check_replacement
returns-in_err-check_replacement g c =
    let k = c.look_up-number.ensures in
    let h = c.look_up-replaced.ensures in
    let n = c.look_up-number.result in
    let p = c.look_up-replaced.result in
    let rs = meanings c.args.records.now in
    let t = terms_of c.args.lodging.now in
    let ps = g.R.Register.pairs c.args.register.now in
    let s = spelling c.args.previous.now in
    judges_twice g.R.Register c.args.records.now c.args.register.now c.args.lodging.now.reference n c.look_up-number.new.register k.fixed k.keeps k.finds k.ruled
    c.args.previous.now p c.look_up-replaced.new.register h.fixed h.keeps h.finds h.ruled (lodge t (Some s)) _
    (λ o e d.
    let a : c.is_some-stands.result ≡ is_some (in_record rs (look ps t.reference)) = c.is_some-stands.ensures ∙ some_mapped c.standing_in.result ∙ ap is_some c.standing_in.ensures ∙ ap (λ (m : Option ℕ). is_some (in_record rs m)) e in
    let b = c.standing_in-standing.ensures ∙ ap (in_record rs) d in
    let f = c.check_replacement.ensures in
    refused_as c.check_replacement.result c.in_err-check_replacement.field-0.0 (replacement_fault (is_some (in_record rs (look ps t.reference))) (in_record rs (look ps s)) t.rights) _ _ (cc) c.in_err-check_replacement.was c.from_residual.ensures.1)

pub returns : goal.returns
returns g c =
    let k = c.look_up-number.ensures in
    let h = c.look_up-replaced.ensures in
    let n = c.look_up-number.result in
    let p = c.look_up-replaced.result in
    let rs = meanings c.args.records.now in
    let t = terms_of c.args.lodging.now in
    let ps = g.R.Register.pairs c.args.register.now in
    let s = spelling c.args.previous.now in
    judges_twice g.R.Register c.args.records.now c.args.register.now c.args.lodging.now.reference n c.look_up-number.new.register k.fixed k.keeps k.finds k.ruled
    c.args.previous.now p c.look_up-replaced.new.register h.fixed h.keeps h.finds h.ruled (lodge t (Some s)) _
    (λ o e d.
    let a : c.is_some-stands.result ≡ is_some (in_record rs (look ps t.reference)) = c.is_some-stands.ensures ∙ some_mapped c.standing_in.result ∙ ap is_some c.standing_in.ensures ∙ ap (λ (m : Option ℕ). is_some (in_record rs m)) e in
    let b = c.standing_in-standing.ensures ∙ ap (in_record rs) d in
    let f = c.check_replacement.ensures in
    ap Ok d ∙ passed_as c.check_replacement.result c.in_ok-check_replacement.field-0 (replacement_fault (is_some (in_record rs (look ps t.reference))) (in_record rs (look ps s)) t.rights) _ (cc) c.in_ok-check_replacement.was)
