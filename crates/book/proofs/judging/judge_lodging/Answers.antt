-- What the register answers and the records hold leads to what is found.
use Rattle.std.proofs.Common.{◌≡◌, ℕ, min, length, is_some, None, Option, ap, ◌∙◌}
use Rattle.register.specs.Pairs.{look}
use Rattle.book.specs.Book.{in_record, instructions, meanings, terms_of}
use Rattle.book.specs.Orders.Ordered.{lodge}
use Rattle.book.specs.Verdicts.{shared_in, lodging_fault}
use Rattle.book.specs.Desk.{room_for}
use Rattle.book.proofs.Judgements.{judges_once, passed_as, refused_as}
use Rattle.book.proofs.Verdict.{some_mapped}
use Rattle.book.proofs.judging.judge_lodging.Goals as goal

pub returns-in_err-check_lodging : goal.returns-in_err-check_lodging
returns-in_err-check_lodging g c =
    let k = c.look_up-number.ensures in
    let n = c.look_up-number.result in
    let rs = meanings c.args.records.now in
    let t = terms_of c.args.lodging.now in
    let q = look (g.R.Register.pairs c.args.register.now) t.reference in
    judges_once g.R.Register c.args.records.now c.args.register.now c.args.lodging.now.reference n c.look_up-number.new.register k.fixed k.keeps k.finds k.ruled (lodge t None) _
    (λ o e.
    let a : c.is_some-stands.result ≡ is_some (in_record rs q) = c.is_some-stands.ensures ∙ some_mapped c.standing_in.result ∙ ap is_some c.standing_in.ensures ∙ ap (λ (m : Option ℕ). is_some (in_record rs m)) e in
    let b = c.is_shared-shared.ensures in
    let m = c.count_standing-standing.ensures in
    let r : c.room_for-room.result ≡ room_for g.R.Register c.args.register.now c.args.records.now = c.room_for-room.ensures ∙ ap (min (length c.args.records.now)) k.fixed in
    let f = c.check_lodging.ensures in
    refused_as c.check_lodging.result c.in_err-check_lodging.field-0.0 (lodging_fault (is_some (in_record rs q)) (shared_in rs t.rights) (length (instructions rs)) (room_for g.R.Register c.args.register.now c.args.records.now)) _ _ (cc) c.in_err-check_lodging.was c.from_residual.ensures.1)

pub returns : goal.returns
returns g c =
    let k = c.look_up-number.ensures in
    let n = c.look_up-number.result in
    let rs = meanings c.args.records.now in
    let t = terms_of c.args.lodging.now in
    let q = look (g.R.Register.pairs c.args.register.now) t.reference in
    judges_once g.R.Register c.args.records.now c.args.register.now c.args.lodging.now.reference n c.look_up-number.new.register k.fixed k.keeps k.finds k.ruled (lodge t None) _
    (λ o e.
    let a : c.is_some-stands.result ≡ is_some (in_record rs q) = c.is_some-stands.ensures ∙ some_mapped c.standing_in.result ∙ ap is_some c.standing_in.ensures ∙ ap (λ (m : Option ℕ). is_some (in_record rs m)) e in
    let b = c.is_shared-shared.ensures in
    let m = c.count_standing-standing.ensures in
    let r : c.room_for-room.result ≡ room_for g.R.Register c.args.register.now c.args.records.now = c.room_for-room.ensures ∙ ap (min (length c.args.records.now)) k.fixed in
    let f = c.check_lodging.ensures in
    passed_as c.check_lodging.result c.in_ok-check_lodging.field-0 (lodging_fault (is_some (in_record rs q)) (shared_in rs t.rights) (length (instructions rs)) (room_for g.R.Register c.args.register.now c.args.records.now)) _ (cc) c.in_ok-check_lodging.was)
