-- The first entry with the reference is the one that a look-up finds.
use Rattle.std.proofs.Common.{sym, ap, ◌∙◌, rules, tests}
use Rattle.std.specs.Option.{option_map}
use Rattle.std.specs.Str.{bytes_eq}
use Rattle.std.proofs.lemmas.Iterator.{YieldsList-from_slice}
use Rattle.std.proofs.lemmas.Iterator.Search.{find_from_yields_List}
use Rattle.register.specs.Pairs.{key}
use Rattle.register.specs.Spelling.{spelling}
use Rattle.register.proofs.Pairs.{looked}
use Rattle.register.proofs.row.look_in.Goals as goal

pub returns-in_err-entry : goal.returns-in_err-entry
returns-in_err-entry g c =
    let k = spelling c.args.reference.now in
    let is = looked c.args.entries.now k c.find.result (find_from_yields_List (λ e. bytes_eq (key e) k) _ _ c.find.result c.find.ensures.ran (YieldsList-from_slice c.args.entries.now cc) (λ x b q r. search (rules, tests))) in
    c.from_residual.ensures ∙ sym (is ∙ ap (option_map (λ p. p.now.value)) c.in_err-entry.was)

pub returns : goal.returns
returns g c =
    let k = spelling c.args.reference.now in
    let is = looked c.args.entries.now k c.find.result (find_from_yields_List (λ e. bytes_eq (key e) k) _ _ c.find.result c.find.ensures.ran (YieldsList-from_slice c.args.entries.now cc) (λ x b q r. search (rules, tests))) in
    sym (is ∙ ap (option_map (λ p. p.now.value)) c.in_ok-entry.was)
