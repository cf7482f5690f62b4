use Rattle.std.proofs.Common.{◌∙◌, rules, tests}
use Rattle.std.proofs.lemmas.Iterator.{YieldsList-from_slice}
use Rattle.std.proofs.lemmas.Iterator.Search.{all_from_yields_List}
use Rattle.message.specs.Reporting.{entry_under}
use Rattle.message.proofs.Reasons.{all_agree}
use Rattle.message.proofs.values.ReadText.agrees.Goals as goal

pub returns : goal.returns
returns c =
    let text = c.args.self.text.now in
    let es = c.args.self.entries.now in
    let code = c.args.code.now in
    all_from_yields_List (entry_under text code) _ _ c.all.result c.all.ensures.ran (YieldsList-from_slice es cc) (λ x b q k. search (rules, tests))
    ∙ all_agree text code es
