use Rattle.std.proofs.Common.{sym, ◌∙◌, rules, tests}
use Rattle.std.proofs.lemmas.Iterator.{YieldsList-from_slice}
use Rattle.std.proofs.lemmas.Iterator.Search.{any_from_yields_List}
use Rattle.message.specs.Instructions.{rights_of}
use Rattle.book.specs.Book.{meaning}
use Rattle.book.specs.Verdicts.{has_rights}
use Rattle.book.proofs.Sharing.{shared_meant}
use Rattle.book.proofs.moves.is_shared.Goals as goal

pub returns : goal.returns
returns c =
    any_from_yields_List (λ r. has_rights (meaning r) (rights_of c.args.rights.now)) _ _ c.any.result c.any.ensures.ran (YieldsList-from_slice c.args.records.now cc) (λ x b q k. search (rules, tests))
    ∙ sym (shared_meant c.args.records.now (rights_of c.args.rights.now))
