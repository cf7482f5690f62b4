use Rattle.std.proofs.Common.{rules}
use Rattle.message.proofs.Lookup.{first_found}
use Rattle.message.proofs.values.ReadText.first_value.Goals as goal

pub returns-in_err-first_entry : goal.returns-in_err-first_entry
returns-in_err-first_entry c = let e = first_found c.args.self.text.now c.args.row c.args.self.entries.now in search (rules, e)

pub returns : goal.returns
returns c = let e = first_found c.args.self.text.now c.args.row c.args.self.entries.now in search (rules, e)
