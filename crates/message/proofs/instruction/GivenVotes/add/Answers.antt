use Rattle.message.proofs.Keeping.{kept_more}
use Rattle.message.proofs.instruction.GivenVotes.add.Goals as goal

pub returns-clause-kept : goal.returns-clause-kept
returns-clause-kept c = let e = c.push.ensures in kept_more c.args.self.now c.push.new.self c.args.vote c.push.result e.room e.ok e.err
