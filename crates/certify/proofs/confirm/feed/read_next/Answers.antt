use Rattle.certify.proofs.lemmas.confirm.ReadSteps.{read_one, read_none}
use Rattle.certify.proofs.confirm.feed.read_next.Goals as goal

pub returns-in-Err-clause-reads : goal.returns-in-Err-clause-reads
returns-in-Err-clause-reads g c = λ checker. rw c.unread.ensures (read_none g.R.CountedRead.seen c.args.steps.now c.advance.new.self c.requires c.in-Err.error c.in-Err.ensures checker)

pub returns-in-Ok-clause-reads : goal.returns-in-Ok-clause-reads
returns-in-Ok-clause-reads g c = λ checker. read_one g.R.CountedRead.seen c.args.steps.now c.advance.new.self c.requires c.in-Ok.ensures checker
