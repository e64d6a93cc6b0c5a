use Rattle.std.proofs.Common.{[], subst}
use Rattle.certify.specs.script.Commands.{EndsScript}
use Rattle.certify.proofs.script.stream.CommandStream.finish.Goals as goal

pub returns-then-whole-clause-finishes : goal.returns-then-whole-clause-finishes
returns-then-whole-clause-finishes c asks before m = subst (λ b. EndsScript asks b c.finish-whole.result.1 c.finish-whole.new.self (before [])) c.if-whole.true (c.finish-whole.ensures.ends asks before m)

pub returns-clause-finishes : goal.returns-clause-finishes
returns-clause-finishes c asks before m = subst (λ b. EndsScript asks b c.finish-whole.result.1 c.finish-whole.new.self (before [])) c.if-whole.false (c.finish-whole.ensures.ends asks before m)
