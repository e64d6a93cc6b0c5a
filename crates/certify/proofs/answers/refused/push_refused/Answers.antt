use Rattle.std.proofs.lemmas.Grind.{common_steps}
use Rattle.std.proofs.Common.{arith}
use Rattle.certify.proofs.lemmas.confirm.Lines.{limit_is_line}
use Rattle.certify.proofs.answers.refused.push_refused.Goals as goal

pub returns-in-Limit-clause-line : goal.returns-in-Limit-clause-line
returns-in-Limit-clause-line c = grind (arith, common_steps, limit_is_line)
