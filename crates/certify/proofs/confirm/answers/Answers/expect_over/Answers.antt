use Rattle.std.proofs.Common.{arith}
use Rattle.std.proofs.lemmas.Grind.{common_steps}
use Rattle.std.proofs.lemmas.Result.{err_from_is_err_and}
use Rattle.certify.proofs.lemmas.confirm.Lines.{over_here, more_here, line_stops}
use Rattle.certify.proofs.confirm.answers.Answers.expect_over.Goals as goal

pub returns-in_err-next_line : goal.returns-in_err-next_line
returns-in_err-next_line g c = grind (arith, common_steps, err_from_is_err_and, line_stops)

pub returns-then-is_none : goal.returns-then-is_none
returns-then-is_none g c = grind (arith, common_steps, over_here)

pub returns : goal.returns
returns g c = grind (arith, common_steps, more_here)
