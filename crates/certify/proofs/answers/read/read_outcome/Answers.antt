use Rattle.std.proofs.Common.{arith}
use Rattle.std.proofs.lemmas.Grind.{common_steps}
use Rattle.std.proofs.lemmas.Result.{err_from_is_err_and}
use Rattle.certify.proofs.lemmas.answers.LinesByKind.{no_kind, no_line}
use Rattle.certify.proofs.answers.read.read_outcome.Goals as goal

pub returns-in_err-kind : goal.returns-in_err-kind
returns-in_err-kind c = grind (arith, common_steps, err_from_is_err_and, no_kind)

pub returns-in_err-rest : goal.returns-in_err-rest
returns-in_err-rest c = grind (arith, common_steps, err_from_is_err_and, no_line)
