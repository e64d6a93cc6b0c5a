use Rattle.std.proofs.Common.{arith}
use Rattle.std.proofs.lemmas.Grind.{common_steps}
use Rattle.std.proofs.lemmas.Result.{err_from_is_err_and}
use Rattle.certify.proofs.lemmas.confirm.ConfirmStateMet.{unshown, shown_closes}
use Rattle.certify.proofs.confirm.commands.close.Goals as goal

pub returns-in_err-show-clause-confirms : goal.returns-in_err-show-clause-confirms
returns-in_err-show-clause-confirms g c = grind (arith, common_steps, err_from_is_err_and, unshown)

pub returns-clause-confirms : goal.returns-clause-confirms
returns-clause-confirms g c = grind (arith, common_steps, shown_closes)
