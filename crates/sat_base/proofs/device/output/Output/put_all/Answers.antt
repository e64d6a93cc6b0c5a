use Rattle.std.proofs.Common.{arith}
use Rattle.std.proofs.lemmas.Grind.{common_steps}
use Rattle.std.proofs.lemmas.Result.{err_from_is_err_and}
use Rattle.sat_base.proofs.lemmas.device.Sending.{sends_stops, sends_more}
use Rattle.sat_base.proofs.device.output.Output.put_all.Goals as goal

pub returns-in_err-write_out : goal.returns-in_err-write_out
returns-in_err-write_out g c = grind (arith, common_steps, err_from_is_err_and, sends_stops)

pub returns : goal.returns
returns g c = grind (arith, common_steps, sends_more)
