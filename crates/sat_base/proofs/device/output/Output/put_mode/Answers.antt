use Rattle.std.proofs.Common.{arith}
use Rattle.std.proofs.lemmas.Grind.{common_steps}
use Rattle.std.proofs.lemmas.Result.{err_from_is_err_and}
use Rattle.sat_base.specs.device.Sink.{sink_of}
use Rattle.sat_base.specs.steps.StepBytes.{number_bytes, flag_bytes}
use Rattle.sat_base.proofs.lemmas.steps.NumberBytes.{both_written}
use Rattle.sat_base.proofs.lemmas.device.Sending.{sends_stops}
use Rattle.sat_base.proofs.device.output.Output.put_mode.Goals as goal

pub returns-in_err-put_variable : goal.returns-in_err-put_variable
returns-in_err-put_variable g c =
    let S = g.W.CountedWrite.seen in
    let p = err_from_is_err_and c.from_residual.result c.from_residual.ensures.1 in
    rw p.1 (sends_stops (sink_of S g.P.Room.waiting c.args.self.now) (sink_of S g.P.Room.waiting c.put_variable.new.self) (number_bytes c.args.var) (flag_bytes c.args.sample) c.in_err-put_variable.ensures)

pub returns : goal.returns
returns g c = grind (arith, common_steps, both_written)
