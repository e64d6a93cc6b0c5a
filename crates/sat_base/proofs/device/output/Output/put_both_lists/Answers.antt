use Rattle.std.proofs.Common.{arith}
use Rattle.std.proofs.lemmas.Grind.{common_steps}
use Rattle.std.proofs.lemmas.Result.{err_from_is_err_and}
use Rattle.sat_base.specs.device.Sink.{sink_of}
use Rattle.sat_base.specs.steps.StepBytes.{list_bytes}
use Rattle.sat_base.proofs.lemmas.steps.NumberBytes.{both_written}
use Rattle.sat_base.proofs.lemmas.device.Sending.{sends_stops}
use Rattle.sat_base.proofs.device.output.Output.put_both_lists.Goals as goal

pub returns-in_err-put_literals : goal.returns-in_err-put_literals
returns-in_err-put_literals g c =
    let S = g.W.CountedWrite.seen in
    let p = err_from_is_err_and c.from_residual.result c.from_residual.ensures.1 in
    rw p.1 (sends_stops (sink_of S g.P.Room.waiting c.args.self.now) (sink_of S g.P.Room.waiting c.put_literals.new.self) (list_bytes c.args.lits.now) (list_bytes c.args.hashes.now) c.in_err-put_literals.ensures)

pub returns : goal.returns
returns g c = grind (arith, common_steps, both_written)
