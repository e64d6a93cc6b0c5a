use Rattle.std.proofs.Common.{arith}
use Rattle.std.proofs.lemmas.Grind.{common_steps}
use Rattle.std.proofs.Common.{ℕ, ◌++◌, ap}
use Rattle.std.proofs.lemmas.Result.{err_from_is_err_and}
use Rattle.sat_base.specs.device.Sink.{sink_of}
use Rattle.sat_base.specs.steps.StepBytes.{number_bytes}
use Rattle.sat_base.proofs.lemmas.steps.ListBytes.{unit_writes}
use Rattle.sat_base.proofs.lemmas.device.Sending.{stops_same}
use Rattle.sat_base.proofs.device.output.Output.put_unit.Goals as goal

pub returns-in_err-put_number : goal.returns-in_err-put_number
returns-in_err-put_number g c =
    let S = g.W.CountedWrite.seen in
    let p = err_from_is_err_and c.from_residual.result c.from_residual.ensures.1 in
    let hash = number_bytes c.args.unit.1 in
    rw p.1 (stops_same (sink_of S g.P.Room.waiting c.args.self.now) (sink_of S g.P.Room.waiting c.put_number.new.self) (number_bytes c.code.result) hash (number_bytes c.args.unit.0 ++ hash) (ap (λ (n : ℕ). number_bytes n ++ hash) c.code.ensures.value) c.in_err-put_number.ensures)

pub returns : goal.returns
returns g c = grind (arith, common_steps, unit_writes)
