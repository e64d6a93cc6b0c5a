use Rattle.std.proofs.Common.{arith}
use Rattle.std.proofs.lemmas.Grind.{common_steps}
use Rattle.std.proofs.Common.{ℕ, [], ◌∷◌, ap}
use Rattle.std.proofs.lemmas.Result.{err_from_is_err_and}
use Rattle.sat_base.specs.device.Sink.{sink_of}
use Rattle.sat_base.specs.steps.StepBytes.{fields_bytes, step_bytes}
use Rattle.sat_base.specs.steps.StepViews.{step_of}
use Rattle.sat_base.proofs.lemmas.steps.ListBytes.{step_writes}
use Rattle.sat_base.proofs.lemmas.device.Sending.{stops_same}
use Rattle.sat_base.proofs.device.output.Output.put_step.Goals as goal

pub returns-in_err-put : goal.returns-in_err-put
returns-in_err-put g c =
    let S = g.W.CountedWrite.seen in
    let p = err_from_is_err_and c.from_residual.result c.from_residual.ensures.1 in
    let step = step_of c.args.step.now in
    rw p.1 (stops_same (sink_of S g.P.Room.waiting c.args.self.now) (sink_of S g.P.Room.waiting c.put.new.self) (c.tag.result ∷ []) (fields_bytes step) (step_bytes step) (ap (λ (n : ℕ). n ∷ fields_bytes step) c.tag.ensures) c.in_err-put.ensures)

pub returns : goal.returns
returns g c = grind (arith, common_steps, step_writes)
