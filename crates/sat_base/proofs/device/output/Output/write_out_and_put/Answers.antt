use Rattle.std.proofs.lemmas.Grind.{common_steps}
use Rattle.std.proofs.Common.{[], ◌∷◌, arith}
use Rattle.std.proofs.lemmas.Result.{err_from_is_err_and}
use Rattle.sat_base.specs.device.Sink.{sink_of}
use Rattle.sat_base.proofs.lemmas.device.Sending.{sends_stops, piece_waits}
use Rattle.sat_base.proofs.device.output.Output.write_out_and_put.Goals as goal

pub returns-in_err-write_out : goal.returns-in_err-write_out
returns-in_err-write_out g c =
    let S = g.W.CountedWrite.seen in
    let Q = g.P.Room.waiting in
    let p = err_from_is_err_and c.from_residual.result c.from_residual.ensures.1 in
    rw p.1 (sends_stops (sink_of S Q c.args.self.now) (sink_of S Q c.write_out.new.self) [] (c.args.byte ∷ []) c.in_err-write_out.ensures.sends)

pub returns : goal.returns
returns g c = grind (arith, common_steps, piece_waits)
