use Rattle.sat_base.specs.device.Sink.{sink_of}
use Rattle.sat_base.proofs.lemmas.steps.NumberBytes.{GroupsPut}
use Rattle.sat_base.proofs.device.output.Output.put_by_bytes.Given as goal

abbrev pub invariant-loop-rest : goal.invariant-loop-rest
invariant-loop-rest g l = GroupsPut l.number l.rest (sink_of g.W.CountedWrite.seen g.P.Room.waiting l.fn.self) (sink_of g.W.CountedWrite.seen g.P.Room.waiting l.self)

abbrev pub decreases-loop-rest : goal.decreases-loop-rest
decreases-loop-rest g l = l.rest
