use Rattle.std.proofs.Common.{rules}
use Rattle.sat_base.specs.device.Sink.{sink_of}
use Rattle.sat_base.proofs.lemmas.steps.ListBytes.{unit_writes}
use Rattle.sat_base.proofs.lemmas.steps.Pushing.{pushed}
use Rattle.sat_base.proofs.device.output.Output.push_unit.Goals as goal

pub returns-clause-sends : goal.returns-clause-sends
returns-clause-sends g c =
    let S = g.W.CountedWrite.seen in
    unit_writes c.args.unit c.code.result (sink_of S g.P.Room.waiting c.args.self.now) (sink_of S g.P.Room.waiting c.push_one.new.self) (sink_of S g.P.Room.waiting c.push_one-2.new.self) pushed c.code.ensures.value c.code.ensures.bound (search rules) c.push_one.ensures.sends c.push_one-2.ensures.sends
