use Rattle.sat_base.specs.device.Sink.{sink_of}
use Rattle.sat_base.proofs.lemmas.steps.ListBytes.{none_writes, some_writes}
use Rattle.sat_base.proofs.lemmas.steps.Pushing.{pushed}
use Rattle.sat_base.proofs.device.output.Output.push_optional.Goals as goal

pub returns-in-None-clause-sends : goal.returns-in-None-clause-sends
returns-in-None-clause-sends g c =
    let S = g.W.CountedWrite.seen in
    none_writes c.args.var (sink_of S g.P.Room.waiting c.args.self.now) (sink_of S g.P.Room.waiting c.push_one.new.self) pushed c.in-None.is c.push_one.ensures.sends

pub returns-in-Some-clause-sends : goal.returns-in-Some-clause-sends
returns-in-Some-clause-sends g c =
    let S = g.W.CountedWrite.seen in
    some_writes c.args.var c.in-Some.var c.index.result (sink_of S g.P.Room.waiting c.args.self.now) (sink_of S g.P.Room.waiting c.push_one-in-Some.new.self) pushed c.in-Some.is c.index.ensures.value c.index.ensures.bound c.push_one-in-Some.ensures.sends
