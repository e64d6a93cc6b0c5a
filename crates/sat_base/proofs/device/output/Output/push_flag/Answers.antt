use Rattle.sat_base.specs.device.Sink.{sink_of}
use Rattle.sat_base.proofs.lemmas.steps.ListBytes.{flag_writes, no_flag_writes}
use Rattle.sat_base.proofs.lemmas.steps.Pushing.{pushed}
use Rattle.sat_base.proofs.device.output.Output.push_flag.Goals as goal

pub returns-then-flag-clause-sends : goal.returns-then-flag-clause-sends
returns-then-flag-clause-sends g c =
    let S = g.W.CountedWrite.seen in
    flag_writes c.args.flag (sink_of S g.P.Room.waiting c.args.self.now) (sink_of S g.P.Room.waiting c.push_one.new.self) pushed c.if-flag.true c.push_one.ensures.sends

pub returns-else-flag-clause-sends : goal.returns-else-flag-clause-sends
returns-else-flag-clause-sends g c =
    let S = g.W.CountedWrite.seen in
    no_flag_writes c.args.flag (sink_of S g.P.Room.waiting c.args.self.now) (sink_of S g.P.Room.waiting c.push_one-else-flag.new.self) pushed c.if-flag.false c.push_one-else-flag.ensures.sends
