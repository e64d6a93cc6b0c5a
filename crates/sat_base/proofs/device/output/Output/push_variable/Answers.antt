use Rattle.std.proofs.Common.{arith}
use Rattle.sat_base.specs.values.Literals.{var_limit}
use Rattle.sat_base.specs.device.Sink.{sink_of}
use Rattle.sat_base.proofs.lemmas.steps.NumberBytes.{number_writes}
use Rattle.sat_base.proofs.lemmas.steps.Pushing.{pushed}
use Rattle.sat_base.proofs.device.output.Output.push_variable.Goals as goal

pub returns-clause-sends : goal.returns-clause-sends
returns-clause-sends g c =
    let S = g.W.CountedWrite.seen in
    number_writes var_limit c.index.result c.args.var (sink_of S g.P.Room.waiting c.args.self.now) (sink_of S g.P.Room.waiting c.push_one.new.self) pushed c.index.ensures.value (omega (arith, c.index.ensures.value, c.index.ensures.bound)) (omega arith) c.push_one.ensures.sends
