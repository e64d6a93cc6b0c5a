use Rattle.std.proofs.Common.{refl, ap, arith}
use Rattle.sat_base.specs.device.Sink.{sink_of}
use Rattle.sat_base.specs.steps.Steps as steps
use Rattle.sat_base.specs.steps.StepViews.{deletion_of}
use Rattle.sat_base.proofs.lemmas.steps.ListBytes.{deletion_writes}
use Rattle.sat_base.proofs.lemmas.steps.Pushing.{pushed}
use Rattle.sat_base.proofs.device.output.Output.push_deletion.Goals as goal

pub returns-in-Redundant-clause-sends : goal.returns-in-Redundant-clause-sends
returns-in-Redundant-clause-sends g c =
    let S = g.W.CountedWrite.seen in
    deletion_writes (deletion_of c.args.proof) steps.Redundant 0 (sink_of S g.P.Room.waiting c.args.self.now) (sink_of S g.P.Room.waiting c.push_one.new.self) pushed (ap deletion_of c.in-Redundant.is) (omega arith) refl (λ h. h) c.push_one.ensures.sends

pub returns-in-Simplified-clause-sends : goal.returns-in-Simplified-clause-sends
returns-in-Simplified-clause-sends g c =
    let S = g.W.CountedWrite.seen in
    deletion_writes (deletion_of c.args.proof) steps.Simplified 1 (sink_of S g.P.Room.waiting c.args.self.now) (sink_of S g.P.Room.waiting c.push_one-in-Simplified.new.self) pushed (ap deletion_of c.in-Simplified.is) (omega arith) refl (λ h. h) c.push_one-in-Simplified.ensures.sends

pub returns-in-Satisfied-clause-sends : goal.returns-in-Satisfied-clause-sends
returns-in-Satisfied-clause-sends g c =
    let S = g.W.CountedWrite.seen in
    deletion_writes (deletion_of c.args.proof) steps.Satisfied 2 (sink_of S g.P.Room.waiting c.args.self.now) (sink_of S g.P.Room.waiting c.push_one-in-Satisfied.new.self) pushed (ap deletion_of c.in-Satisfied.is) (omega arith) refl (λ h. h) c.push_one-in-Satisfied.ensures.sends
