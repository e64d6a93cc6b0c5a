use Rattle.std.proofs.Common.{arith}
use Rattle.std.proofs.lemmas.Grind.{common_steps}
use Rattle.std.proofs.Common.{inl}
use Rattle.sat_solver.proofs.lemmas.session.CheckedLemmas.{reported_fed, unreported_fed, unreported_cause, unreported_why, reported_settled}
use Rattle.sat_solver.proofs.proof.emitted.EmittedSteps.take_delayed.Goals as goal

pub invariant_of-self-in-Ok-clause-fed : goal.invariant_of-self-in-Ok-clause-fed
invariant_of-self-in-Ok-clause-fed g c = grind (arith, common_steps, reported_fed)

pub invariant_of-self-in-Err-clause-fed : goal.invariant_of-self-in-Err-clause-fed
invariant_of-self-in-Err-clause-fed g c =
    let m = c.args.self.now in
    unreported_fed g.P.ProofProcessor.takes m.lost m.own m.roll.items m.history.steps m.fed c.in-Some.own c.in-Some.is c.take_delayed.new.self c.in-Err.error c.if-self.false c.in-Err.ensures.takes

pub store_cause-requires : goal.store_cause-requires
store_cause-requires g c =
    let m = c.args.self.now in
    unreported_cause g.P.ProofProcessor.takes m.lost m.own m.roll.items m.history.steps m.fed c.in-Some.own c.in-Some.is c.take_delayed.new.self c.in-Err.error c.if-self.false c.in-Err.ensures.takes

pub returns-in-Ok-clause-reported : goal.returns-in-Ok-clause-reported
returns-in-Ok-clause-reported g c =
    let m = c.args.self.now in
    (c.if-self.false, reported_settled g.P.ProofProcessor.takes m.lost m.own m.roll.items m.history.steps m.fed c.in-Some.own c.in-Some.is c.take_delayed.new.self c.if-self.false c.in-Ok.ensures.takes)

pub returns-in-Err-clause-fails : goal.returns-in-Err-clause-fails
returns-in-Err-clause-fails g c =
    let m = c.args.self.now in
    inl (rw c.store_cause.ensures.fault (unreported_why g.P.ProofProcessor.takes m.lost m.own m.roll.items m.history.steps m.fed c.in-Some.own c.in-Some.is c.take_delayed.new.self c.in-Err.error c.if-self.false c.in-Err.ensures.takes), c.store_cause.ensures.kept)
