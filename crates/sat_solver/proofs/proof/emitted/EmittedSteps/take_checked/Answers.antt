use Rattle.sat_base.specs.steps.StepViews.{step_of}
use Rattle.sat_solver.proofs.lemmas.session.CheckedLemmas.{lost_fed, taken_fed, failed_fed, taken_cause, taken_why, may_more}
use Rattle.sat_solver.proofs.proof.emitted.EmittedSteps.take_checked.Goals as goal

pub invariant_of-self-clause-fed : goal.invariant_of-self-clause-fed
invariant_of-self-clause-fed g c =
    let m = c.args.self.now in
    lost_fed g.P.ProofProcessor.takes m.lost m.own m.roll.items m.history.steps m.fed c.if-self-2.true (step_of c.args.step.now) c.and-self.result.steps c.and-self.ensures

pub invariant_of-self-in-Ok-clause-fed : goal.invariant_of-self-in-Ok-clause-fed
invariant_of-self-in-Ok-clause-fed g c =
    let m = c.args.self.now in
    taken_fed g.P.ProofProcessor.takes m.lost m.own m.roll.items m.history.steps m.fed c.in-Some.own c.in-Some.is c.take.new.self (step_of c.args.step.now) c.and-self.result.steps c.and-self.ensures c.if-self-2.false c.requires.may c.in-Ok.ensures.takes

pub invariant_of-self-in-Err-clause-fed : goal.invariant_of-self-in-Err-clause-fed
invariant_of-self-in-Err-clause-fed g c =
    let m = c.args.self.now in
    failed_fed g.P.ProofProcessor.takes m.lost m.own m.roll.items m.history.steps m.fed c.in-Some.own c.in-Some.is c.take.new.self c.in-Err.error (step_of c.args.step.now) c.and-self.result.steps c.and-self.ensures c.if-self-2.false c.requires.may c.in-Err.ensures.takes

pub store_cause-requires : goal.store_cause-requires
store_cause-requires g c =
    let m = c.args.self.now in
    taken_cause g.P.ProofProcessor.takes m.lost m.own m.roll.items m.history.steps m.fed c.in-Some.own c.in-Some.is c.take.new.self c.in-Err.error (step_of c.args.step.now) c.if-self-2.false c.requires.may c.in-Err.ensures.takes

pub returns-in-Err-clause-fails : goal.returns-in-Err-clause-fails
returns-in-Err-clause-fails g c =
    let m = c.args.self.now in
    (rw c.store_cause.ensures.fault (taken_why g.P.ProofProcessor.takes m.lost m.own m.roll.items m.history.steps m.fed c.in-Some.own c.in-Some.is c.take.new.self c.in-Err.error (step_of c.args.step.now) c.and-self.result.steps c.and-self.ensures c.if-self-2.false c.requires.may c.in-Err.ensures.takes), c.store_cause.ensures.kept)

pub invariant_of-self-clause-may : goal.invariant_of-self-clause-may
invariant_of-self-clause-may g c = may_more c.args.self.now.history.steps c.and-self.result.steps (step_of c.args.step.now) c.and-self.ensures c.requires.may

pub invariant_of-self-in-Ok-clause-may : goal.invariant_of-self-in-Ok-clause-may
invariant_of-self-in-Ok-clause-may g c = may_more c.args.self.now.history.steps c.and-self.result.steps (step_of c.args.step.now) c.and-self.ensures c.requires.may

pub invariant_of-self-in-Err-clause-may : goal.invariant_of-self-in-Err-clause-may
invariant_of-self-in-Err-clause-may g c = may_more c.args.self.now.history.steps c.and-self.result.steps (step_of c.args.step.now) c.and-self.ensures c.requires.may
