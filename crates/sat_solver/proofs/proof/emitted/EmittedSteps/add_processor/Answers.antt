use Rattle.std.proofs.Common.{refl}
use Rattle.sat_solver.proofs.lemmas.session.CheckedLemmas.{listens_fed, unlistened_fed, unlistened_cause, unlistened_why}
use Rattle.sat_solver.proofs.proof.emitted.EmittedSteps.add_processor.Goals as goal

pub invariant_of-self-in-Ok-clause-fed : goal.invariant_of-self-in-Ok-clause-fed
invariant_of-self-in-Ok-clause-fed g c =
    let m = c.args.self.now in
    listens_fed g.P.ProofProcessor.takes m.lost m.own m.roll.items m.history.steps m.fed c.in-Some.own c.in-Some.is c.add_processor.new.self c.args.processor c.and-roll.result.items c.and-roll.ensures c.requires.begun c.requires.taking c.in-Ok.ensures

pub invariant_of-self-in-Err-clause-fed : goal.invariant_of-self-in-Err-clause-fed
invariant_of-self-in-Err-clause-fed g c =
    let m = c.args.self.now in
    unlistened_fed g.P.ProofProcessor.takes m.lost m.own m.roll.items m.history.steps m.fed c.in-Some.own c.in-Some.is c.add_processor.new.self c.in-Err.error c.args.processor c.requires.begun c.requires.taking c.in-Err.ensures

pub store_cause-requires : goal.store_cause-requires
store_cause-requires g c =
    let m = c.args.self.now in
    unlistened_cause g.P.ProofProcessor.takes m.lost m.own m.roll.items m.history.steps m.fed c.in-Some.own c.in-Some.is c.add_processor.new.self c.in-Err.error c.args.processor c.requires.begun c.requires.taking c.in-Err.ensures

pub returns-in-Err-clause-listens : goal.returns-in-Err-clause-listens
returns-in-Err-clause-listens g c =
    let m = c.args.self.now in
    rw (c.store_cause.ensures.fault, unlistened_why g.P.ProofProcessor.takes m.lost m.own m.roll.items m.history.steps m.fed c.in-Some.own c.in-Some.is c.add_processor.new.self c.in-Err.error c.args.processor c.requires.begun c.requires.taking c.in-Err.ensures, c.in-Some.is) refl
