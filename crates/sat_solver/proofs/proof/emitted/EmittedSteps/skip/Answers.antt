use Rattle.sat_base.specs.steps.StepViews.{step_of}
use Rattle.sat_solver.proofs.lemmas.session.CheckedLemmas.{skipped_fed, may_more}
use Rattle.sat_solver.proofs.proof.emitted.EmittedSteps.skip.Goals as goal

pub invariant_of-self-clause-fed : goal.invariant_of-self-clause-fed
invariant_of-self-clause-fed g c =
    let m = c.args.self.now in
    skipped_fed g.P.ProofProcessor.takes m.lost m.own m.roll.items m.history.steps m.fed (step_of c.args.step.now) c.and-self.result.steps c.and-self.ensures

pub invariant_of-self-clause-may : goal.invariant_of-self-clause-may
invariant_of-self-clause-may g c = may_more c.args.self.now.history.steps c.and-self.result.steps (step_of c.args.step.now) c.and-self.ensures c.requires
