use Rattle.sat_base.specs.steps.StepViews.{step_of}
use Rattle.sat_solver.proofs.lemmas.session.PuttingLemmas.{counts_one}
use Rattle.sat_solver.proofs.proof.Proof.count.Goals as goal

pub returns-clause-takes : goal.returns-clause-takes
returns-clause-takes g c =
    let p = c.args.self.now in
    counts_one g.W.CountedWrite.seen p.output p.broken p.counting c.with-self.result (step_of c.args.step.now) c.requires.shut c.requires.width c.with-self.ensures
