use Rattle.std.proofs.Common.{[]}
use Rattle.sat_base.specs.steps.StepViews.{step_of}
use Rattle.sat_checker.specs.CheckerView.{view_of}
use Rattle.sat_solver.proofs.lemmas.session.HearingLemmas.{answered}
use Rattle.sat_solver.proofs.proof.checker.feed.Goals as goal

pub returns : goal.returns
returns g c = λ begun written s going may.
    answered g.P.ProofProcessor.takes begun (view_of c.args.checker.now) (view_of c.self_check_step.new.self) written going c.self_check_step.result (step_of c.args.step.now) may (c.self_check_step.ensures.notifies [] begun written s)
