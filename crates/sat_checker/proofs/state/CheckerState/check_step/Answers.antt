use Rattle.std.proofs.Common.{ap}
use Rattle.sat_base.specs.steps.StepViews.{step_of}
use Rattle.sat_checker.proofs.lemmas.state.Kinds.{decided_as}
use Rattle.sat_checker.proofs.state.CheckerState.check_step.Goals as goal

pub returns-in-FailedAssumptions-clause-decides : goal.returns-in-FailedAssumptions-clause-decides
returns-in-FailedAssumptions-clause-decides c = decided_as c.failed_assumptions.result c.args.self.now c.failed_assumptions.new.self (step_of c.args.step.now) _ (ap step_of c.in-FailedAssumptions.is) c.failed_assumptions.ensures.decides
