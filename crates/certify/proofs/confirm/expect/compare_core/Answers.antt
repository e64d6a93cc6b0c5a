use Rattle.std.proofs.Common.{ap}
use Rattle.sat_base.specs.steps.StepViews.{step_of}
use Rattle.certify.proofs.lemmas.confirm.Compared.{core_compared}
use Rattle.certify.specs.declared.verdict.Why.TheVariants.{AnswerDiffers}
use Rattle.certify.proofs.confirm.expect.compare_core.Goals as goal

pub returns : goal.returns
returns c = core_compared c.args.known (step_of c.args.step.now) c.args.core.now c.in-FailedAssumptions.failed_core.now c.in_ok-same.same AnswerDiffers c.unless.result c.unless.ensures c.in_ok-same.ensures c.in-FailedAssumptions._hashes.now (ap step_of c.in-FailedAssumptions.is)
