use Rattle.std.proofs.Common.{ap}
use Rattle.sat_base.specs.steps.StepViews.{step_of}
use Rattle.certify.proofs.lemmas.confirm.Compared.{end_fits}
use Rattle.certify.proofs.confirm.expect.compare_end.Goals as goal

pub returns : goal.returns
returns c = end_fits c.args.known (step_of c.args.step.now) (ap step_of c.in-End.is)
