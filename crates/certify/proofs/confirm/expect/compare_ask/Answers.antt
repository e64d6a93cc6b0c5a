use Rattle.std.proofs.Common.{ap}
use Rattle.sat_base.specs.steps.StepViews.{step_of}
use Rattle.certify.proofs.lemmas.confirm.Compared.{ask_compared}
use Rattle.certify.specs.declared.verdict.Why.TheVariants.{AskDiffers}
use Rattle.certify.proofs.confirm.expect.compare_ask.Goals as goal

pub returns : goal.returns
returns c = ask_compared c.args.known (step_of c.args.step.now) c.args.literals.now c.in-Assumptions.assumptions.now c.in_ok-same.same AskDiffers c.unless.result c.unless.ensures c.in_ok-same.ensures (ap step_of c.in-Assumptions.is)
