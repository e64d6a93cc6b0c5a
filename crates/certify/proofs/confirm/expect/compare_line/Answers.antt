use Rattle.std.proofs.Common.{ap}
use Rattle.sat_base.specs.steps.StepViews.{step_of}
use Rattle.certify.proofs.lemmas.confirm.Compared.{line_reported}
use Rattle.certify.specs.declared.verdict.Why.TheVariants.{AnswerDiffers}
use Rattle.certify.proofs.confirm.expect.compare_line.Goals as goal

pub returns : goal.returns
returns c = line_reported c.args.known (step_of c.args.step.now) c.args.line.now c.in-Model.assignment.now c.in_ok-shown.shown AnswerDiffers c.unless.result c.unless.ensures (ap step_of c.in-Model.is) c.in_ok-shown.ensures
