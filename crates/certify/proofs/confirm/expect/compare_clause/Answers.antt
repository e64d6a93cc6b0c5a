use Rattle.std.proofs.Common.{ap}
use Rattle.sat_base.specs.steps.StepViews.{step_of}
use Rattle.certify.proofs.lemmas.confirm.Compared.{clause_compared}
use Rattle.certify.specs.declared.verdict.Why.TheVariants.{ClauseDiffers}
use Rattle.certify.proofs.confirm.expect.compare_clause.Goals as goal

pub returns : goal.returns
returns c = clause_compared c.args.known (step_of c.args.step.now) c.args.literals.now c.in-AddClause.clause.now c.in_ok-same.same ClauseDiffers c.unless.result c.unless.ensures c.in_ok-same.ensures (ap step_of c.in-AddClause.is)
