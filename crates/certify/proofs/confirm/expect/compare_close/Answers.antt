use Rattle.std.proofs.Common.{ap}
use Rattle.sat_base.specs.steps.StepViews.{step_of}
use Rattle.certify.proofs.lemmas.confirm.Compared.{close_fits, close_differs, empty_list, some_list}
use Rattle.certify.specs.declared.verdict.Why.TheVariants.{AskDiffers}
use Rattle.certify.proofs.confirm.expect.compare_close.Goals as goal

pub returns-then-is_empty : goal.returns-then-is_empty
returns-then-is_empty c =
    let codes = c.in-Assumptions.assumptions.now in
    close_fits c.args.known (step_of c.args.step.now) codes (ap step_of c.in-Assumptions.is) (empty_list codes c.is_empty.result c.is_empty.ensures c.if-is_empty.true)

pub returns : goal.returns
returns c =
    let codes = c.in-Assumptions.assumptions.now in
    close_differs c.args.known (step_of c.args.step.now) codes AskDiffers (ap step_of c.in-Assumptions.is) (some_list codes c.is_empty.result c.is_empty.ensures c.if-is_empty.false)
