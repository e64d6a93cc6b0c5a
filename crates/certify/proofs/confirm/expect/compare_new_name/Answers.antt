use Rattle.std.proofs.Common.{◌≡◌, Some, sym, ap, ◌∙◌}
use Rattle.sat_base.specs.steps.Steps.{UserVarName}
use Rattle.sat_base.specs.steps.StepViews.{step_of}
use Rattle.certify.proofs.lemmas.confirm.Compared.{new_name_fits}
use Rattle.certify.proofs.confirm.expect.compare_new_name.Goals as goal

pub returns : goal.returns
returns c =
    let user : c.in-Some.user ≡ c.args.name = sym c.index.ensures.value ∙ c.if-index.false ∙ c.index-2.ensures.value in
    let step : step_of c.args.step.now ≡ UserVarName c.in-UserVarName.global (Some c.args.name) =
    ap step_of c.in-UserVarName.is ∙ ap (UserVarName c.in-UserVarName.global) (c.in-Some.is ∙ ap Some user) in
    new_name_fits c.args.known (step_of c.args.step.now) c.args.name c.in-UserVarName.global step
    (λ earlier k. sym (c.knows-known_before.ensures earlier k.valid) ∙ c.if-known_before.false)
