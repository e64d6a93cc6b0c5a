use Rattle.std.proofs.Common.{◌≡◌, Option, Some, None, sym, ap, ◌∙◌}
use Rattle.sat_base.specs.steps.Steps.{UserVarName}
use Rattle.sat_base.specs.steps.StepViews.{step_of}
use Rattle.certify.specs.declared.verdict.Why.TheVariants.{NameDiffers}
use Rattle.certify.proofs.lemmas.confirm.Compared.{no_name_fits, no_name_differs}
use Rattle.certify.proofs.confirm.expect.compare_no_name.Goals as goal

pub returns-in_default-get : goal.returns-in_default-get
returns-in_default-get c =
    let step : step_of c.args.step.now ≡ UserVarName c.in-UserVarName.global None = ap step_of c.in-UserVarName.is ∙ ap (UserVarName c.in-UserVarName.global) c.in_default-user.is in
    no_name_differs c.args.known (step_of c.args.step.now) c.args.name c.in-UserVarName.global NameDiffers step (λ q. c.in_default-get.not-Some c.in-UserVarName.global (c.get.ensures ∙ q))

pub returns-then-index : goal.returns-then-index
returns-then-index c =
    let step : step_of c.args.step.now ≡ UserVarName c.in-UserVarName.global None = ap step_of c.in-UserVarName.is ∙ ap (UserVarName c.in-UserVarName.global) c.in_default-user.is in
    no_name_differs c.args.known (step_of c.args.step.now) c.args.name c.in-UserVarName.global NameDiffers step
    (λ q. let same : c.in-Some-get.variable ≡ c.in-UserVarName.global = one_of (sym c.in-Some-get.is ∙ c.get.ensures ∙ q) in c.if-index.true (c.index.ensures.value ∙ same ∙ sym c.index-2.ensures.value))
  where
    one_of : {A : Type 0} {i k : A} → ◌≡◌ {A = Option A} (Some i) (Some k) → i ≡ k
    one_of e = cc

pub returns : goal.returns
returns c =
    let step : step_of c.args.step.now ≡ UserVarName c.in-UserVarName.global None = ap step_of c.in-UserVarName.is ∙ ap (UserVarName c.in-UserVarName.global) c.in_default-user.is in
    let same : c.in-Some-get.variable ≡ c.in-UserVarName.global = sym c.index.ensures.value ∙ c.if-index.false ∙ c.index-2.ensures.value in
    no_name_fits c.args.known (step_of c.args.step.now) c.args.name c.in-UserVarName.global step (sym c.get.ensures ∙ c.in-Some-get.is ∙ ap Some same)
