use Rattle.std.proofs.Common.{◌+◌, Some, ap}
use Rattle.sat_base.specs.steps.StepViews.{step_of}
use Rattle.sat_checker.specs.matching.Expected.{NewName}
use Rattle.certify.specs.confirm.NamesAfterStep.{NamesFollowStep}
use Rattle.certify.specs.confirm.Variables.{SetsVariable}
use Rattle.certify.proofs.lemmas.confirm.Following.{on_ok, puts_new}
use Rattle.certify.proofs.confirm.follow.follow_new_name.Goals as goal

pub returns : goal.returns
returns c =
    let old = c.args.variables.now in
    let new = c.put.new.self in
    let step = step_of c.args.step.now in
    on_ok c.put.result (SetsVariable old new (c.args.name + 1) (Some c.in-UserVarName.global)) (NamesFollowStep (λ o ask. NewName (c.args.name + 1)) old step new)
    (λ p earlier o ask s f a. puts_new old new earlier s c.args.name c.in-UserVarName.global step f c.in-UserVarName._user (ap step_of c.in-UserVarName.is) a c.put.ensures.within p) c.put.ensures.put
