use Rattle.std.proofs.Common.{◌+◌}
use Rattle.sat_base.specs.steps.StepViews.{step_of}
use Rattle.certify.proofs.lemmas.confirm.Following.{takes_name}
use Rattle.certify.proofs.confirm.follow.follow_no_name.Goals as goal

pub returns : goal.returns
returns c earlier o ask s f a = takes_name c.args.variables.now c.remove.new.self earlier s (c.args.name + 1) (step_of c.args.step.now) f a c.remove.ensures
