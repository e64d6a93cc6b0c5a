use Rattle.std.proofs.Common.{◌<◌, subst}
use Rattle.sat_base.specs.values.Literals.{var_limit}
use Rattle.sat_solver.proofs.lemmas.variables.NamingSteps.{name_given}
use Rattle.sat_solver.proofs.variables.user_vars.new_name.Goals as goal

pub returns-clause-names : goal.returns-clause-names
returns-clause-names g c =
    let small : c.in-Some.global < var_limit = subst (λ i. i < var_limit) c.index-within.ensures.value c.index-within.ensures.bound in
    name_given c.args.variables.now c.put_name.new.self (g.W.StepLog.steps c.args.writer.now) (g.W.StepLog.steps c.step.new.self) c.args.user c.in-Some.global c.requires.valid c.requires.free c.requires.within
    c.in-Some.ensures small c.in_ok-put_name.ensures c.in_ok-step.ensures.steps
