use Rattle.std.proofs.Common.{Some, ◌∷◌, ◌∙◌, ap}
use Rattle.sat_base.specs.steps.Steps.{UserVarName}
use Rattle.sat_solver.proofs.lemmas.variables.ObservingLemmas.{name_hidden_var, name_left}
use Rattle.sat_solver.proofs.variables.observe.observe_var.Goals as goal

pub returns-clause-names : goal.returns-clause-names
returns-clause-names g c =
    name_hidden_var c.args.variables.now c.put_observed.new.self (g.W.StepLog.steps c.args.writer.now) (g.W.StepLog.steps c.step-2.new.self) c.in-Some.user c.args.global c.requires.valid c.requires.hidden c.in-Some.ensures.next
    c.in_ok-put_observed.ensures (c.in_ok-step-2.ensures.steps ∙ ap (λ ss. UserVarName c.args.global (Some c.in-Some.user) ∷ ss) c.in_ok-step.ensures.steps)

pub returns-in_default-clause-left : goal.returns-in_default-clause-left
returns-in_default-clause-left g c = λ e. name_left c.args.variables.now c.args.global c.requires.valid.tidy c.requires.hidden c.in_default.ensures.full
