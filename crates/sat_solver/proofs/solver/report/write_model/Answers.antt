use Rattle.std.proofs.Common.{arith}
use Rattle.std.proofs.lemmas.Grind.{common_steps}
use Rattle.std.proofs.Common.{◌≡◌, ◌∙◌, List, Option, Bool, ap}
use Rattle.std.proofs.lemmas.Result.{err_from_is_err_and}
use Rattle.sat_base.specs.steps.Steps.{Model}
use Rattle.sat_solver.specs.Models.{model_to}
use Rattle.sat_solver.specs.variables.Variables.{variables_used}
use Rattle.sat_solver.specs.solver.Answering.{model_of}
use Rattle.sat_solver.proofs.lemmas.solver.ShownLemmas.{shown_may}
use Rattle.sat_solver.proofs.lemmas.solver.ReportingLemmas.{model_shown, starved, broken}
use Rattle.sat_solver.proofs.solver.report.write_model.Goals as goal

pub returns-in_err-reconstruct_global_model : goal.returns-in_err-reconstruct_global_model
returns-in_err-reconstruct_global_model g c = (let p = err_from_is_err_and c.from_residual.result c.from_residual.ensures.1 in rw (p.1, p.2) (starved g.W.CountedWrite.seen c.args.names.now c.args.context.now c.requires.joined))

pub add_step-requires-clause-may : goal.add_step-requires-clause-may
add_step-requires-clause-may g c = grind (arith, common_steps, shown_may)

pub returns : goal.returns
returns g c =
    let a = c.args.context.now in
    let n = c.args.names.now in
    let ls : c.deref.result.now ≡ model_of n a = c.deref.ensures.value ∙ c.in_ok-reconstruct_global_model.ensures ∙ ap (λ (vs : List (Option Bool)). model_to n vs (variables_used n)) c.assignment-values.ensures.values in
    model_shown g.W.CountedWrite.seen n a c.requires.joined c.add_step.new.self c.deref.result.now ls c.in_ok-add_step.ensures.records c.in_ok-add_step.ensures.keeps

pub returns-in_err-add_step : goal.returns-in_err-add_step
returns-in_err-add_step g c =
    let p = err_from_is_err_and c.from_residual-in_err-add_step.result c.from_residual-in_err-add_step.ensures.1 in
    rw (p.1, p.2) (broken g.W.CountedWrite.seen c.args.names.now c.args.context.now c.requires.joined c.in_err-add_step.field-0.0 (Model c.deref.result.now) c.add_step.new.self c.in_err-add_step.ensures.records)
