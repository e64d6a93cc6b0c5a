use Rattle.std.proofs.Common.{◌≡◌, ◌++◌, ◌∙◌, ap, sym, arith}
use Rattle.sat_solver.specs.variables.Variables.{variables_used}
use Rattle.sat_solver.specs.Models.{model_to, literal_in}
use Rattle.sat_solver.proofs.lemmas.variables.ModelSteps.{model_zero, model_next}
use Rattle.sat_solver.proofs.model.reconstruct_global_model.Goals as goal

pub loop-index-init : goal.loop-index-init
loop-index-init c = c.clear.ensures.items ∙ sym (model_zero c.args.variables.now c.args.values.now)

pub loop-index-preserved : goal.loop-index-preserved
loop-index-preserved c = model_next c.args.variables.now c.args.values.now c.loop-index.index c.loop-index.lits.items c.push_value.new.lits.items c.loop-index.invariant
    (c.in_ok-push_value.ensures ∙ ap (λ v. c.loop-index.lits.items ++ literal_in c.args.variables.now c.args.values.now v) c.from_index.ensures)

pub returns : goal.returns
returns c = c.loop-index.invariant ∙ ap (model_to c.args.variables.now c.args.values.now) (let e : c.loop-index.index ≡ variables_used c.args.variables.now = (let a = c.loop-index-test.false in let b = c.used_count-count.ensures in let d = c.loop-index.auto in omega arith) in e)
