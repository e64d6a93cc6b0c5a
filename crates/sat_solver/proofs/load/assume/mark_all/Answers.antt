use Rattle.std.proofs.Common.{get_or, ◌∙◌, ap, refl}
use Rattle.sat_base.specs.values.Literals.{variable}
use Rattle.sat_store.specs.variables.VarData.{unused_variable}
use Rattle.sat_solver.proofs.lemmas.variables.Assumed.{one_marked, all_marked}
use Rattle.sat_solver.proofs.lemmas.variables.TakenNames.{any_default}
use Rattle.sat_solver.proofs.load.assume.mark_all.Goals as goal

pub loop-lit-preserved : goal.loop-lit-preserved
loop-lit-preserved c = (
  c.set_assumed.ensures.size ∙ c.loop-lit.invariant.0,
  one_marked (λ v. get_or c.args.list.now.items v unused_variable) (λ v. get_or c.loop-lit.list.items v unused_variable) (λ v. get_or c.set_assumed.new.list.items v unused_variable) c.args.lits.now c.loop-lit.lit-index (get_or c.args.lits.now c.loop-lit.lit-index 0) c.var.result c.args.assumed
      c.loop-lit.invariant.1 c.loop-lit-test.true refl (c.var.ensures ∙ ap variable (c.lit-item.is ∙ any_default c.args.lits.now c.loop-lit.lit-index c.lit-item.result 0 c.loop-lit-test.true)) c.set_assumed.ensures.put,
)

pub returns-clause-marks : goal.returns-clause-marks
returns-clause-marks c = all_marked (λ v. get_or c.args.list.now.items v unused_variable) (λ v. get_or c.loop-lit.list.items v unused_variable) c.args.lits.now c.loop-lit.lit-index c.args.assumed c.loop-lit-test.false c.loop-lit.invariant.1
