use Rattle.std.proofs.Common.{◌++◌, ◌∙◌, ap, sym}
use Rattle.sat_solver.specs.variables.Variables.{global_of}
use Rattle.sat_solver.specs.Models.{name_literal}
use Rattle.sat_solver.proofs.lemmas.variables.ModelSteps.{named_zero, named_next}
use Rattle.sat_solver.proofs.model.named_lits.Goals as goal

pub loop-index-init : goal.loop-index-init
loop-index-init c = c.clear.ensures.items ∙ sym (named_zero c.args.variables.now c.args.values.now)

pub loop-index-preserved : goal.loop-index-preserved
loop-index-preserved c = named_next c.args.variables.now c.args.values.now c.loop-index.index c.loop-index.lits.items c.push_named.new.lits.items c.loop-index.invariant
    (c.in_ok-push_named.ensures ∙ ap (λ u. c.loop-index.lits.items ++ name_literal c.args.variables.now c.args.values.now u (global_of c.args.variables.now u)) c.from_index.ensures)
