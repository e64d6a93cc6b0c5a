use Rattle.sat_solver.specs.declared.variables.solver_vars.Given.{Given}
use Rattle.std.proofs.Common.{◌∙◌, ap, get_or}
use Rattle.sat_store.specs.variables.VarData.{unused_variable}
use Rattle.sat_solver.proofs.lemmas.variables.Indices.{index_given}
use Rattle.sat_solver.proofs.variables.solver_vars.new_index.Goals as goal

pub returns-clause-indexes : goal.returns-clause-indexes
returns-clause-indexes g c =
    let given : Given = record { solver = c.next_index-solver.result; unit = c.unit-unit.result } in
    index_given c.args.variables.now c.put_index.new.self (g.W.StepLog.steps c.args.writer.now) (g.W.StepLog.steps c.step.new.self) c.args.given.now.items c.push.new.self.items c.args.global given c.requires.valid c.requires.live c.requires.without
    c.next_index-solver.ensures (c.unit-unit.ensures ∙ ap (λ d. (get_or d.items c.args.global unused_variable).unit) c.in_ok-put_index.ensures.kept) c.in_ok-put_index.ensures c.in_ok-step.ensures.steps c.in_ok-push.ensures.items
