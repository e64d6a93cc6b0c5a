use Rattle.std.proofs.Common.{sym, ◌∙◌, ap}
use Rattle.sat_store.specs.variables.Maps.{target}
use Rattle.sat_solver.proofs.lemmas.variables.Indices.{index_had}
use Rattle.sat_solver.proofs.variables.solver_vars.solver_from_global.Goals as goal

pub returns-in-Some-clause-indexes : goal.returns-in-Some-clause-indexes
returns-in-Some-clause-indexes g c = index_had c.args.variables.now (g.W.StepLog.steps c.args.writer.now) c.args.given.now.items c.args.global c.in-Some.solver c.requires.valid
    (sym (c.in-Some.ensures ∙ ap (λ m. target m c.args.global) c.fwd.ensures.map))
