use Rattle.sat_solver.proofs.lemmas.solver.RestingLemmas.{model_rests}
use Rattle.sat_solver.proofs.solver.Engine.model.Goals as goal

pub returns-in_ok-model_lits-in-Sat-clause-model : goal.returns-in_ok-model_lits-in-Sat-clause-model
returns-in_ok-model_lits-in-Sat-clause-model g c = model_rests c.args.self.now (c.requires c.if-self.false) c.if-self.false c.in-Sat.is c.in_ok-model_lits-in-Sat.field-0.items c.in_ok-model_lits-in-Sat.ensures.line
