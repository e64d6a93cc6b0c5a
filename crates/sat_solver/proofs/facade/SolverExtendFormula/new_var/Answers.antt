use Rattle.sat_solver.proofs.lemmas.facade.LawLemmas.{name_extended}
use Rattle.sat_solver.proofs.facade.SolverExtendFormula.new_var.Goals as goal

pub returns-clause-makes : goal.returns-clause-makes
returns-clause-makes g c = name_extended c.new_var.result c.args.self.now c.new_var.new.self (record {
  names = c.new_var.ensures.names;
  steps = c.new_var.ensures.steps;
  text = c.new_var.ensures.text;
  checker = c.new_var.ensures.checker;
})
