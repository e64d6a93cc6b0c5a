use Rattle.sat_solver.proofs.lemmas.facade.LawLemmas.{clause_extended}
use Rattle.sat_solver.proofs.facade.SolverExtendFormula.add_clause.Goals as goal

pub returns-clause-adds : goal.returns-clause-adds
returns-clause-adds g c = clause_extended c.add_clause.result c.args.self.now c.add_clause.new.self c.args.lits.now (record {
  adds = c.add_clause.ensures.adds;
  steps = c.add_clause.ensures.steps;
  text = c.add_clause.ensures.text;
  checker = c.add_clause.ensures.checker;
})
