use Rattle.sat_solver.proofs.lemmas.variables.Indices.{index_within}
use Rattle.sat_solver.proofs.variables.Variables.take_index.Goals as goal

pub put-requires-clause-within : goal.put-requires-clause-within
put-requires-clause-within c = index_within c.args.self.now c.args.global c.args.solver c.requires.tidy c.requires.there
