use Rattle.sat_solver.specs.solver.Joined.{NamesSearchInvariant}
use Rattle.sat_solver_tests.proofs.searcher.add_all.Given as goal

abbrev pub invariant-loop-codes : goal.invariant-loop-codes
invariant-loop-codes g l = NamesSearchInvariant l.names l.core
