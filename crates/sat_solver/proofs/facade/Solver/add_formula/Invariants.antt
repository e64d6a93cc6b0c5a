use Rattle.std.proofs.Common.{◌≡◌, false}
use Rattle.sat_solver.proofs.lemmas.facade.FormulaLemmas.{AddedSo}
use Rattle.sat_solver.proofs.facade.Solver.add_formula.Given as goal

-- the earlier clauses were added
abbrev pub invariant-loop-clause : goal.invariant-loop-clause
invariant-loop-clause g l = record {
  was : l.fn.self.failed ≡ false;
  so : AddedSo g.P.ProofProcessor.takes l.fn.self l.self l.formula.clauses l.clause-iterator;
}
