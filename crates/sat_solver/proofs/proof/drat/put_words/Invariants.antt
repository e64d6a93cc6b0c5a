use Rattle.std.proofs.Common.{◌≡◌, ◌++◌, drop}
use Rattle.sat_base.specs.dimacs.DimacsText.{clause_line}
use Rattle.sat_solver.proofs.proof.drat.put_words.Given as goal

abbrev pub invariant-loop-lit : goal.invariant-loop-lit
invariant-loop-lit l = l.text.items ++ clause_line (drop l.lit-index l.lits) ≡ l.fn.text.items ++ clause_line l.lits
