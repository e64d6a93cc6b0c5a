use Rattle.std.proofs.Common.{◌≡◌, ◌++◌, drop}
use Rattle.sat_solver.specs.proof.DratText.{binary_clause_bytes}
use Rattle.sat_solver.proofs.proof.drat.put_bytes.Given as goal

abbrev pub invariant-loop-lit : goal.invariant-loop-lit
invariant-loop-lit l = l.text.items ++ binary_clause_bytes (drop l.lit-index l.lits) ≡ l.fn.text.items ++ binary_clause_bytes l.lits
