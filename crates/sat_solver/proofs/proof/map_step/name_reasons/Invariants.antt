use Rattle.std.proofs.Common.{◌≡◌, ◌++◌, map, drop}
use Rattle.sat_base.specs.values.Hashes.{hash_of}
use Rattle.sat_solver.specs.analyze_conflict.Derivation.{clause_of}
use Rattle.sat_parts.specs.parts.Whole.{state}
use Rattle.sat_solver.proofs.proof.map_step.name_reasons.Given as goal

abbrev pub invariant-loop-lit : goal.invariant-loop-lit
invariant-loop-lit l = l.hashes.items ++ map (λ m. hash_of (clause_of l.parts.clauses (state l.parts) m)) (drop l.lit-index l.used) ≡ map (λ m. hash_of (clause_of l.parts.clauses (state l.parts) m)) l.used
