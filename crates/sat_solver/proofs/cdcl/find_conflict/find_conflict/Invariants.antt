use Rattle.std.proofs.Common.{◌-◌, length, Ok}
use Rattle.sat_parts.specs.parts.Words.{TrailWordExtendsFor}
use Rattle.sat_solver.specs.proof.ProofView.{session_of}
use Rattle.sat_solver.specs.cdcl.StepEffects.{EmitsSteps}
use Rattle.sat_solver.specs.cdcl.Joint.{assumed_indices, SearchInvariant, SameVarsAndAssumptions}
use Rattle.sat_solver.proofs.cdcl.find_conflict.find_conflict.Given as goal

abbrev pub invariant-turns : goal.invariant-turns
invariant-turns g l = record {
  came : EmitsSteps {A = Unit {0}} g.W.CountedWrite.seen (Ok tt) l.fn.proof l.proof (λ _ _. Unit {0});
  search : SearchInvariant (session_of l.proof) l.search;
  moved : SameVarsAndAssumptions l.fn.search l.search;
  word : TrailWordExtendsFor (assumed_indices l.fn.search) l.fn.search.parts l.search.parts;
}

abbrev pub decreases-turns : goal.decreases-turns
decreases-turns g l = length l.search.parts.assignment.current - length l.search.parts.trail.starts
