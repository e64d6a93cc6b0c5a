use Rattle.std.proofs.Common.{◌≡◌, Ok}
use Rattle.sat_solver.specs.proof.ProofView.{session_of}
use Rattle.sat_solver.specs.cdcl.StepEffects.{EmitsSteps}
use Rattle.sat_solver.specs.unit_simplify.EmptyTrail.{LeavesPairs}
use Rattle.sat_solver.proofs.unit_simplify.binary.simplify_binary.Given as goal

abbrev pub invariant-loop-code : goal.invariant-loop-code
invariant-loop-code g l = record {
  same : l.search ≡ record l.fn.search { scratch = l.search.scratch };
  went : EmitsSteps {A = Unit {0}} g.W.CountedWrite.seen (Ok tt) l.fn.proof l.proof (λ _ _. LeavesPairs (session_of l.proof) l.fn.search l.code 0);
}
