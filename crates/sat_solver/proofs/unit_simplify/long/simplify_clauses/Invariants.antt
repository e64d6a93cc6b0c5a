use Rattle.std.proofs.Common.{Ok}
use Rattle.sat_solver.specs.proof.ProofView.{session_of}
use Rattle.sat_solver.specs.cdcl.StepEffects.{EmitsSteps}
use Rattle.sat_solver.specs.unit_simplify.EmptyTrail.{IsStrengthened, AreOpenTo}
use Rattle.sat_solver.proofs.unit_simplify.long.simplify_clauses.Given as goal

abbrev pub invariant-loop-at : goal.invariant-loop-at
invariant-loop-at g l = record {
  went : EmitsSteps {A = Unit {0}} g.W.CountedWrite.seen (Ok tt) l.fn.proof l.proof (λ _ _. IsStrengthened (session_of l.proof) l.fn.search l.search);
  left : AreOpenTo l.fn.search l.search l.at;
}
