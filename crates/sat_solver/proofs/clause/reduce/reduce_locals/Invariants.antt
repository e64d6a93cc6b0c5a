use Rattle.std.proofs.Common.{ℕ, ◌<◌, ◌≤◌, length, drop, get_or, Ok}
use Rattle.sat_parts.specs.clause.Orders.{AreDistinct}
use Rattle.sat_solver.specs.proof.ProofView.{session_of}
use Rattle.sat_solver.specs.cdcl.StepEffects.{EmitsSteps}
use Rattle.sat_solver.specs.clause.Reduced.{IsLearnedLong, ReductionEffect}
use Rattle.sat_solver.proofs.lemmas.cdcl.DeletingLemmas.{Halving}
use Rattle.sat_solver.proofs.clause.reduce.reduce_locals.Given as goal

abbrev pub invariant-loop-at : goal.invariant-loop-at
invariant-loop-at g l = record {
  came : EmitsSteps {A = Unit {0}} g.W.CountedWrite.seen (Ok tt) l.fn.proof l.proof (λ _ _. ReductionEffect (session_of l.proof) l.fn.search l.search);
  halving : Halving l.fn.search.parts l.search.parts l.list.items (drop l.at l.list.items) l.left;
  once : AreDistinct l.list.items;
  learnt : (k : ℕ) → l.at ≤ k → k < length l.list.items → IsLearnedLong l.search.parts (get_or l.list.items k 0);
}
