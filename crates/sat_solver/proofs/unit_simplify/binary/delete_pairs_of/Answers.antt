use Rattle.std.proofs.lemmas.Grind.{common_steps}
use Rattle.std.proofs.Common.{◌∙◌, ◌+◌, Ok, ap, subst, arith}
use Rattle.std.proofs.lemmas.Result.{err_from_is_err_and}
use Rattle.sat_solver.specs.proof.ProofView.{session_of}
use Rattle.sat_solver.specs.declared.context.Search.{Search}
use Rattle.sat_solver.specs.unit_simplify.EmptyTrail.{LeavesPairs}
use Rattle.sat_solver.proofs.lemmas.cdcl.GoingLemmas.{goes_none, goes_then, goes_then_fails, goes_on}
use Rattle.sat_solver.proofs.lemmas.unit_simplify.StrengthenSearchLemmas.{pairs_go_on}
use Rattle.sat_solver.proofs.unit_simplify.binary.delete_pairs_of.Goals as goal

pub loop-at-init : goal.loop-at-init
loop-at-init g c = grind (arith, common_steps, goes_none)

pub returns-in_err-delete_pair-clause-left : goal.returns-in_err-delete_pair-clause-left
returns-in_err-delete_pair-clause-left g c = grind (arith, common_steps, err_from_is_err_and, goes_then_fails)

pub loop-at-preserved : goal.loop-at-preserved
loop-at-preserved g c = record {
  same = c.in_ok-delete_pair.ensures.same ∙ ap (λ (s : Search). record s { scratch = c.delete_pair.new.search.scratch }) c.loop-at.invariant.same;
  went = goes_then g.W.CountedWrite.seen tt (Ok tt) c.args.proof.now c.loop-at.proof c.delete_pair.new.proof _ (λ _ _. LeavesPairs (session_of c.delete_pair.new.proof) c.loop-at.search c.args.lit (c.loop-at.at + 1)) _ c.loop-at.invariant.went c.in_ok-delete_pair.ensures.left
      (λ xs ys y a b. subst (λ (s : Search). LeavesPairs (session_of c.delete_pair.new.proof) s c.args.lit (c.loop-at.at + 1)) c.loop-at.invariant.same b);
}

pub returns-clause-left : goal.returns-clause-left
returns-clause-left g c = grind (arith, common_steps, goes_on, pairs_go_on)
