use Rattle.std.proofs.lemmas.Grind.{common_steps}
use Rattle.std.proofs.Common.{◌≡◌, ◌∙◌, ◌+◌, Ok, length, ap, subst, arith}
use Rattle.std.proofs.lemmas.Result.{err_from_is_err_and}
use Rattle.sat_solver.specs.proof.ProofView.{session_of}
use Rattle.sat_solver.specs.declared.context.Search.{Search}
use Rattle.sat_parts.specs.parts.Frame.{RemovesBinaries}
use Rattle.sat_parts.specs.parts.Words.{TrailWordExtends}
use Rattle.sat_solver.specs.cdcl.Joint.{SameAssumedAndNames}
use Rattle.sat_solver.specs.unit_simplify.EmptyTrail.{LeavesPairs, IsStrengthened}
use Rattle.sat_solver.proofs.lemmas.cdcl.GoingLemmas.{goes_none, goes_then, goes_then_fails, goes_on}
use Rattle.sat_solver.proofs.lemmas.unit_simplify.StrengthenSearchLemmas.{pairs_begin, pairs_removed, may_remove, goes_leaves}
use Rattle.sat_solver.proofs.unit_simplify.binary.simplify_binary.Goals as goal

pub loop-code-init : goal.loop-code-init
loop-code-init g c = grind (arith, common_steps, goes_none, pairs_begin, may_remove)

pub returns-in_err-delete_pairs_of : goal.returns-in_err-delete_pairs_of
returns-in_err-delete_pairs_of g c = grind (arith, common_steps, err_from_is_err_and, goes_then_fails)

pub loop-code-preserved : goal.loop-code-preserved
loop-code-preserved g c = record {
  same = c.in_ok-delete_pairs_of.ensures.same ∙ ap (λ (s : Search). record s { scratch = c.delete_pairs_of.new.search.scratch }) c.loop-code.invariant.same;
  went = goes_then g.W.CountedWrite.seen tt (Ok tt) c.args.proof.now c.loop-code.proof c.delete_pairs_of.new.proof _ (λ _ _. LeavesPairs (session_of c.delete_pairs_of.new.proof) c.loop-code.search (c.from_code.result + 1) 0) _ c.loop-code.invariant.went c.in_ok-delete_pairs_of.ensures.left
      (λ xs ys y a b. subst (λ k. LeavesPairs (session_of c.delete_pairs_of.new.proof) c.args.search.now (k + 1) 0) c.from_code.ensures (subst (λ (s : Search). LeavesPairs (session_of c.delete_pairs_of.new.proof) s (c.from_code.result + 1) 0) c.loop-code.invariant.same b));
}

pub returns : goal.returns
returns g c =
    let i = c.loop-code.invariant in
    let x = c.args.search.now in
    let y : Search = record c.loop-code.search { parts = c.remove_binary.new.parts } in
    let room = c.requires.search.valid.holds.below.propagation.ranges.room in
    let end : c.loop-code.code ≡ length c.args.search.now.parts.binary.implied = omega (arith, room, c.loop-code-test.false, c.loop-code.auto.code-end, ap (λ xs. length xs) c.assignment.ensures.values) in
    let leaves : SameAssumedAndNames (session_of c.args.proof.now) (session_of c.loop-code.proof) = goes_leaves g.W.CountedWrite.seen tt c.args.proof.now c.loop-code.proof _ i.went in
    let removed : RemovesBinaries c.args.search.now.parts c.remove_binary.new.parts = subst (λ (s : Search). RemovesBinaries s.parts c.remove_binary.new.parts) i.same c.remove_binary.ensures.removed in
    goes_on g.W.CountedWrite.seen tt tt c.args.proof.now c.loop-code.proof (λ _ _. LeavesPairs (session_of c.loop-code.proof) c.args.search.now c.loop-code.code 0)
    (λ _ _. IsStrengthened (session_of c.loop-code.proof) c.args.search.now (record c.loop-code.search { parts = c.remove_binary.new.parts }) × RemovesBinaries c.args.search.now.parts c.remove_binary.new.parts)
    (λ steps z. (
      pairs_removed (session_of c.args.proof.now) (session_of c.loop-code.proof) x y c.requires.search c.requires.flat leaves (subst (λ k. LeavesPairs (session_of c.loop-code.proof) c.args.search.now k 0) end z)
          (ap (λ (s : Search). s.globals) i.same) (ap (λ (s : Search). s.assumptions) i.same) (ap (λ (s : Search). s.analysis) i.same) (ap (λ (s : Search). s.flags) i.same)
          c.remove_binary.ensures.holds removed (subst (λ (s : Search). TrailWordExtends s.parts c.remove_binary.new.parts) i.same c.remove_binary.ensures.word),
      removed,
    ))
    i.went
