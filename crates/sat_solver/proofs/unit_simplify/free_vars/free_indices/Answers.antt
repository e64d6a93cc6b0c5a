use Rattle.std.proofs.lemmas.Grind.{common_steps}
use Rattle.std.proofs.Common.{◌≡◌, ◌∙◌, ◌+◌, Some, false, true, sym, subst, arith, get_or}
use Rattle.std.proofs.lemmas.Bool.{true≢false}
use Rattle.sat_solver.specs.session.Session.{session_after}
use Rattle.sat_solver.specs.variables.Variables.{global_at}
use Rattle.sat_solver.specs.unit_simplify.FreedIndices.{FreesSome}
use Rattle.sat_solver.specs.unit_simplify.FreedVars.{freed_search, MarksAtMost}
use Rattle.std.proofs.lemmas.List.{get_or_default}
use Rattle.sat_solver.proofs.lemmas.unit_simplify.FreedLemmas.{frees_none, frees_both, may_free_on, left_none, left_used, left_more}
use Rattle.sat_solver.proofs.lemmas.unit_simplify.FreeingLemmas.{none_freed, frees_skipped}
use Rattle.sat_solver.proofs.lemmas.variables.CameLemmas.{came_on}
use Rattle.sat_solver.proofs.unit_simplify.free_vars.free_indices.Goals as goal

pub loop-index-init : goal.loop-index-init
loop-index-init g c = grind (arith, common_steps, frees_none, left_none, none_freed)

pub loop-index-preserved-then-index : goal.loop-index-preserved-then-index
loop-index-preserved-then-index g c =
    let is_set : get_or c.loop-index.used.items c.loop-index.index false ≡ true = get_or_default c.loop-index.used.items c.loop-index.index false c.index.result.now (omega (arith, c.loop-index-test.true, c.len-index-end.ensures, c.loop-index.invariant.size, c.in_ok-mark_used.ensures.size)) ∙ sym c.index.ensures ∙ c.if-index.true in
    record {
      others = λ v le none. c.loop-index.invariant.others v (omega arith) none;
      left = left_used c.args.variables.now c.loop-index.variables c.loop-index.variables (session_after (g.S.StepLog.steps c.args.writer.now)) (session_after (g.S.StepLog.steps c.loop-index.writer)) c.args.search.now.parts c.loop-index.index c.loop-index.invariant.left
          (λ none. true≢false (sym is_set ∙ c.loop-index.invariant.others c.loop-index.index (omega arith) none));
      keeps = c.loop-index.invariant.keeps;
      came = c.loop-index.invariant.came;
      frees = frees_skipped c.args.variables.now c.loop-index.variables (g.S.StepLog.steps c.args.writer.now) (g.S.StepLog.steps c.loop-index.writer) c.args.search.now c.args.search.now c.loop-index.used.items c.loop-index.index is_set c.loop-index.invariant.frees;
      size = c.loop-index.invariant.size;
      unused = c.loop-index.invariant.unused;
    }

pub release_unused-requires-clause-may : goal.release_unused-requires-clause-may
release_unused-requires-clause-may g c =
    rw c.from_index.ensures
    (may_free_on c.args.variables.now c.loop-index.variables (g.S.StepLog.steps c.args.writer.now) (g.S.StepLog.steps c.loop-index.writer) c.args.search.now (freed_search c.loop-index.used.items c.loop-index.index c.args.search.now) c.loop-index.invariant.frees)

pub release_unused-requires-clause-unused : goal.release_unused-requires-clause-unused
release_unused-requires-clause-unused g c =
    rw c.from_index.ensures
    (c.loop-index.invariant.unused c.loop-index.index
    (get_or_default c.loop-index.used.items c.loop-index.index false c.index.result.now (omega (arith, c.loop-index-test.true, c.len-index-end.ensures, c.loop-index.invariant.size, c.in_ok-mark_used.ensures.size)) ∙ sym c.index.ensures ∙ c.if-index.false))

pub loop-index-preserved : goal.loop-index-preserved
loop-index-preserved g c =
    let marks : MarksAtMost c.loop-index.index c.loop-index.used.items c.release_unused.new.used.items = rw c.from_index.ensures at c.in_ok-release_unused.ensures.marks in
    let frees : FreesSome c.loop-index.variables c.release_unused.new.variables (g.S.StepLog.steps c.loop-index.writer) (g.S.StepLog.steps c.release_unused.new.writer) (freed_search c.loop-index.used.items c.loop-index.index c.args.search.now) (freed_search c.release_unused.new.used.items (c.loop-index.index + 1) c.args.search.now) = rw c.from_index.ensures at c.in_ok-release_unused.ensures.frees in
    record {
      others = λ v le none. marks.others v (omega arith) ∙ c.loop-index.invariant.others v (omega arith) none;
      left = left_more c.args.variables.now c.loop-index.variables c.release_unused.new.variables (session_after (g.S.StepLog.steps c.args.writer.now)) (session_after (g.S.StepLog.steps c.loop-index.writer)) c.args.search.now.parts c.loop-index.index c.loop-index.invariant.left
          frees.fewer c.loop-index.invariant.frees.asked.assumed (λ v e. c.in_ok-release_unused.ensures.left v (subst (λ x. global_at c.release_unused.new.variables x ≡ Some v) (sym c.from_index.ensures) e));
      keeps = c.in_ok-release_unused.ensures.keeps;
      came = λ w t. c.in_ok-release_unused.ensures.emits w (c.loop-index.invariant.came w t);
      frees = frees_both c.args.variables.now c.loop-index.variables c.release_unused.new.variables (g.S.StepLog.steps c.args.writer.now) (g.S.StepLog.steps c.loop-index.writer) (g.S.StepLog.steps c.release_unused.new.writer) c.args.search.now (freed_search c.loop-index.used.items c.loop-index.index c.args.search.now) (freed_search c.release_unused.new.used.items (c.loop-index.index + 1) c.args.search.now)
          c.loop-index.invariant.frees frees;
      size = marks.size ∙ c.loop-index.invariant.size;
      unused = λ v e. c.loop-index.invariant.unused v (marks.more v e);
    }

pub returns-in_err-release_unused-clause-emits : goal.returns-in_err-release_unused-clause-emits
returns-in_err-release_unused-clause-emits g c =
    came_on g.S.StepLog.took g.S.StepLog.broke c.from_residual-in_err-release_unused.result c.in_err-release_unused.field-0.0 c.args.writer.now c.release_unused.new.writer c.from_residual-in_err-release_unused.ensures.1 (λ w t. c.in_err-release_unused.ensures.emits w (c.loop-index.invariant.came w t))
