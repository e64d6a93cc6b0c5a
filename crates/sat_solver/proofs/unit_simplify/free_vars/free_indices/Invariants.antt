use Rattle.std.proofs.Common.{ℕ, ◌≡◌, ◌≤◌, false, length, slice_index_or}
use Rattle.sat_parts.specs.clause.Db.{live_refs}
use Rattle.sat_parts.specs.parts.Round.{IsInNoClause as InNoClause}
use Rattle.sat_solver.specs.unit_simplify.FreedIndices.{FreesSome, FirstIndicesAreUsed}
use Rattle.sat_solver.specs.unit_simplify.FreedVars.{freed_search}
use Rattle.sat_solver.specs.session.Session.{session_after}
use Rattle.sat_solver.proofs.unit_simplify.free_vars.free_indices.Given as goal

abbrev pub invariant-loop-index : goal.invariant-loop-index
invariant-loop-index g l = record {
  keeps : g.S.StepLog.keeps l.writer;
  came : (w : g.row.S.Denot) → g.S.StepLog.took w l.fn.writer → g.S.StepLog.took w l.writer;
  left : FirstIndicesAreUsed l.variables (session_after (g.S.StepLog.steps l.fn.writer)) l.fn.search.parts l.index;
  others : (v : ℕ) → l.index ≤ v → InNoClause l.fn.search.parts.clauses (live_refs l.fn.search.parts.clauses l.fn.search.parts.db.refs) l.fn.search.parts.binary.implied v → slice_index_or l.used.items v false ≡ false;
  frees : FreesSome l.fn.variables l.variables (g.S.StepLog.steps l.fn.writer) (g.S.StepLog.steps l.writer) l.fn.search (freed_search l.used.items l.index l.fn.search);
  size : length l.used.items ≡ length l.fn.search.parts.assignment.current;
  unused : (v : ℕ) → slice_index_or l.used.items v false ≡ false → InNoClause l.fn.search.parts.clauses (live_refs l.fn.search.parts.clauses l.fn.search.parts.db.refs) l.fn.search.parts.binary.implied v;
}
