use Rattle.std.proofs.Common.{◌≡◌, ◌+◌, ◌≤◌, length, drop, vec_len, vec_capacity}
use Rattle.sat_solver.specs.analyze_conflict.AddedState.{added_state}
use Rattle.sat_solver.specs.analyze_conflict.AnalysisState.{with_seen_literals}
use Rattle.sat_solver.proofs.analyze_conflict.adding.add_long_lits.Given as goal

abbrev pub invariant-loop-at : goal.invariant-loop-at
invariant-loop-at l = record {
  size : length l.flags ≡ length l.graph;
  clause_room : vec_len l.clause + length l.lits ≤ vec_capacity l.clause + l.at;
  seen_room : vec_len l.seen + length l.lits ≤ vec_capacity l.seen + l.at;
  left : with_seen_literals l.graph l.top (drop l.at l.lits) (added_state l.clause.items l.seen.items l.flags l.pending)
      ≡ with_seen_literals l.graph l.top l.lits (added_state l.fn.clause.items l.fn.seen.items l.fn.flags l.fn.pending);
}
