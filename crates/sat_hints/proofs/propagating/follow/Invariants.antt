use Rattle.std.proofs.Common.{◌≡◌, drop}
use Rattle.sat_hints.specs.inner.LineChecking.{refutation_failure_of}
use Rattle.sat_hints.specs.inner.ActiveClauses.{active_clauses}
use Rattle.sat_hints.proofs.propagating.follow.Given as goal

-- the clauses still to come give the result that all clauses give
abbrev pub invariant-loop-turn : goal.invariant-loop-turn
invariant-loop-turn l = record {
  course : refutation_failure_of l.fn.assumed.literals (active_clauses l.active l.ids) ≡ refutation_failure_of l.assumed.literals (active_clauses l.active (drop l.turn l.ids));
  room : l.assumed.room ≡ l.fn.assumed.room;
}
