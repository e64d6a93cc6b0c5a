use Rattle.std.proofs.Common.{◌≡◌, ◌≤◌, ◌+◌, drop}
use Rattle.sat_checker.specs.inner.ModelTests.{are_all_true, irredundant_length}
use Rattle.sat_checker.specs.inner.SlotView.{live_clauses, live_literal_count}
use Rattle.sat_checker.proofs.store.clauses.Clauses.are_satisfied.Given as goal

-- the result depends only on the remaining clauses
abbrev pub invariant-loop-place : goal.invariant-loop-place
invariant-loop-place l = record {
  found : are_all_true l.assigned.literals (live_clauses l.self) ≡ are_all_true l.assigned.literals (live_clauses (drop l.place l.self));
  looks : l.looks + live_literal_count (drop l.place l.self) ≤ l.fn.looks + live_literal_count l.self;
  seen : l.looks + irredundant_length (live_clauses (drop l.place l.self)) ≡ l.fn.looks + irredundant_length (live_clauses l.self);
  rise : l.fn.looks ≤ l.looks;
}
