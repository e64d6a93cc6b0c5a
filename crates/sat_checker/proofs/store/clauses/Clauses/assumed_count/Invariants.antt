use Rattle.std.proofs.Common.{◌≡◌, ◌≤◌, ◌+◌, drop}
use Rattle.sat_checker.specs.LiteralSets.{canonical}
use Rattle.sat_checker.specs.Storing.{clause_with}
use Rattle.sat_checker.specs.inner.SlotView.{live_clauses, live_literal_count}
use Rattle.sat_checker.proofs.store.clauses.Clauses.assumed_count.Given as goal

-- the clause is among the remaining clauses, if it is stored
abbrev pub invariant-loop-place : goal.invariant-loop-place
invariant-loop-place l = record {
  found : clause_with (canonical l.assigned.literals) (live_clauses l.self) ≡ clause_with (canonical l.assigned.literals) (live_clauses (drop l.place l.self));
  looks : l.looks + live_literal_count (drop l.place l.self) ≤ l.fn.looks + live_literal_count l.self;
  rise : l.fn.looks ≤ l.looks;
}
