use Rattle.std.proofs.Common.{◌+◌, ◌-◌, ◌≤◌, drop, length, map, Some}
use Rattle.sat_checker.specs.Looks.{total_length}
use Rattle.sat_checker.specs.announcements.Following.{with_causes}
use Rattle.sat_checker.specs.inner.NeededView.{MarksCauses}
use Rattle.sat_checker.specs.inner.Reasons.{reason_in, conflict_at}
use Rattle.sat_checker.specs.inner.SlotView.{literals_at}
use Rattle.sat_checker.proofs.rup.needed.Needed.follow_all.Given as goal

-- the last `done` notes were followed
abbrev pub invariant-loop-done : goal.invariant-loop-done
invariant-loop-done l = let so_far = drop (l.count - l.done) l.passed.reasons in record {
  followed : MarksCauses l.self (with_causes (map (reason_in l.clauses) so_far) (conflict_at l.clauses (Some l.place)));
  looks : l.looks ≤ l.fn.looks + length (literals_at l.clauses l.place) + total_length (map (λ r. literals_at l.clauses r.place) so_far);
  rise : l.fn.looks ≤ l.looks;
}
