use Rattle.std.proofs.Common.{◌≡◌, ◌≤◌, ◌+◌, ◌++◌, take, drop}
use Rattle.sat_checker.specs.inner.SlotView.{live_literal_count, slots_not_removed}
use Rattle.sat_checker.proofs.store.slots.Slots.push_live.Given as goal

-- the slots before the place that are not removed were appended
abbrev pub invariant-loop-place : goal.invariant-loop-place
invariant-loop-place l = record {
  copied : l.self ≡ l.fn.self ++ slots_not_removed (take l.place l.fn.others);
  looks : l.looks + live_literal_count (drop l.place l.others) ≤ l.fn.looks + live_literal_count l.others;
  rise : l.fn.looks ≤ l.looks;
}
