use Rattle.std.proofs.Common.{◌≡◌, ◌≤◌, ◌-◌, take, drop, length}
use Rattle.sat_checker.specs.inner.IndexView.{slot_pairs_from}
use Rattle.sat_checker.specs.inner.SlotView.{slots_not_removed}
use Rattle.sat_checker.proofs.store.clauses.file_live.Given as goal

-- of the last `done` clauses, those not removed are filed under their new places
abbrev pub invariant-loop-done : goal.invariant-loop-done
invariant-loop-done l = record {
  to : l.to ≡ length (slots_not_removed (take (l.count - l.done) l.slots));
  filed : l.next.pairs ≡ slot_pairs_from l.to (slots_not_removed (drop (l.count - l.done) l.slots));
  places : l.next.places ≡ l.fn.next.places;
  room : l.to ≤ l.next.places;
}
