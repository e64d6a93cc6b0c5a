use Rattle.std.proofs.Common.{◌≡◌, ◌+◌, ◌-◌, drop}
use Rattle.sat_checker.specs.HasherView.{solver_name_of, width_of}
use Rattle.sat_checker.specs.inner.SlotView.{live_literal_count}
use Rattle.sat_checker.proofs.lemmas.store.Rehashing.{hashed_from, filed_from}
use Rattle.sat_checker.proofs.store.clauses.file_all.Given as goal

-- the last `done` clauses are hashed and filed
abbrev pub invariant-loop-done : goal.invariant-loop-done
invariant-loop-done l = record {
  hashed : l.slots ≡ hashed_from (solver_name_of l.hasher) (width_of l.hasher) (l.count - l.done) l.fn.slots;
  filed : l.index.pairs ≡ filed_from (solver_name_of l.hasher) (width_of l.hasher) (l.count - l.done) l.fn.slots;
  places : l.index.places ≡ l.fn.index.places;
  looks : l.looks ≡ l.fn.looks + live_literal_count (drop (l.count - l.done) l.fn.slots);
}
