use Rattle.std.proofs.Common.{ℕ, ◌≡◌, ◌<◌, get_or}
use Rattle.sat_base.specs.values.Tables.{HasPlaceFor}
use Rattle.sat_checker.specs.inner.OccurrenceView.{count_at}
use Rattle.sat_checker.proofs.store.occurrences.Occurrences.make_room.Given as goal

-- there is room for the literals before the index
abbrev pub invariant-loop-lit : goal.invariant-loop-lit
invariant-loop-lit l = record {
  room : (i d : ℕ) → i < l.lit-index → HasPlaceFor l.self.counts (get_or l.literals i d);
  same : (k : ℕ) → count_at l.self k ≡ count_at l.fn.self k;
}
