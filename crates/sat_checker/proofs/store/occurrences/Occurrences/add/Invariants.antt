use Rattle.std.proofs.Common.{ℕ, ◌≡◌, ◌+◌, drop}
use Rattle.sat_base.specs.values.Tables.{HasPlaceFor}
use Rattle.sat_checker.specs.inner.OccurrenceView.{count_at, times_in}
use Rattle.sat_checker.proofs.store.occurrences.Occurrences.add.Given as goal

-- the literals before the index were counted, and every literal keeps its room
abbrev pub invariant-loop-lit : goal.invariant-loop-lit
invariant-loop-lit l = record {
  counted : (k : ℕ) → count_at l.self k + times_in k (drop l.lit-index l.literals) ≡ count_at l.fn.self k + times_in k l.literals;
  room : (k : ℕ) → HasPlaceFor l.fn.self.counts k → HasPlaceFor l.self.counts k;
}
