use Rattle.std.proofs.Common.{ℕ, ◌≡◌, ◌+◌, drop}
use Rattle.sat_checker.specs.inner.OccurrenceView.{count_at, times_in}
use Rattle.sat_checker.proofs.store.occurrences.Occurrences.subtract.Given as goal

-- one count was removed for every literal before the index
abbrev pub invariant-loop-lit : goal.invariant-loop-lit
invariant-loop-lit l = (k : ℕ) → count_at l.self k + times_in k l.literals ≡ count_at l.fn.self k + times_in k (drop l.lit-index l.literals)
