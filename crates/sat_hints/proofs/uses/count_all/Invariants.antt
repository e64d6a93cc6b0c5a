use Rattle.std.proofs.Common.{ℕ, ◌≡◌, take}
use Rattle.sat_hints.specs.inner.Clauses.{count_in_kept}
use Rattle.sat_checker.specs.inner.OccurrenceView.{count_at}
use Rattle.sat_hints.proofs.uses.count_all.Given as goal

-- the literals of the first clauses are counted
abbrev pub invariant-loop-place : goal.invariant-loop-place
invariant-loop-place l = (m : ℕ) → count_at l.counts m ≡ count_in_kept m (take l.place l.present.clauses) (take l.place l.present.removed.items)
