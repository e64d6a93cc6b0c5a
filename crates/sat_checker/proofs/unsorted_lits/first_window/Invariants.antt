use Rattle.std.proofs.Common.{ℕ, ◌≤◌, ◌<◌, ◌^◌, get_or}
use Rattle.sat_checker.specs.inner.Clashes.{key_of}
use Rattle.sat_checker.proofs.unsorted_lits.first_window.Given as goal

abbrev pub invariant-loop-lit : goal.invariant-loop-lit
invariant-loop-lit l = record {
  each : (k : ℕ) → k < l.lit-index → l.low ≤ key_of l.repeats (get_or l.literals k 0) → (l.least ≤ key_of l.repeats (get_or l.literals k 0)) × (key_of l.repeats (get_or l.literals k 0) < 2 ^ 29);
  from : l.least < 2 ^ 29 → l.low ≤ l.least;
  bound : l.least ≤ 2 ^ 29;
}
