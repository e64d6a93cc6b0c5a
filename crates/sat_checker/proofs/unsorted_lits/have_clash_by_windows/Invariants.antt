use Rattle.std.proofs.Common.{◌≡◌, ◌+◌, ◌-◌, ◌^◌, ◌%◌, ◌≤◌, length}
use Rattle.sat_checker.specs.inner.Clashes.{NoClash}
use Rattle.sat_checker.proofs.unsorted_lits.have_clash_by_windows.Given as goal

abbrev pub invariant-loop-start : goal.invariant-loop-start
invariant-loop-start l = record {
  even : l.low % 2 ≡ 0;
  small : l.low ≤ 2 ^ 29 + 2 ^ 18;
  count : length l.marks ≡ length l.fn.marks;
  clear : NoClash l.repeats 0 0 l.low l.literals;
}

abbrev pub decreases-loop-start : goal.decreases-loop-start
decreases-loop-start l = 2 ^ 29 + 2 ^ 18 - l.low
