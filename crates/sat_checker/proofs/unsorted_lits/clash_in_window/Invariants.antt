use Rattle.std.proofs.Common.{◌≡◌, ◌+◌, ◌*◌, length, drop}
use Rattle.sat_checker.specs.inner.Clashes.{MarksKeys, NoClash}
use Rattle.sat_checker.proofs.unsorted_lits.clash_in_window.Given as goal

abbrev pub invariant-loop-index : goal.invariant-loop-index
invariant-loop-index l = record {
  count : length l.marks ≡ length l.fn.marks;
  marked : MarksKeys l.repeats l.start l.marks (drop l.index l.literals);
  clear : NoClash l.repeats l.index l.start (l.start + 64 * length l.fn.marks) l.literals;
}
