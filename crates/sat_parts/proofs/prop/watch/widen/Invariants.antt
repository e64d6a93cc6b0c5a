use Rattle.std.proofs.Common.{◌≡◌, ◌≤◌, ◌-◌, ◌++◌, [], length, replicate, vec_capacity}
use Rattle.sat_parts.proofs.prop.watch.widen.Given as goal

abbrev pub invariant-loop-added : goal.invariant-loop-added
invariant-loop-added l = record {
  lists : l.watches.items ≡ l.fn.watches.items ++ replicate (l._added - length l.fn.watches.items) [];
  capacity : vec_capacity l.watches ≡ vec_capacity l.fn.watches;
  start : length l.fn.watches.items ≤ l._added;
}
