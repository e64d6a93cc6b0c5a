use Rattle.std.proofs.Common.{◌≡◌, ℕ, ◌<◌, [], length, get_or, vec_capacity}
use Rattle.sat_parts.proofs.prop.watch.clear_all.Given as goal

abbrev pub invariant-loop-at : goal.invariant-loop-at
invariant-loop-at l = record {
  size : length l.watches.items ≡ length l.fn.watches.items;
  end : l.end ≡ length l.fn.watches.items;
  empty : (k : ℕ) → k < l.at → get_or l.watches.items k [] ≡ [];
  capacity : vec_capacity l.watches ≡ vec_capacity l.fn.watches;
}
