use Rattle.std.proofs.Common.{◌≡◌, ℕ, ◌+◌, ◌-◌, ◌≤◌, ◌++◌, length, get_or, take, drop}
use Rattle.sat_parts.specs.prop.WatchLists.{no_watch}
use Rattle.sat_parts.proofs.prop.watch.WatchList.cut.Given as goal

abbrev pub invariant-loop-from : goal.invariant-loop-from
invariant-loop-from l = record {
  place : l.to + l.fn.at ≡ l.fn.kept + l.from;
  end : l.end ≡ length l.fn.self;
  following : l.fn.at ≤ l.from;
  size : length l.self-inside.watches.items ≡ length l.fn.self;
  moved : take l.to l.self-inside.watches.items ≡ take l.fn.kept l.fn.self ++ take (l.from - l.fn.at) (drop l.fn.at l.fn.self);
  rest : (k : ℕ) → l.from ≤ k → get_or l.self-inside.watches.items k no_watch ≡ get_or l.fn.self k no_watch;
}
