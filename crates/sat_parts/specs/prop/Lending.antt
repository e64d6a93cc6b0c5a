-- Lending of a list of watches.
use Rattle.std.specs.Prelude.{ℕ, List, slice_set as set}
use Rattle.std.specs.Borrow.{Lends, MutBor, Fml}
use Rattle.sat_parts.specs.declared.prop.watch.Watch.{Watch}
use Rattle.sat_parts.specs.prop.WatchLists.{WatchState}
use Rattle.sat_parts.specs.contracts.prop.watch.WatchList as watch_list
use Rattle.sat_parts.specs.contracts.prop.watch.Watchlists as watchlists

-- `LendsList w l r` holds if `r` lends the watches of literal `l`: the last list written through it becomes the watches
-- of `l`, and the rest of `w` stays.
abbrev pub LendsList : MutBor WatchState → ℕ → MutBor (List Watch) → Fml
LendsList w l r = Lends watchlists.the_row watch_list.the_row w r (λ list. record w.now { lists = set w.now.lists l list })
