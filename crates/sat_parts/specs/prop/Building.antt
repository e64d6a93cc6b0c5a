-- Watch lists while they are rebuilt.
use Rattle.std.specs.Prelude.{ℕ, ◌≡◌, ◌*◌, ◌<◌, List, take, length, slice_index_or as get_or}
use Rattle.std.specs.List.{Contains}
use Rattle.sat_base.specs.values.Literals.{negated}
use Rattle.sat_parts.specs.declared.prop.watch.Watch.{Watch}
use Rattle.sat_parts.specs.clause.Db.{live_refs}
use Rattle.sat_parts.specs.clause.Stored.{lit_of}
use Rattle.sat_parts.specs.prop.WatchLists.{no_watch, watches_of}
use Rattle.sat_parts.specs.prop.Ready.{IsSoundWatch, HasWatch, AreWatched}

-- `LiveClausesAreWatched words refs lists count` holds if the watch lists of `count` variables watch the first two
-- literals of every live clause of `refs` (offsets in the buffer `words`), and have no watches on other clauses.
abbrev pub LiveClausesAreWatched : (words refs : List ℕ) (lists : List (List Watch)) (count : ℕ) → Type 0
LiveClausesAreWatched words refs lists count = AreWatched words (live_refs words refs) lists count

-- `FirstClausesAreWatched words refs lists count k` holds if the watch lists of `count` variables have watches on live
-- clauses of `refs` only, and watch the first two literals at least of those live clauses that are among the first `k`
-- of `refs`.
pub record FirstClausesAreWatched (words refs : List ℕ) (lists : List (List Watch)) (count k : ℕ) : Type 0 where
  pub room : length lists ≡ 2 * count
  pub good : (l p : ℕ) → p < length (watches_of lists l) → IsSoundWatch words (live_refs words refs) (get_or (watches_of lists l) p no_watch)
  pub both : (o i : ℕ) → Contains (live_refs words (take k refs)) o → i < 2 → HasWatch (watches_of lists (negated (lit_of words o i))) o
