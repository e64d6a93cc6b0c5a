-- The watch lists.
use Rattle.std.specs.Prelude.{ℕ, ◌≤◌, ◌-◌, Bool, if◌then◌else◌, List, [], ◌∷◌, ◌++◌, take, replicate, length, slice_index_or as get_or, slice_set as set}
use Rattle.sat_base.specs.values.Literals.{negated}
use Rattle.sat_parts.specs.declared.prop.watch.Watch.{Watch}

-- the watch lists, indexed by literal code, and whether they are enabled; the list of a literal has the clauses that
-- watch its negation, to be visited when the literal becomes true
pub record WatchState : Type 0 where
  pub lists : List (List Watch)
  pub enabled : Bool

-- a watch on the clause at o whose blocking literal is l
abbrev pub watch_on : ℕ → ℕ → Watch
watch_on o l = record { cref = o; blocking = l }

-- the default for a watch past the end of a list
abbrev pub no_watch : Watch
no_watch = watch_on 0 0

-- the watches that are visited when the literal `l` becomes true: those of clauses that watch its negation
abbrev pub watches_of : List (List Watch) → ℕ → List Watch
watches_of lists l = get_or lists l []

-- the lists with one more watch for literal l
abbrev pub lists_with_watch : ℕ → Watch → List (List Watch) → List (List Watch)
lists_with_watch l watch lists = set lists l (watches_of lists l ++ watch ∷ [])

-- the watch lists with one more watch for literal l, whether they are enabled or not
abbrev pub with_watch : ℕ → Watch → WatchState → WatchState
with_watch l watch w = record w { lists = lists_with_watch l watch w.lists }

-- the lists without the last watch of literal l
abbrev pub without_last_watch : ℕ → List (List Watch) → List (List Watch)
without_last_watch l lists = set lists l (take (length (watches_of lists l) - 1) (watches_of lists l))

-- the watch lists after the clause at `o` was watched by its literals `a` and `b`: a watch in the list of each one's
-- negation, with the other as blocking literal; unchanged if watch lists are disabled
abbrev pub with_clause_watches : ℕ → ℕ → ℕ → WatchState → WatchState
with_clause_watches o a b w = if w.enabled then with_watch (negated b) (watch_on o a) (with_watch (negated a) (watch_on o b) w) else w

-- the watch lists with two more watches, for the first two literals of a clause, if they are enabled
abbrev pub with_first_two_watched : ℕ → List ℕ → WatchState → WatchState
with_first_two_watched o ls w = with_clause_watches o (get_or ls 0 0) (get_or ls 1 0) w

-- the watch lists of `count` literals: lists are cut off or empty lists are added
abbrev pub with_lists : ℕ → WatchState → WatchState
with_lists count w = record w { lists = take count w.lists ++ replicate (count - length w.lists) [] }

-- the watch lists with empty lists added until there are at least `count`
abbrev pub with_lists_up_to : ℕ → List (List Watch) → List (List Watch)
with_lists_up_to count lists = lists ++ replicate (count - length lists) []

-- `HasListRoom count capacity lists` holds if there are at most `count` watch lists, and `capacity`, the number of
-- lists for which memory is allocated, is at least `count`.
pub record HasListRoom (count capacity : ℕ) (lists : List (List Watch)) : Type 0 where
  pub few : length lists ≤ count
  pub room : count ≤ capacity
