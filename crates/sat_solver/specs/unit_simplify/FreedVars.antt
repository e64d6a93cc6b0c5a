-- Variables without a mark lose their values.
use Rattle.std.specs.Prelude.{ℕ, zero, suc, ◌≡◌, ◌≢◌, Bool, false, None, List, length, slice_index_or as get_or, if◌then◌else◌}
use Rattle.sat_store.specs.heap.Vsids.{with_available}
use Rattle.sat_parts.specs.prop.Values.{with_value}
use Rattle.sat_parts.specs.declared.parts.SearchState.{SearchState}
use Rattle.sat_solver.specs.declared.context.Search.{Search}

-- the parts after the variable with index `v` has lost its value and can no longer be picked for a decision
abbrev pub without_var : ℕ → SearchState → SearchState
without_var v p = record p { assignment = with_value v None p.assignment; vsids = with_available v false p.vsids }

-- `freed_below used k p` is the parts after every index below `k` whose mark in `used` is false has lost its value and
-- can no longer be picked
unfoldable pub freed_below : List Bool → ℕ → SearchState → SearchState
freed_below used zero p = p
freed_below used (suc k) p = if get_or used k false then freed_below used k p else without_var k (freed_below used k p)

-- `freed_search used at c` is the search after every index below `at` whose mark in `used` is false has lost its value
-- and can no longer be picked
abbrev pub freed_search : List Bool → ℕ → Search → Search
freed_search used at c = record c { parts = freed_below used at c.parts }

-- `MarksAtMost index old new` holds if the marks `new` are those of `old`, except that the mark of `index` may be set
-- now
pub record MarksAtMost (index : ℕ) (old new : List Bool) : Type 0 where
  pub size : length new ≡ length old
  pub others : (v : ℕ) → v ≢ index → get_or new v false ≡ get_or old v false
  pub more : (v : ℕ) → get_or new v false ≡ false → get_or old v false ≡ false
