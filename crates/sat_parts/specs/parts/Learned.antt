-- A clause learned from a conflict, before and after backtracking.
use Rattle.std.specs.Prelude.{ℕ, ◌≡◌, ◌^◌, ◌<◌, ◌≤◌, true, List, [], length, slice_index_or as get_or}
use Rattle.sat_base.specs.values.Literals.{variable}
use Rattle.sat_store.specs.heap.Vsids.{Queue, is_available}
use Rattle.sat_parts.specs.clause.Orders.{AreDistinct}
use Rattle.sat_parts.specs.prop.Values.{IsFalseLit, IsUnassignedLit}
use Rattle.sat_parts.specs.prop.State.{PropagationState, level, current_level}
use Rattle.sat_parts.specs.prop.Ready.{AreAllFalse}

-- `IsAnalyzedClause s ls to` holds if `ls` can be the result of conflict analysis. All literals are different, false
-- and above level 0. Only the first is at the current level. The second is at level `to`, the highest level of the
-- others (0 if there are none), to which the search backtracks.
pub record IsAnalyzedClause (s : PropagationState) (ls : List ℕ) (to : ℕ) : Type 0 where
  pub some : 1 ≤ length ls
  pub fits : length ls < 2 ^ 32
  pub distinct : AreDistinct ls
  pub falsified : AreAllFalse s.values ls
  pub first : level s (get_or ls 0 0) ≡ current_level s
  pub below : to < current_level s
  pub others : (k : ℕ) → 1 ≤ k → k < length ls → level s (get_or ls k 0) ≤ to
  pub above : (k : ℕ) → k < length ls → 0 < level s (get_or ls k 0)
  pub second : 1 < length ls → level s (get_or ls 1 0) ≡ to
  pub unit : length ls ≡ 1 → to ≡ 0

-- `IsUnitAfterBacktracking s q ls` holds if `ls` is a learned clause after backtracking. Its literals are different.
-- The first is unassigned, and its variable may be picked. The others are false, and the second is at the current
-- level. A clause of one literal is learned at level 0.
pub record IsUnitAfterBacktracking (s : PropagationState) (q : Queue) (ls : List ℕ) : Type 0 where
  pub some : 1 ≤ length ls
  pub fits : length ls < 2 ^ 32
  pub distinct : AreDistinct ls
  pub there : variable (get_or ls 0 0) < length s.values
  pub open_first : IsUnassignedLit s.values (get_or ls 0 0)
  pub ready : is_available q (variable (get_or ls 0 0)) ≡ true
  pub rest : (k : ℕ) → 1 ≤ k → k < length ls → IsFalseLit s.values (get_or ls k 0)
  pub second : 1 < length ls → level s (get_or ls 1 0) ≡ current_level s
  pub above : 1 < length ls → 0 < current_level s
  pub unit : length ls ≡ 1 → s.trail.starts ≡ []
