-- Why an assumption fails: the assumptions that it contradicts, and the clauses that falsify it.
use Rattle.std.specs.Prelude.{ℕ, ◌≡◌, ◌-◌, ◌<◌, ◌≤◌, true, List, [], ◌∷◌, ◌++◌, length, map, slice_index_or as get_or}
use Rattle.sat_base.specs.values.Literals.{negated}
use Rattle.sat_checker.specs.Propagation.{UnitInTurn}
use Rattle.sat_parts.specs.clause.Glue.{FlagsAreClear}
use Rattle.sat_parts.specs.clause.Orders.{AreDistinct}
use Rattle.sat_parts.specs.prop.Graphs.{has_no_clause}
use Rattle.sat_parts.specs.prop.State.{PropagationState, node, level, lit_at}
use Rattle.sat_solver.specs.analyze_conflict.AnalysisState.{AnalysisState}
use Rattle.sat_solver.specs.analyze_conflict.Marks.{depth, AreFlagsOf, AreUsed}
use Rattle.sat_solver.specs.analyze_conflict.Derivation.{clause_of, AreLevelZeroLits, IsUnorderedDerivation, IsDerivation}

-- `IsDecisionAt s at l` holds if the true literal `l` is on the trail at position `at` or later, above level 0, and its
-- reason is not a clause: it is a decision or an assumption
pub record IsDecisionAt (s : PropagationState) (at l : ℕ) : Type 0 where
  pub place : ℕ
  pub from : at ≤ place
  pub within : place < length s.trail.lits
  pub there : lit_at s place ≡ l
  pub above : 0 < level s l
  pub free : has_no_clause (node s l).reason ≡ true

-- `IsCoreFrom s failed core at` holds if `core` is the failed assumption and then literals that were decided or
-- assumed, at position `at` of the trail or later, the last on the trail first
pub record IsCoreFrom (s : PropagationState) (failed : ℕ) (core : List ℕ) (at : ℕ) : Type 0 where
  pub some : 0 < length core
  pub first : get_or core 0 0 ≡ failed
  pub chosen : (k : ℕ) → 0 < k → k < length core → IsDecisionAt s at (get_or core k 0)
  pub falling : (j k : ℕ) → 0 < j → j < k → k < length core → depth s (get_or core k 0) < depth s (get_or core j 0)

-- `IsDistinctCore s failed core` holds if `core` is the failed assumption and then literals that were decided or
-- assumed, the last on the trail first, and no literal occurs twice
pub record IsDistinctCore (s : PropagationState) (failed : ℕ) (core : List ℕ) : Type 0 where
  pub lits : IsCoreFrom s failed core 0
  pub distinct : AreDistinct core

-- `IsRefutation words s failed core used` holds if, under `core` and the units, the reasons of the literals `used`, in
-- trail order, are unit in turn, and the last, which implied the negation of `failed`, is falsified: a derivation that
-- the checker accepts
pub record IsRefutation (words : List ℕ) (s : PropagationState) (failed : ℕ) (core used : List ℕ) : Type 0 where
  pub lits : IsDistinctCore s failed core
  pub derivation : IsDerivation words s (clause_of words s (negated failed)) (map negated core) used
  pub some : 0 < length used
  pub last : get_or used (length used - 1) 0 ≡ negated failed
  pub acceptable : (units : List ℕ) → AreLevelZeroLits s units → UnitInTurn (core ++ units) (map (clause_of words s) used)

-- `IsFailedAssumption words s failed core used` holds if the assumption `failed` is false at level 0 (core [failed]),
-- or its negation is assumed too (core of both), or `core` is refuted by the reasons of the literals `used`
pub data IsFailedAssumption (words : List ℕ) (s : PropagationState) (failed : ℕ) (core used : List ℕ) : Type 0 where
  fails_bottom : level s failed ≡ 0 → core ≡ failed ∷ [] → used ≡ [] → IsFailedAssumption words s failed core used
  fails_signs : IsDecisionAt s 0 (negated failed) → core ≡ failed ∷ negated failed ∷ [] → used ≡ [] → IsFailedAssumption words s failed core used
  fails_clauses : IsRefutation words s failed core used → IsFailedAssumption words s failed core used

-- `TraceInvariant words s failed w at` holds if the reasons for which the assumption `failed` is false were traced back
-- to trail position `at`: literals found before it, above level 0, are flagged; decided ones from there on are in the
-- core
pub record TraceInvariant (words : List ℕ) (s : PropagationState) (failed : ℕ) (w : AnalysisState) (at : ℕ) : Type 0 where
  pub marks : AreFlagsOf s 1 w at
  pub uses : AreUsed words s 1 w at
  pub lits : IsCoreFrom s failed w.core at
  pub some : 0 < length w.used
  pub head : get_or w.used 0 0 ≡ negated failed

-- `TraceResult words s failed w` holds if reasons were traced back until no literal is flagged: the clause of the
-- negated core follows from the reasons of the used literals, the last on the trail first, the first of which implied
-- the negation of `failed`
pub record TraceResult (words : List ℕ) (s : PropagationState) (failed : ℕ) (w : AnalysisState) : Type 0 where
  pub size : length w.flags ≡ length s.values
  pub clear : FlagsAreClear w.flags
  pub core : IsDistinctCore s failed w.core
  pub grounds : IsUnorderedDerivation words s (clause_of words s (negated failed)) (map negated w.core) w.used
  pub falling : (j k : ℕ) → j < k → k < length w.used → depth s (get_or w.used k 0) < depth s (get_or w.used j 0)
  pub some : 0 < length w.used
  pub head : get_or w.used 0 0 ≡ negated failed
