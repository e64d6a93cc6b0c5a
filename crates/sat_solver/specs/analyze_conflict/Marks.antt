-- The invariant of resolution, which walks the trail from its end.
use Rattle.std.specs.Prelude.{ℕ, ◌≡◌, ◌+◌, ◌<◌, ◌≤◌, ◌&&◌, ◌⊎◌, not, nat_lt, suc, zero, Bool, true, false, List, [], length, slice_index_or as get_or, if◌then◌else◌}
use Rattle.std.specs.List.{Contains}
use Rattle.sat_base.specs.values.Literals.{variable, negated}
use Rattle.sat_store.specs.clause.Buffer.{IsClause, lits_at}
use Rattle.sat_parts.specs.declared.prop.graph.Reason.TheVariants.{Long}
use Rattle.sat_parts.specs.clause.Orders.{AreDistinct}
use Rattle.sat_parts.specs.prop.Values.{IsFalseLit}
use Rattle.sat_parts.specs.prop.Graphs.{has_no_clause}
use Rattle.sat_parts.specs.prop.ReasonLits.{reason_lits, conflict_lits}
use Rattle.sat_parts.specs.prop.State.{PropagationState, node, level, current_level, lit_at, IsOnTrailBefore, StateIsConsistent}
use Rattle.sat_parts.specs.prop.Reasons.{IsFalseBefore, ReasonsAreUnit}
use Rattle.sat_parts.specs.prop.TrailWord.{LevelsBeginWithDecisions}
use Rattle.sat_solver.specs.analyze_conflict.AnalysisState.{AnalysisState}
use Rattle.sat_parts.specs.declared.prop.graph.Conflict.{Conflict}
use Rattle.sat_parts.specs.clause.Db.{live_refs}
use Rattle.sat_parts.specs.prop.WatchLists.{WatchState}
use Rattle.sat_parts.specs.prop.Propagation.{PropagationInvariant}

-- the false literals of the reason of the literal `l`, without `l` itself; none if its reason isn't a clause
abbrev pub causes_at : List ℕ → PropagationState → ℕ → List ℕ
causes_at words s l = reason_lits words (node s l).reason

-- `CanAnalyze words s` holds if a conflict can be analyzed: values, nodes and trail agree, a level is open, and every
-- level begins with a decision. Above level 0, the other literals of a reason were false before the literal that it
-- implies, and a long reason is a stored clause.
pub record CanAnalyze (words : List ℕ) (s : PropagationState) : Type 0 where
  pub agrees : StateIsConsistent s
  pub levelled : LevelsBeginWithDecisions s
  pub above : 0 < current_level s
  pub before : (p k : ℕ) → get_or s.trail.starts 0 0 ≤ p → p < length s.trail.lits → k < length (causes_at words s (lit_at s p)) →
      IsFalseBefore s p (get_or (causes_at words s (lit_at s p)) k 0)
  pub valid : (p o : ℕ) → get_or s.trail.starts 0 0 ≤ p → p < length s.trail.lits → (node s (lit_at s p)).reason ≡ Long o → IsClause words o × (0 < length (lits_at words o))

-- `PropagationInvariantBelow words refs w implied s` holds if the invariant of propagation (watches, values, trail, no
-- missed unit) holds for all levels below the current one, as after propagation has found a conflict
abbrev pub PropagationInvariantBelow : (words refs : List ℕ) (w : WatchState) (implied : List (List ℕ)) (s : PropagationState) → Type 0
PropagationInvariantBelow words refs w implied s = PropagationInvariant words refs w implied s (current_level s)

-- `AreInTurnAbove words refs implied s` holds if the reasons of the literals above level 0, in trail order, are unit in
-- turn
abbrev pub AreInTurnAbove : (words refs : List ℕ) (implied : List (List ℕ)) (s : PropagationState) → Type 0
AreInTurnAbove words refs implied s = ReasonsAreUnit words (live_refs words refs) implied s (get_or s.trail.starts 0 0)

-- `is_open_flagged s top flags l` is true if the true literal `l` is flagged and of level `top` or above, and so must
-- be resolved
abbrev pub is_open_flagged : PropagationState → ℕ → List Bool → ℕ → Bool
is_open_flagged s top flags l = get_or flags (variable l) false && not (nat_lt (level s l) top)

-- `open_below s top flags i` is the number of literals before position `i` of the trail that are flagged and of level
-- `top` or above
abbrev pub open_below : PropagationState → ℕ → List Bool → ℕ → ℕ
open_below s top flags zero = 0
open_below s top flags (suc i) = (if is_open_flagged s top flags (lit_at s i) then 1 else 0) + open_below s top flags i

-- `HasVariable clause v` holds if the clause has a literal of the variable `v`
abbrev pub HasVariable : List ℕ → ℕ → Type 0
HasVariable clause v = (k : ℕ) × ((k < length clause) × (variable (get_or clause k 0) ≡ v))

-- `IsOpenAt s top at v` holds if a literal of the variable `v` is before position `at` of the trail and of level
-- `top` or above
pub record IsOpenAt (s : PropagationState) (top at v : ℕ) : Type 0 where
  pub place : ℕ
  pub before : place < at
  pub there : variable (lit_at s place) ≡ v
  pub high : top ≤ level s (lit_at s place)

-- `IsLowerFlagged s top flags r` holds if the literal `r` is false, flagged, and of a level between 0 and `top`
pub record IsLowerFlagged (s : PropagationState) (top : ℕ) (flags : List Bool) (r : ℕ) : Type 0 where
  pub fails : IsFalseLit s.values r
  pub above : 0 < level s r
  pub below : level s r < top
  pub flagged : get_or flags (variable r) false ≡ true

-- `AreFlagsAt s top clause flags pending at` holds if every flagged variable is in the clause, or has a literal of
-- level `top` or above before position `at`; `pending` counts the latter. The literals of the clause are different,
-- false, flagged, and of levels between 0 and `top`.
pub record AreFlagsAt (s : PropagationState) (top : ℕ) (clause : List ℕ) (flags : List Bool) (pending at : ℕ) : Type 0 where
  pub size : length flags ≡ length s.values
  pub within : at ≤ length s.trail.lits
  pub flagged : (v : ℕ) → get_or flags v false ≡ true → HasVariable clause v ⊎ IsOpenAt s top at v
  pub lower : (k : ℕ) → k < length clause → IsLowerFlagged s top flags (get_or clause k 0)
  pub distinct : AreDistinct clause
  pub counted : pending ≡ open_below s top flags at

-- `AreFlagsOf s top w at` holds if, in the analysis `w`, every flagged variable is in the clause, or has a literal of
-- level `top` or above before trail position `at`, and `pending` counts the latter; the literals of the clause are
-- false, flagged and below level `top`
abbrev pub AreFlagsOf : PropagationState → ℕ → AnalysisState → ℕ → Type 0
AreFlagsOf s top w at = AreFlagsAt s top w.clause w.flags w.pending at

-- `IsToBeResolved s top flags at r` holds if the literal `r` is flagged and of level `top` or above, and its negation
-- is before position `at` of the trail
pub record IsToBeResolved (s : PropagationState) (top : ℕ) (flags : List Bool) (at r : ℕ) : Type 0 where
  pub flagged : get_or flags (variable r) false ≡ true
  pub high : top ≤ level s r
  pub before : IsOnTrailBefore s at (negated r)

-- `IsExplained s top w at r` holds if the literal `r` is explained: it is of level 0, in the learned clause, or still
-- to be resolved, or its negation is a used literal or a core literal
pub data IsExplained (s : PropagationState) (top : ℕ) (w : AnalysisState) (at r : ℕ) : Type 0 where
  covered_unit : level s r ≡ 0 → IsExplained s top w at r
  covered_clause : Contains w.clause r → IsExplained s top w at r
  covered_reason : Contains w.used (negated r) → IsExplained s top w at r
  covered_core : Contains w.core (negated r) → IsExplained s top w at r
  covered_open : IsToBeResolved s top w.flags at r → IsExplained s top w at r

-- `AreExplained s top w at rs` holds if each of the literals `rs` is of level 0, in the learned clause, still to be
-- resolved before trail position `at`, or the negation of a used or core literal
abbrev pub AreExplained : PropagationState → ℕ → AnalysisState → ℕ → List ℕ → Type 0
AreExplained s top w at rs = (k : ℕ) → k < length rs → IsExplained s top w at (get_or rs k 0)

-- `IsReasoned s at l` holds if the true literal `l` is on the trail at position `at` or later, above level 0, and has
-- a clause as its reason
pub record IsReasoned (s : PropagationState) (at l : ℕ) : Type 0 where
  pub place : ℕ
  pub from : at ≤ place
  pub within : place < length s.trail.lits
  pub there : lit_at s place ≡ l
  pub above : 0 < level s l
  pub caused : has_no_clause (node s l).reason ≡ false

-- the position on the trail, counted from 1, of the variable of the literal `l`
abbrev pub depth : PropagationState → ℕ → ℕ
depth s l = (node s l).depth

-- `AreUsed words s top w at` holds if the used literals have clauses as reasons and levels of at least `top`, from
-- trail position `at` on, the last first; any other literal of these reasons is of level 0, in the learned clause,
-- still to be resolved, or the negation of a used or core literal
pub record AreUsed (words : List ℕ) (s : PropagationState) (top : ℕ) (w : AnalysisState) (at : ℕ) : Type 0 where
  pub reasons : (k : ℕ) → k < length w.used → IsReasoned s at (get_or w.used k 0) × (top ≤ level s (get_or w.used k 0))
  pub falling : (j k : ℕ) → j < k → k < length w.used → depth s (get_or w.used k 0) < depth s (get_or w.used j 0)
  pub causes : (k : ℕ) → k < length w.used → AreExplained s top w at (causes_at words s (get_or w.used k 0))

-- `ResolutionInvariant words s ls w at` holds if the clause `ls` was resolved with the reasons of the used literals,
-- down to trail position `at`: at least one literal of the current level is still to be resolved, and all others are in
-- the learned clause, of level 0, or resolved
pub record ResolutionInvariant (words : List ℕ) (s : PropagationState) (ls : List ℕ) (w : AnalysisState) (at : ℕ) : Type 0 where
  pub marks : AreFlagsOf s (current_level s) w at
  pub some : 0 < w.pending
  pub none : w.core ≡ []
  pub uses : AreUsed words s (current_level s) w at
  pub start : AreExplained s (current_level s) w at ls

-- `IsResolvent words s e w at` holds if `w` has the resolvent of the falsified clause `e` with the reasons of the used
-- literals, all of them at trail position `at` or later; at least one literal is still to be resolved
abbrev pub IsResolvent : (words : List ℕ) (s : PropagationState) (e : Conflict) (w : AnalysisState) (at : ℕ) → Type 0
IsResolvent words s e w at = ResolutionInvariant words s (conflict_lits words e) w at

-- `IsFirstResolvent words s e w` holds if `w` has the falsified clause `e` itself, before the first resolution; at
-- least one literal is to be resolved
abbrev pub IsFirstResolvent : (words : List ℕ) (s : PropagationState) (e : Conflict) (w : AnalysisState) → Type 0
IsFirstResolvent words s e w = IsResolvent words s e w (length s.trail.lits)

-- `HasCurrentLevelLit s ls` holds if one of the literals `ls` is of the current level
abbrev pub HasCurrentLevelLit : PropagationState → List ℕ → Type 0
HasCurrentLevelLit s ls = (k : ℕ) × ((k < length ls) × (level s (get_or ls k 0) ≡ current_level s))
