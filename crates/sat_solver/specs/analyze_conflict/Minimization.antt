-- The invariant of minimization, which removes literals that follow from the others of the clause.
use Rattle.std.specs.Prelude.{ℕ, ◌≡◌, ◌+◌, ◌*◌, ◌%◌, ◌^◌, ◌<◌, ◌≤◌, ◌⊎◌, ◌==◌, ◌||◌, ◌&&◌, not, if◌then◌else◌, Bool, true, false, MatchBool, List, [], ◌∷◌, ◌++◌, length, take, slice_index_or as get_or, slice_set as set}
use Rattle.std.specs.List.{Contains}
use Rattle.sat_base.specs.values.Literals.{variable, negated}
use Rattle.sat_store.specs.levels.Levels.{level_passes}
use Rattle.sat_parts.specs.declared.prop.graph.ImplNode.{ImplNode}
use Rattle.sat_parts.specs.clause.Orders.{AreDistinct}
use Rattle.sat_parts.specs.prop.Graphs.{has_no_clause, node_of}
use Rattle.sat_parts.specs.prop.State.{PropagationState, level, current_level}
use Rattle.sat_solver.specs.analyze_conflict.AnalysisState.{AnalysisState}
use Rattle.sat_solver.specs.analyze_conflict.Marks.{causes_at, IsReasoned, IsLowerFlagged, HasVariable}
use Rattle.sat_parts.specs.declared.prop.graph.Conflict.{Conflict}
use Rattle.sat_parts.specs.prop.ReasonLits.{conflict_lits}

-- `IsExplainedByMarks s first w r` holds if the literal `r` is explained: it is of level 0, the literal `first`, or
-- flagged, or its negation is a used literal
pub data IsExplainedByMarks (s : PropagationState) (first : ℕ) (w : AnalysisState) (r : ℕ) : Type 0 where
  marked_unit : level s r ≡ 0 → IsExplainedByMarks s first w r
  marked_first : first ≡ r → IsExplainedByMarks s first w r
  marked_flag : get_or w.flags (variable r) false ≡ true → IsExplainedByMarks s first w r
  marked_reason : Contains w.used (negated r) → IsExplainedByMarks s first w r

-- `AreExplainedByMarks s first w rs` holds if each of the literals `rs` is of level 0, the literal `first`, flagged in
-- `w`, or the negation of a used literal
abbrev pub AreExplainedByMarks : PropagationState → ℕ → AnalysisState → List ℕ → Type 0
AreExplainedByMarks s first w rs = (k : ℕ) → k < length rs → IsExplainedByMarks s first w (get_or rs k 0)

-- `IsUsedLit s low flags k l` holds if the used literal `l` at position `k` is of the current level and `k` is below
-- `low`, or it is flagged and of a lower level and `k` is `low` or above
pub data IsUsedLit (s : PropagationState) (low : ℕ) (flags : List Bool) (k l : ℕ) : Type 0 where
  use_top : k < low → level s l ≡ current_level s → IsUsedLit s low flags k l
  use_low : low ≤ k → level s l < current_level s → get_or flags (variable l) false ≡ true → IsUsedLit s low flags k l

-- `MinimizationInvariant words s conflict first low w at` holds if the used literals have reasons and are distinct,
-- those before position `low` of the current level, the others flagged and of lower levels. `conflict` and the reasons
-- of those before `at` have only literals as in `AreExplainedByMarks`.
pub record MinimizationInvariant (words : List ℕ) (s : PropagationState) (conflict : List ℕ) (first low : ℕ) (w : AnalysisState) (at : ℕ) : Type 0 where
  pub size : length w.flags ≡ length s.values
  pub within : at ≤ length w.used
  pub following : low ≤ at
  pub reasons : (k : ℕ) → k < length w.used → IsReasoned s 0 (get_or w.used k 0)
  pub uses : (k : ℕ) → k < length w.used → IsUsedLit s low w.flags k (get_or w.used k 0)
  pub distinct : AreDistinct w.used
  pub causes : (k : ℕ) → k < at → AreExplainedByMarks s first w (causes_at words s (get_or w.used k 0))
  pub start : AreExplainedByMarks s first w conflict

-- `IsUsedFrom used from v` holds if a used literal at position `from` or later has the variable `v`
pub record IsUsedFrom (used : List ℕ) (from v : ℕ) : Type 0 where
  pub place : ℕ
  pub following : from ≤ place
  pub within : place < length used
  pub there : variable (get_or used place 0) ≡ v

-- `AddsMarks w w'` holds if literals that were not flagged before were appended to the used ones, and every new flag
-- is that of one of them; no flag was removed
pub record AddsMarks (w w' : AnalysisState) : Type 0 where
  pub clause : w'.clause ≡ w.clause
  pub seen : w'.seen ≡ w.seen
  pub antecedents : w'.antecedents ≡ w.antecedents
  pub core : w'.core ≡ w.core
  pub pending : w'.pending ≡ w.pending
  pub size : length w'.flags ≡ length w.flags
  pub longer : length w.used ≤ length w'.used
  pub front : take (length w.used) w'.used ≡ w.used
  pub kept : (v : ℕ) → get_or w.flags v false ≡ true → get_or w'.flags v false ≡ true
  pub fresh : (k : ℕ) → length w.used ≤ k → k < length w'.used → get_or w.flags (variable (get_or w'.used k 0)) false ≡ false
  pub raised : (v : ℕ) → get_or w'.flags v false ≡ true → (get_or w.flags v false ≡ true) ⊎ IsUsedFrom w'.used (length w.used) v

-- the state after the false literal `r` is marked: its variable is flagged, and its negation is appended to the used
-- literals
abbrev pub with_mark : ℕ → AnalysisState → AnalysisState
with_mark r w = record w { flags = set w.flags (variable r) true; used = w.used ++ negated r ∷ [] }

-- the state with the true literal `l` appended to the used ones; no flag is set
abbrev pub with_used : ℕ → AnalysisState → AnalysisState
with_used l w = record w { used = w.used ++ l ∷ [] }

-- the result of marking the literals of a reason: the new state (`work`), and whether all of them could be marked
-- (`whole`)
pub record MarkingResult : Type 0 where
  pub work : AnalysisState
  pub whole : Bool

-- `can_be_implied nodes filter r` is true if the reason of the false literal `r` is a clause and its level is one of
-- those in `filter` (a set of levels, with false positives), so that `r` may follow from literals of the clause
abbrev pub can_be_implied : (nodes : List ImplNode) (filter r : ℕ) → Bool
can_be_implied nodes filter r = not (has_no_clause (node_of nodes (variable r)).reason) && level_passes filter (node_of nodes (variable r)).level

-- `is_settled nodes r w` is true if the false literal `r` is of level 0 or flagged, and so needs no explanation
abbrev pub is_settled : (nodes : List ImplNode) (r : ℕ) → AnalysisState → Bool
is_settled nodes r w = (node_of nodes (variable r)).level == 0 || get_or w.flags (variable r) false

-- `marked_reasons nodes filter rs w` is the result of marking the literals `rs` one after another until the first that
-- is neither settled nor able to follow. `whole` says whether there was none.
abbrev pub marked_reasons : (nodes : List ImplNode) (filter : ℕ) → List ℕ → AnalysisState → MarkingResult
marked_reasons nodes filter [] w = record { work = w; whole = true }
marked_reasons nodes filter (r ∷ rs) w =
    if is_settled nodes r w then marked_reasons nodes filter rs w
    else (if can_be_implied nodes filter r then marked_reasons nodes filter rs (with_mark r w) else record { work = w; whole = false })

-- `ClauseMinimizationInvariant words s conflict first low rest w` holds if `rest` is what is left of the learned clause
-- during minimization, with `first` of the current level and its other literals flagged, and follows from `conflict`
-- and the reasons of the used literals
pub record ClauseMinimizationInvariant (words : List ℕ) (s : PropagationState) (conflict : List ℕ) (first low : ℕ) (rest : List ℕ) (w : AnalysisState) : Type 0 where
  pub searching : MinimizationInvariant words s conflict first low w (length w.used)
  pub distinct : AreDistinct rest
  pub has_first : Contains rest first
  pub top : level s first ≡ current_level s
  pub lower : (r : ℕ) → Contains rest r → (r ≡ first) ⊎ IsLowerFlagged s (current_level s) w.flags r
  pub only : (v : ℕ) → get_or w.flags v false ≡ true → HasVariable rest v ⊎ IsUsedFrom w.used low v
  pub apart : (l : ℕ) → Contains w.used l → Contains rest (negated l) → ⊥

-- `UndoesMarks top w w'` holds if the marks of a search were undone: the used literals starting at position `top` are
-- removed, and all but the first of them are unflagged
pub record UndoesMarks (top : ℕ) (w w' : AnalysisState) : Type 0 where
  pub clause : w'.clause ≡ w.clause
  pub seen : w'.seen ≡ w.seen
  pub antecedents : w'.antecedents ≡ w.antecedents
  pub core : w'.core ≡ w.core
  pub pending : w'.pending ≡ w.pending
  pub used : w'.used ≡ take top w.used
  pub size : length w'.flags ≡ length w.flags
  pub cleared : (k : ℕ) → top < k → k < length w.used → get_or w'.flags (variable (get_or w.used k 0)) false ≡ false
  pub others : (v : ℕ) → (IsUsedFrom w.used (top + 1) v → ⊥) → get_or w'.flags v false ≡ get_or w.flags v false

-- `SameAnalysis w w'` holds if all fields of the analysis states `w` and `w'` are equal
pub record SameAnalysis (w w' : AnalysisState) : Type 0 where
  pub clause : w'.clause ≡ w.clause
  pub seen : w'.seen ≡ w.seen
  pub antecedents : w'.antecedents ≡ w.antecedents
  pub core : w'.core ≡ w.core
  pub pending : w'.pending ≡ w.pending
  pub used : w'.used ≡ w.used
  pub flags : w'.flags ≡ w.flags

-- `CanStartSearch s w c` holds if a search may begin at the negation of the flagged literal `c`: it has a clause as its
-- reason, is of a level below the current one, and is not used yet
pub record CanStartSearch (s : PropagationState) (w : AnalysisState) (c : ℕ) : Type 0 where
  pub flagged : get_or w.flags (variable c) false ≡ true
  pub reasoned : IsReasoned s 0 (negated c)
  pub below : level s (negated c) < current_level s
  pub new : Contains w.used (negated c) → ⊥

-- the number of flags that are not set
abbrev pub unset_count : List Bool → ℕ
unset_count [] = 0
unset_count (b ∷ bs) = (if b then 0 else 1) + unset_count bs

-- the position on the trail, counted from 1, of the variable of the literal `l`, in these nodes
abbrev pub depth_in : List ImplNode → ℕ → ℕ
depth_in nodes l = (node_of nodes (variable l)).depth

-- the sort key of a literal: its trail position (counted from 1) times 2^29, plus its code
abbrev pub depth_key : List ImplNode → ℕ → ℕ
depth_key nodes l = depth_in nodes l * 2 ^ 29 + l

-- the literal code in a sort key: its remainder modulo 2^29
abbrev pub keyed_lit : ℕ → ℕ
keyed_lit key = key % 2 ^ 29

-- `IsSortedBefore nodes ls resolved` holds if the first `resolved` literals of the list are sorted by descending
-- position on the trail, and no later one in the list is higher than any of these
pub record IsSortedBefore (nodes : List ImplNode) (ls : List ℕ) (resolved : ℕ) : Type 0 where
  pub within : resolved ≤ length ls
  pub falling : (j k : ℕ) → j ≤ k → k < resolved → depth_in nodes (get_or ls k 0) ≤ depth_in nodes (get_or ls j 0)
  pub lower : (j k : ℕ) → j < resolved → resolved ≤ k → k < length ls → depth_in nodes (get_or ls k 0) ≤ depth_in nodes (get_or ls j 0)

-- `MinimizationIsDone words s e low w` holds if minimization needs no further reasons: every literal of the falsified
-- clause `e` and of the reasons of used literals is of level 0, first in the clause, flagged, or the negation of a used
-- literal
abbrev pub MinimizationIsDone : (words : List ℕ) (s : PropagationState) (e : Conflict) (low : ℕ) (w : AnalysisState) → Type 0
MinimizationIsDone words s e low w = MinimizationInvariant words s (conflict_lits words e) (get_or w.clause 0 0) low w (length w.used)

-- `MinimizationResult words s e low r w w' b` holds if `b` says whether the literal `r` follows from others. If so, its
-- negation and those of the literals between were appended to the used ones, and all literals of their reasons are
-- accounted for. Otherwise nothing has changed.
abbrev pub MinimizationResult : (words : List ℕ) (s : PropagationState) (e : Conflict) (low r : ℕ) (w w' : AnalysisState) → Bool → Type 0
MinimizationResult words s e low r w w' b = MatchBool b
    (AddsMarks (with_used (negated r) w) w' × MinimizationInvariant words s (conflict_lits words e) (get_or w.clause 0 0) low w' (length w'.used))
    (SameAnalysis w w')
