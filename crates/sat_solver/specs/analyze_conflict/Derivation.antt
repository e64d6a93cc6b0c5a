-- The derivation of a learned clause, in terms of the checker.
use Rattle.std.specs.Prelude.{ℕ, ◌≡◌, ◌<◌, ◌≤◌, ◌⊎◌, true, false, List, [], ◌∷◌, ◌++◌, length, map, Bool, slice_index_or as get_or}
use Rattle.std.specs.List.{Contains}
use Rattle.sat_base.specs.values.Literals.{variable, negated}
use Rattle.sat_checker.specs.LiteralSets.{is_among}
use Rattle.sat_checker.specs.Propagation.{UnitInTurn}
use Rattle.sat_parts.specs.prop.Values.{IsTrueLit, IsFalseLit}
use Rattle.sat_parts.specs.prop.State.{PropagationState, level, current_level}
use Rattle.sat_parts.specs.declared.prop.graph.ImplNode.{ImplNode}
use Rattle.sat_parts.specs.clause.Glue.{FlagsAreClear}
use Rattle.sat_parts.specs.clause.Orders.{AreDistinct, IsReordering}
use Rattle.sat_parts.specs.prop.Graphs.{node_of}
use Rattle.sat_solver.specs.analyze_conflict.AnalysisState.{AnalysisState}
use Rattle.sat_solver.specs.analyze_conflict.Marks.{causes_at, IsReasoned, depth, HasVariable}
use Rattle.sat_parts.specs.declared.prop.graph.Conflict.{Conflict}
use Rattle.sat_parts.specs.prop.ReasonLits.{conflict_lits}

-- the clause that is the reason of the true literal `l`: `l` first, and then the false literals of its reason
abbrev pub clause_of : List ℕ → PropagationState → ℕ → List ℕ
clause_of words s l = l ∷ causes_at words s l

-- `AreLevelZeroLits s units` holds if `units` has exactly the true literals of level 0
pub record AreLevelZeroLits (s : PropagationState) (units : List ℕ) : Type 0 where
  pub all : (l : ℕ) → IsTrueLit s.values l → level s l ≡ 0 → is_among units l ≡ true
  pub only : (l : ℕ) → is_among units l ≡ true → IsTrueLit s.values l × (level s l ≡ 0)

-- `IsExplainedByUsed s learned used r` holds if the literal `r` is explained: it is of level 0, in the learned clause,
-- or the negation of a used literal
pub data IsExplainedByUsed (s : PropagationState) (learned used : List ℕ) (r : ℕ) : Type 0 where
  explained_unit : level s r ≡ 0 → IsExplainedByUsed s learned used r
  explained_clause : Contains learned r → IsExplainedByUsed s learned used r
  explained_reason : Contains used (negated r) → IsExplainedByUsed s learned used r

-- `AreExplainedByUsed s learned used rs` holds if each of the literals `rs` is of level 0, in the learned clause, or
-- the negation of a used literal
abbrev pub AreExplainedByUsed : PropagationState → (learned used rs : List ℕ) → Type 0
AreExplainedByUsed s learned used rs = (k : ℕ) → k < length rs → IsExplainedByUsed s learned used (get_or rs k 0)

-- `IsUnorderedDerivation words s conflict learned used` holds if `learned` follows from `conflict` and the reasons of
-- the literals `used`: any other literal of these clauses is false at level 0, in `learned`, or the negation of a used
-- one. No used literal is listed twice, or negates a learned one.
pub record IsUnorderedDerivation (words : List ℕ) (s : PropagationState) (conflict learned used : List ℕ) : Type 0 where
  pub reasons : (l : ℕ) → Contains used l → IsReasoned s 0 l
  pub causes : (l : ℕ) → Contains used l → AreExplainedByUsed s learned used (causes_at words s l)
  pub start : AreExplainedByUsed s learned used conflict
  pub apart : (l : ℕ) → Contains used l → Contains learned (negated l) → ⊥
  pub distinct : AreDistinct used

-- `HasUnorderedDerivation words s e w` holds if the learned clause in `w` follows from the falsified clause `e` by
-- resolution with the reasons of the used literals in `w`, in some order
abbrev pub HasUnorderedDerivation : (words : List ℕ) (s : PropagationState) (e : Conflict) (w : AnalysisState) → Type 0
HasUnorderedDerivation words s e w = IsUnorderedDerivation words s (conflict_lits words e) w.clause w.used

-- `IsDerivation words s conflict learned used` holds if `learned` follows from `conflict` by resolution with the
-- reasons of the literals `used`, which are listed in trail order
pub record IsDerivation (words : List ℕ) (s : PropagationState) (conflict learned used : List ℕ) : Type 0 where
  pub grounds : IsUnorderedDerivation words s conflict learned used
  pub rising : (j k : ℕ) → j < k → k < length used → depth s (get_or used j 0) < depth s (get_or used k 0)

-- `IsAcceptable words s conflict learned used` holds if the checker accepts the derivation: under the negated learned
-- clause and the units, the reasons of the used literals are unit in turn, and the conflict clause is falsified
abbrev pub IsAcceptable : (words : List ℕ) (s : PropagationState) (conflict learned used : List ℕ) → Type 0
IsAcceptable words s conflict learned used =
    (units : List ℕ) → AreLevelZeroLits s units → UnitInTurn (map negated learned ++ units) (map (clause_of words s) used ++ conflict ∷ [])

-- `IsAsserting s learned` holds if the first literal of the learned clause is of the current level, and the others
-- are of lower levels above 0; all are false, and none occurs twice
pub record IsAsserting (s : PropagationState) (learned : List ℕ) : Type 0 where
  pub some : 0 < length learned
  pub fails : (k : ℕ) → k < length learned → IsFalseLit s.values (get_or learned k 0)
  pub top : level s (get_or learned 0 0) ≡ current_level s
  pub lower : (k : ℕ) → 0 < k → k < length learned → (0 < level s (get_or learned k 0)) × (level s (get_or learned k 0) < current_level s)
  pub distinct : AreDistinct learned

-- `OnlyFlags flags ls` holds if only variables of the literals `ls` are flagged, not necessarily all of them
abbrev pub OnlyFlags : List Bool → List ℕ → Type 0
OnlyFlags flags ls = (v : ℕ) → get_or flags v false ≡ true → HasVariable ls v

-- `FlagsAmong w` holds if only variables of the clause or of used literals of the analysis are flagged
abbrev pub FlagsAmong : AnalysisState → Type 0
FlagsAmong w = (v : ℕ) → get_or w.flags v false ≡ true → HasVariable w.clause v ⊎ HasVariable w.used v

-- `ResolutionResult words s conflict w` holds if resolution has ended: the clause is asserting and has a derivation.
-- The used literals are of the current level, the last on the trail first. Only variables of the clause are flagged,
-- and all of them except possibly the first.
pub record ResolutionResult (words : List ℕ) (s : PropagationState) (conflict : List ℕ) (w : AnalysisState) : Type 0 where
  pub size : length w.flags ≡ length s.values
  pub asserting : IsAsserting s w.clause
  pub grounds : IsUnorderedDerivation words s conflict w.clause w.used
  pub falling : (j k : ℕ) → j < k → k < length w.used → depth s (get_or w.used k 0) < depth s (get_or w.used j 0)
  pub tops : (k : ℕ) → k < length w.used → level s (get_or w.used k 0) ≡ current_level s
  pub only : OnlyFlags w.flags w.clause
  pub flagged : (k : ℕ) → 0 < k → k < length w.clause → get_or w.flags (variable (get_or w.clause k 0)) false ≡ true

-- `IsUipClause words s e w` holds if resolution of the conflict `e` has ended at the first unique implication point:
-- the clause in `w` has one literal of the current level, its first, and follows from `e` and the reasons of used
-- literals
abbrev pub IsUipClause : (words : List ℕ) (s : PropagationState) (e : Conflict) (w : AnalysisState) → Type 0
IsUipClause words s e w = ResolutionResult words s (conflict_lits words e) w

-- `PutsHighestSecond nodes clause clause' level` holds if `clause'` is a reordering of `clause` with the same first
-- literal, and the second has the highest level of all but the first. `level` is that level, or 0 if there is no second
-- literal.
pub record PutsHighestSecond (nodes : List ImplNode) (clause clause' : List ℕ) (level : ℕ) : Type 0 where
  pub lits : IsReordering clause clause'
  pub first : get_or clause' 0 0 ≡ get_or clause 0 0
  pub alone : length clause < 2 → level ≡ 0
  pub second : 2 ≤ length clause → level ≡ (node_of nodes (variable (get_or clause' 1 0))).level
  pub highest : (k : ℕ) → 0 < k → k < length clause → (node_of nodes (variable (get_or clause' k 0))).level ≤ level

-- `AnalysisResult words s conflict w back` holds if the learned clause in `w` is asserting and `back` is the highest
-- level of its literals but the first (0 for a unit). The checker derives it from the reasons of the used literals, in
-- trail order, and then `conflict`. No flag is set.
pub record AnalysisResult (words : List ℕ) (s : PropagationState) (conflict : List ℕ) (w : AnalysisState) (back : ℕ) : Type 0 where
  pub asserting : IsAsserting s w.clause
  pub reasons : (k : ℕ) → k < length w.used → IsReasoned s 0 (get_or w.used k 0)
  pub rising : (j k : ℕ) → j < k → k < length w.used → depth s (get_or w.used j 0) < depth s (get_or w.used k 0)
  pub acceptable : IsAcceptable words s conflict w.clause w.used
  pub alone : length w.clause < 2 → back ≡ 0
  pub second : 2 ≤ length w.clause → back ≡ level s (get_or w.clause 1 0)
  pub highest : (k : ℕ) → 0 < k → k < length w.clause → level s (get_or w.clause k 0) ≤ back
  pub below : back < current_level s
  pub clear : FlagsAreClear w.flags

-- `AnalysisResultOf words s e w back` holds if `w`, with an asserting learned clause and its used literals in trail
-- order, is the result of the analysis of the conflict `e`, which backtracks to the level `back`
abbrev pub AnalysisResultOf : (words : List ℕ) (s : PropagationState) (e : Conflict) (w : AnalysisState) (back : ℕ) → Type 0
AnalysisResultOf words s e w back = AnalysisResult words s (conflict_lits words e) w back
