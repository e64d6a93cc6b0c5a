-- The variables that resolution has seen, and its antecedents, whose activities are bumped.
use Rattle.std.specs.Prelude.{ℕ, ◌≡◌, ◌<◌, ◌≤◌, ◌⊎◌, Bool, true, false, List, [], ◌∷◌, ◌++◌, take, length, slice_index_or as get_or}
use Rattle.std.specs.List.{Contains}
use Rattle.sat_base.specs.values.Literals.{variable}
use Rattle.sat_parts.specs.declared.prop.graph.Conflict.{Conflict}
use Rattle.sat_parts.specs.clause.Orders.{AreDistinct}
use Rattle.sat_parts.specs.prop.ReasonLits.{conflict_lits}
use Rattle.sat_parts.specs.prop.State.{PropagationState, node, level, current_level, lit_at}
use Rattle.sat_solver.specs.analyze_conflict.AnalysisState.{AnalysisState, long_of, long_falsified}
use Rattle.sat_solver.specs.analyze_conflict.Marks.{causes_at, depth}

-- `HasLitAboveLevelZero s ls v` holds if one of the literals `ls` has the variable `v` and is of a level above 0
abbrev pub HasLitAboveLevelZero : PropagationState → List ℕ → ℕ → Type 0
HasLitAboveLevelZero s ls v = (k : ℕ) × ((k < length ls) × (0 < level s (get_or ls k 0)) × (variable (get_or ls k 0) ≡ v))

-- `IsSeenVariable words s conflict resolved v` holds if resolution sees the variable `v`: a literal of it, above
-- level 0, is in the conflict clause or in the reason of a resolved literal
pub data IsSeenVariable (words : List ℕ) (s : PropagationState) (conflict resolved : List ℕ) (v : ℕ) : Type 0 where
  seen_in_conflict : HasLitAboveLevelZero s conflict v → IsSeenVariable words s conflict resolved v
  seen_in_reason : (l : ℕ) → Contains resolved l → HasLitAboveLevelZero s (causes_at words s l) v → IsSeenVariable words s conflict resolved v

-- the positions in the buffer of the long clauses that are reasons of these literals, in order
abbrev pub longs_of : PropagationState → List ℕ → List ℕ
longs_of s [] = []
longs_of s (l ∷ ls) = long_of (node s l).reason ++ longs_of s ls

-- `AreSeen words s conflict used seen` holds if `seen` has exactly the variables, above level 0, of the literals of
-- `conflict` and of the reasons of the literals `used`
pub record AreSeen (words : List ℕ) (s : PropagationState) (conflict used seen : List ℕ) : Type 0 where
  pub only : (v : ℕ) → Contains seen v → IsSeenVariable words s conflict used v
  pub all : (v : ℕ) → IsSeenVariable words s conflict used v → Contains seen v

-- `HasEarlierSeenLit words s conflict resolved l` holds if resolution has seen another literal of the current level
-- that is earlier on the trail than `l`. So `l` must be resolved: the conflict does not follow from it and literals of
-- lower levels only.
pub record HasEarlierSeenLit (words : List ℕ) (s : PropagationState) (conflict resolved : List ℕ) (l : ℕ) : Type 0 where
  pub other : ℕ
  pub seen : IsSeenVariable words s conflict resolved (variable other)
  pub top : level s other ≡ current_level s
  pub before : depth s other < depth s l

-- `ResolutionsAreNeeded words s conflict resolved` holds if each literal was resolved only while an earlier literal of
-- the current level was seen: resolution stops at the first unique implication point
abbrev pub ResolutionsAreNeeded : (words : List ℕ) (s : PropagationState) (conflict resolved : List ℕ) → Type 0
ResolutionsAreNeeded words s conflict resolved = (k : ℕ) → k < length resolved → HasEarlierSeenLit words s conflict (take k resolved) (get_or resolved k 0)

-- `IsResolution words s e w` holds if the lists are those of the resolution of the conflict `e`. The resolved
-- literals are the used ones of the current level, going backwards from the end of the trail, and each was needed.
-- Every seen variable is listed once. The long clauses that took part are listed, the falsified one first.
pub record IsResolution (words : List ℕ) (s : PropagationState) (e : Conflict) (w : AnalysisState) : Type 0 where
  pub resolved : List ℕ
  pub falling : (j k : ℕ) → j < k → k < length resolved → depth s (get_or resolved k 0) < depth s (get_or resolved j 0)
  pub forth : (l : ℕ) → Contains resolved l → Contains w.used l × (level s l ≡ current_level s)
  pub back : (l : ℕ) → Contains w.used l → level s l ≡ current_level s → Contains resolved l
  pub needed : ResolutionsAreNeeded words s (conflict_lits words e) resolved
  pub distinct : AreDistinct w.seen
  pub within : (v : ℕ) → Contains w.seen v → v < length s.values
  pub seen : AreSeen words s (conflict_lits words e) resolved w.seen
  pub antecedents : w.antecedents ≡ long_falsified e ++ longs_of s resolved

-- `IsOnTrailFrom s at v` holds if a literal of the variable `v` is on the trail at position `at` or later
pub record IsOnTrailFrom (s : PropagationState) (at v : ℕ) : Type 0 where
  pub place : ℕ
  pub following : at ≤ place
  pub within : place < length s.trail.lits
  pub there : variable (lit_at s place) ≡ v

-- `SeenAreListed s seen flags at` holds if `seen` lists no variable twice, and every flagged one; every listed one is
-- flagged, or on the trail at position `at` or later
pub record SeenAreListed (s : PropagationState) (seen : List ℕ) (flags : List Bool) (at : ℕ) : Type 0 where
  pub distinct : AreDistinct seen
  pub within : (v : ℕ) → Contains seen v → v < length s.values
  pub flagged : (v : ℕ) → get_or flags v false ≡ true → Contains seen v
  pub passed : (v : ℕ) → Contains seen v → (get_or flags v false ≡ true) ⊎ IsOnTrailFrom s at v

-- `CollectionInvariant words s e w at` holds if the lists of seen variables and antecedents are correct while literals
-- are resolved, down to position `at` of the trail: exactly the seen variables are listed, every resolution was needed,
-- and the antecedents are listed, the falsified clause first
pub record CollectionInvariant (words : List ℕ) (s : PropagationState) (e : Conflict) (w : AnalysisState) (at : ℕ) : Type 0 where
  pub listed : SeenAreListed s w.seen w.flags at
  pub seen : AreSeen words s (conflict_lits words e) w.used w.seen
  pub needed : ResolutionsAreNeeded words s (conflict_lits words e) w.used
  pub antecedents : w.antecedents ≡ long_falsified e ++ longs_of s w.used

-- `BeginsCollecting words s e w` holds if the lists of seen variables and antecedents in `w` are correct before any
-- literal is resolved: exactly the variables of the falsified clause above level 0, and that clause if it is long
abbrev pub BeginsCollecting : (words : List ℕ) (s : PropagationState) (e : Conflict) (w : AnalysisState) → Type 0
BeginsCollecting words s e w = CollectionInvariant words s e w (length s.trail.lits)

-- `CollectionResult words s e w` holds if, after the last resolution, exactly the seen variables are listed, each
-- once, every resolution was needed, and the antecedents are listed, the falsified clause first
pub record CollectionResult (words : List ℕ) (s : PropagationState) (e : Conflict) (w : AnalysisState) : Type 0 where
  pub distinct : AreDistinct w.seen
  pub within : (v : ℕ) → Contains w.seen v → v < length s.values
  pub seen : AreSeen words s (conflict_lits words e) w.used w.seen
  pub needed : ResolutionsAreNeeded words s (conflict_lits words e) w.used
  pub antecedents : w.antecedents ≡ long_falsified e ++ longs_of s w.used

-- `AppendsUsedLits w w'` holds if the lists of seen variables and antecedents are unchanged, and the used literals of
-- `w` are a prefix of those of `w'`
pub record AppendsUsedLits (w w' : AnalysisState) : Type 0 where
  pub seen : w'.seen ≡ w.seen
  pub antecedents : w'.antecedents ≡ w.antecedents
  pub longer : length w.used ≤ length w'.used
  pub front : take (length w.used) w'.used ≡ w.used

-- `AppendsLowerUsedLits s w w'` holds if the lists of seen variables and antecedents are unchanged, and literals of
-- lower levels were appended to the used ones
pub record AppendsLowerUsedLits (s : PropagationState) (w w' : AnalysisState) : Type 0 where
  pub front : AppendsUsedLits w w'
  pub rest : (k : ℕ) → length w.used ≤ k → k < length w'.used → level s (get_or w'.used k 0) < current_level s
