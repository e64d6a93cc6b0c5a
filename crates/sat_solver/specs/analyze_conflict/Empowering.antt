-- A learned clause is new: under the negations of its other literals, no clauses that are unit in turn assign its first
-- literal.
use Rattle.std.specs.Prelude.{ℕ, ◌≡◌, ◌≢◌, false, List, [], ◌∷◌, ◌++◌, map, drop, slice_index_or as get_or}
use Rattle.std.specs.List.{Contains, AllByRecursion}
use Rattle.sat_base.specs.values.Literals.{negated}
use Rattle.sat_checker.specs.LiteralSets.{is_among}
use Rattle.sat_checker.specs.Propagation.{IsFalsified, IsUnit}
use Rattle.sat_store.specs.clause.Buffer.{lits_at}
use Rattle.sat_parts.specs.clause.Db.{live_refs}
use Rattle.sat_parts.specs.prop.WatchLists.{WatchState}
use Rattle.sat_parts.specs.prop.Binaries.{implied_by}
use Rattle.sat_parts.specs.prop.State.{PropagationState}
use Rattle.sat_solver.specs.analyze_conflict.AnalysisState.{AnalysisState}
use Rattle.sat_solver.specs.analyze_conflict.Derivation.{AreLevelZeroLits, AnalysisResult}
use Rattle.sat_solver.specs.analyze_conflict.Marks.{PropagationInvariantBelow}

-- `IsPair implied a b` holds if the binary clause of the literals `a` and `b`, which are different, is stored in both
-- of its lists
abbrev pub IsPair : List (List ℕ) → ℕ → ℕ → Type 0
IsPair implied a b = (a ≢ b) × Contains (implied_by implied (negated b)) a × Contains (implied_by implied (negated a)) b

-- `IsStored words live implied c` holds if `c` is a live long clause or a stored binary clause
pub data IsStored (words live : List ℕ) (implied : List (List ℕ)) (c : List ℕ) : Type 0 where
  stored_long : (o : ℕ) → Contains live o → c ≡ lits_at words o → IsStored words live implied c
  stored_pair : (a b : ℕ) → IsPair implied a b → c ≡ a ∷ b ∷ [] → IsStored words live implied c

-- `UnitPropagateTo assumed picked reached` holds if the picked clauses are unit in turn under the assumed literals,
-- and `reached` is the literals that they imply, the last one first, and then the assumed ones
abbrev pub UnitPropagateTo : (assumed : List ℕ) (picked : List (List ℕ)) (reached : List ℕ) → Type 0
UnitPropagateTo assumed [] reached = reached ≡ assumed
UnitPropagateTo assumed (c ∷ cs) reached = (o : ℕ) × IsUnit assumed c o × UnitPropagateTo (o ∷ assumed) cs reached

-- `StaysUnassigned words live implied l reached` holds if the reached literals neither satisfy nor falsify the
-- literal `l`, and falsify no stored clause
pub record StaysUnassigned (words live : List ℕ) (implied : List (List ℕ)) (l : ℕ) (reached : List ℕ) : Type 0 where
  pub not_true : is_among reached l ≡ false
  pub not_false : is_among reached (negated l) ≡ false
  pub no_conflict : (c : List ℕ) → IsStored words live implied c → IsFalsified reached c → ⊥

-- `LearnedIsEmpowering` holds if for every learned clause, unit propagation over stored clauses, from the units and the
-- negations of its literals but the first, never assigns its first literal and falsifies no stored clause
abbrev pub LearnedIsEmpowering : Type 0
LearnedIsEmpowering =
    (words refs : List ℕ) (watching : WatchState) (implied : List (List ℕ)) (s : PropagationState) (conflict : List ℕ) (w : AnalysisState) (back : ℕ) (units : List ℕ) (picked : List (List ℕ)) (reached : List ℕ) →
    PropagationInvariantBelow words refs watching implied s → AnalysisResult words s conflict w back → AreLevelZeroLits s units → AllByRecursion (IsStored words (live_refs words refs) implied) picked →
    UnitPropagateTo (map negated (drop 1 w.clause) ++ units) picked reached → StaysUnassigned words (live_refs words refs) implied (get_or w.clause 0 0) reached
