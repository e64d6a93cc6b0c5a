-- A derived clause that advances: no live clauses of the session assign its first literal.
use Rattle.std.specs.Prelude.{ℕ, ◌≡◌, ◌<◌, ◌⊎◌, ◌==◌, ◌||◌, Bool, true, false, List, [], ◌∷◌, map, drop, length, slice_index_or as get_or}
use Rattle.std.specs.List.{AllByRecursion}
use Rattle.sat_base.specs.values.Literals.{negated}
use Rattle.sat_checker.specs.LiteralSets.{is_among}
use Rattle.sat_parts.specs.declared.prop.graph.Conflict.{Conflict}
use Rattle.sat_parts.specs.prop.ReasonLits.{conflict_lits}
use Rattle.sat_solver.specs.session.Session.{Session, IsLive, rup_assumptions}
use Rattle.sat_solver.specs.session.LiveClauses.{with_var}
use Rattle.sat_solver.specs.analyze_conflict.AnalysisState.{AnalysisState}
use Rattle.sat_solver.specs.analyze_conflict.Derivation.{AnalysisResult}
use Rattle.sat_parts.specs.declared.parts.SearchState.{SearchState}
use Rattle.sat_parts.specs.parts.Whole.{state, HasConflict}
use Rattle.sat_solver.specs.session.Matching.{SessionMatchesParts, TrueLitsHaveIndices}

-- `UnitPropagates s holds cs reached` holds if unit propagation from the literals that satisfy `holds`, with the live
-- clauses `cs` in this order, makes all literals of `reached` true: each clause has at most one literal not false so
-- far, which is true from then on
abbrev pub UnitPropagates : Session → (ℕ → Bool) → List (List ℕ) → (ℕ → Bool) → Type 0
UnitPropagates s holds [] reached = (l : ℕ) → reached l ≡ true → holds l ≡ true
UnitPropagates s holds (c ∷ cs) reached = IsLive s c × ((o : ℕ) × AllByRecursion (λ l. (l ≡ o) ⊎ (holds (negated l) ≡ true)) c × (is_among c o ≡ true) × UnitPropagates s (λ l. (o == l) || holds l) cs reached)

-- `StaysUnassignedInSession s l reached` holds if the literals that satisfy `reached` neither satisfy nor falsify the
-- literal `l`, and falsify no live clause of the session
pub record StaysUnassignedInSession (s : Session) (l : ℕ) (reached : ℕ → Bool) : Type 0 where
  pub not_true : reached l ≡ false
  pub not_false : reached (negated l) ≡ false
  pub no_conflict : (c : List ℕ) → IsLive s c → AllByRecursion (λ m. reached (negated m) ≡ true) c → ⊥

-- `AreConsistent holds` holds if no literal and its negation both satisfy `holds`
abbrev pub AreConsistent : (ℕ → Bool) → Type 0
AreConsistent holds = (l : ℕ) → holds l ≡ true → holds (negated l) ≡ false

-- `IsEmpowering s clause` holds if unit propagation over live clauses, from the units and the negations of all literals
-- of `clause` but the first, finds no conflict and never assigns the first literal; the starting literals are
-- consistent
pub record IsEmpowering (s : Session) (clause : List ℕ) : Type 0 where
  pub some : 0 < length clause
  pub agree : AreConsistent (rup_assumptions s (drop 1 clause))
  pub stays : (picked : List (List ℕ)) (reached : ℕ → Bool) → UnitPropagates s (rup_assumptions s (drop 1 clause)) picked reached → StaysUnassignedInSession s (get_or clause 0 0) reached

-- `LearnedIsEmpoweringInSession` holds if, for a clause learned from a conflict of a search that matches the session,
-- unit propagation over any live clauses from the units and its negated other literals leaves its first literal
-- unassigned, without conflict
abbrev pub LearnedIsEmpoweringInSession : Type 0
LearnedIsEmpoweringInSession =
    (p : SearchState) (e : Conflict) (w : AnalysisState) (back : ℕ) (s : Session) (global : ℕ → ℕ) (picked : List (List ℕ)) (reached : ℕ → Bool) → HasConflict p e → SessionMatchesParts p s global → TrueLitsHaveIndices p.assignment.current s global → AnalysisResult p.clauses (state p) (conflict_lits p.clauses e) w back →
    UnitPropagates s (rup_assumptions s (map (with_var global) (drop 1 w.clause))) picked reached → StaysUnassignedInSession s (with_var global (get_or w.clause 0 0)) reached
