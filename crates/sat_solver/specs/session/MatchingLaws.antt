-- Laws about searches and sessions.
use Rattle.std.specs.Prelude.{ℕ, ◌≡◌, List, [], ◌∷◌, ◌++◌, map, length}
use Rattle.sat_base.specs.values.Hashes.{hash_of}
use Rattle.sat_parts.specs.declared.prop.graph.Conflict.{Conflict}
use Rattle.sat_parts.specs.clause.Stored.{AreLongClauses}
use Rattle.sat_parts.specs.prop.ReasonLits.{conflict_lits}
use Rattle.sat_parts.specs.prop.State.{PropagationState, StateIsConsistent}
use Rattle.sat_parts.specs.prop.Ready.{IsConflict}
use Rattle.sat_parts.specs.parts.Round.{UnitsHaveNoReason}
use Rattle.sat_parts.specs.prop.Reasons.{ReasonsAreUnit}
use Rattle.sat_solver.specs.session.Session.{Session, CanDerive}
use Rattle.sat_solver.specs.session.LiveClauses.{with_var}
use Rattle.sat_solver.specs.analyze_conflict.AnalysisState.{AnalysisState}
use Rattle.sat_solver.specs.analyze_conflict.Derivation.{clause_of, AnalysisResult}
use Rattle.std.specs.Prelude.{drop, slice_index_or as get_or}
use Rattle.std.specs.List.{AllByRecursion}
use Rattle.sat_base.specs.values.Literals.{negated}
use Rattle.sat_base.specs.steps.Steps.{Model}
use Rattle.sat_parts.specs.clause.Db.{live_refs}
use Rattle.sat_solver.specs.session.Session.{empty_session, IsAllowedStep}
use Rattle.sat_solver.specs.analyze_conflict.Derivation.{AreLevelZeroLits}
use Rattle.sat_solver.specs.analyze_conflict.Empowering.{IsStored, UnitPropagateTo, StaysUnassigned}
use Rattle.sat_parts.specs.declared.parts.SearchState.{SearchState}
use Rattle.sat_parts.specs.parts.Whole.{state, SearchStateInvariant, AllAssigned, ClausesAreSatisfied, HasConflict}
use Rattle.sat_solver.specs.session.Units.{AreTrueLits}
use Rattle.sat_solver.specs.session.Matching.{SessionMatches, SessionMatchesParts, TrueLitsHaveIndices}

-- the clauses that the step of a learned clause names: the reasons of the literals `used`, in order, and then the
-- falsified clause `e`
abbrev pub named_clauses : List ℕ → PropagationState → List ℕ → Conflict → List (List ℕ)
named_clauses words st used e = map (clause_of words st) used ++ conflict_lits words e ∷ []

-- the 64-bit hashes, computed over indices, of the clauses that the step of a learned clause names: the reasons of the
-- literals `used`, in order, and then the falsified clause `e`
abbrev pub named_hashes : List ℕ → PropagationState → List ℕ → Conflict → List ℕ
named_hashes words st used e = map (λ l. hash_of (clause_of words st l)) used ++ hash_of (conflict_lits words e) ∷ []

-- `LearnedIsAllowed` holds if, when the search matches the session, every clause learned from a conflict may be derived
-- in the session, with the hashes of the reasons used and of the falsified clause
abbrev pub LearnedIsAllowed : Type 0
LearnedIsAllowed =
    (words live : List ℕ) (implied : List (List ℕ)) (st : PropagationState) (s : Session) (global : ℕ → ℕ) (e : Conflict) (w : AnalysisState) (back : ℕ) →
    SessionMatches words live implied st s global → StateIsConsistent st → AreLongClauses words live (length st.values) → UnitsHaveNoReason st → ReasonsAreUnit words live implied st 0 →
    IsConflict words live implied st.values e → AnalysisResult words st (conflict_lits words e) w back →
    CanDerive s (map (with_var global) w.clause) (named_hashes words st w.used e)

-- `ModelIsAllowed` holds if, when the search matches the session, every variable of a clause has a value and all
-- clauses are satisfied, the true literals may be written as a model, in any order
abbrev pub ModelIsAllowed : Type 0
ModelIsAllowed =
    (p : SearchState) (s : Session) (global : ℕ → ℕ) (ls : List ℕ) → SessionMatchesParts p s global → TrueLitsHaveIndices p.assignment.current s global → SearchStateInvariant p → AreTrueLits p.assignment.current ls → AllAssigned p → ClausesAreSatisfied p → IsAllowedStep s (Model (map (with_var global) ls))

-- `LearnedIsNew` holds if after a conflict above level 0, unit propagation over stored clauses, from the units and the
-- negations of the learned clause's other literals, never assigns its first literal and falsifies no stored clause
abbrev pub LearnedIsNew : Type 0
LearnedIsNew =
    (p : SearchState) (e : Conflict) (w : AnalysisState) (back : ℕ) (units : List ℕ) (picked : List (List ℕ)) (reached : List ℕ) → HasConflict p e → AnalysisResult p.clauses (state p) (conflict_lits p.clauses e) w back → AreLevelZeroLits (state p) units →
    AllByRecursion (IsStored p.clauses (live_refs p.clauses p.db.refs) p.binary.implied) picked → UnitPropagateTo (map negated (drop 1 w.clause) ++ units) picked reached →
    StaysUnassigned p.clauses (live_refs p.clauses p.db.refs) p.binary.implied (get_or w.clause 0 0) reached

-- `EmptyMatches` holds if a search without variables and clauses matches the empty session
abbrev pub EmptyMatches : Type 0
EmptyMatches = (words : List ℕ) (st : PropagationState) (global : ℕ → ℕ) → st.values ≡ [] → st.trail.lits ≡ [] → SessionMatches words [] [] st empty_session global
