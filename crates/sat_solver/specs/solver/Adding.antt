-- Clauses and assumptions that are added to the engine.
use Rattle.std.specs.Prelude.{ℕ, ◌≡◌, true, false, None, Some, List, [], ◌∷◌, ◌++◌, map, Result, Ok, Err}
use Rattle.sat_base.specs.device.Device.{Writer}
use Rattle.sat_base.specs.script.ScriptState.{ScriptState, WitnessName, introduce_all, with_clause, refusal_of_names}
use Rattle.sat_checker.specs.declared.processing.ProofProcessor.{Ghosts}
use Rattle.sat_solver.specs.declared.error.SolverError.{SolverError}
use Rattle.sat_solver.specs.declared.error.SolverError.TheVariants as errors
use Rattle.sat_solver.specs.load.Literals.{user_literal}
use Rattle.sat_solver.specs.variables.Calls.{ChangesScriptState}
use Rattle.sat_solver.specs.variables.NamingSteps.{IsDue, IsClauseStep, IsLiteralsStep}
use Rattle.sat_solver.specs.variables.Ordering.{AddsInOrder}
use Rattle.sat_solver.specs.session.AllowedSteps.{OnlyAllowedSteps}
use Rattle.sat_solver.specs.session.Emitting.{EmitsSomeSteps}
use Rattle.sat_solver.specs.proof.ProofView.{IsAtWidth, is_drat, has_asked}
use Rattle.sat_checker.specs.matching.Expected.{Outcome, Expected, Adds, Opens, steps_introducing}
use Rattle.sat_checker.specs.matching.Bridge.{LiveVariables}
use Rattle.sat_solver.specs.variables.Refusing.{names_in}
use Rattle.sat_solver.specs.variables.VariableRoom.{HasVariablesFor, user_vars_in}
use Rattle.sat_solver.specs.cdcl.StepEffects.{IsFaultOr}
use Rattle.sat_solver.specs.declared.solver.Engine.{Engine}
use Rattle.sat_solver.specs.declared.state.SatState.{SatState}
use Rattle.sat_solver.specs.declared.state.SatState.TheVariants as states
use Rattle.sat_solver.specs.solver.Calls.{CallEffect, EngineRefuses}
use Rattle.sat_solver.specs.solver.AddingToSearch.{NameStepsFailWithStoredError, NameStepsFailOr}
use Rattle.sat_solver.specs.solver.Whole.{EngineHasFullStore, SolverInvariant, steps_in}
use Rattle.sat_solver.specs.solver.View.{EngineIsInState, answer_in, assumed_in, assumptions_in, engine_has_failed, context_of, is_used, known_names, parameters_in, proof_in, schedule_in, engine_target}

-- the script state after the names of the literals `user` are introduced, from left to right, and then the clause
-- `user` is added
abbrev pub with_added : List ℕ → ScriptState → ScriptState
with_added user j = with_clause (map user_literal user) (introduce_all (names_in user) j)

-- `due_for_clause before user j` is the ordered steps of adding the clause `user` in the script state `j`: those of its
-- new names, then the one that adds it, unless the answer `before` was `Unsat`
abbrev pub due_for_clause : SatState → List ℕ → ScriptState → List Expected
due_for_clause states.Unsat user j = steps_introducing (names_in user) j
due_for_clause before user j = steps_introducing (names_in user) j ++ (Adds (map user_literal user) ∷ [])

-- `due_for_assumptions o user j` is the ordered steps of setting the assumptions `user` in the script state `j`: those
-- of their new names, then one that opens an ask with the outcome `o`
abbrev pub due_for_assumptions : Outcome → List ℕ → ScriptState → List Expected
due_for_assumptions o user j = steps_introducing (names_in user) j ++ (Opens (map user_literal user) o ∷ [])

-- `ForgetsAnswer before now` holds if `now` is `Unsat` after `Unsat`, and otherwise `Unknown` or `Unsat`: a model or a
-- core for earlier clauses or assumptions is forgotten. Of the calls that do this, `add_clause` and `assume`, only
-- `add_clause` can newly give `Unsat`.
abbrev pub ForgetsAnswer : SatState → SatState → Type 0
ForgetsAnswer states.Unsat now = now ≡ states.Unsat
ForgetsAnswer before states.Unknown = Unit {0}
ForgetsAnswer before states.Unsat = Unit {0}
ForgetsAnswer before states.Sat = ⊥
ForgetsAnswer before states.UnsatUnderAssumptions = ⊥

-- `EngineHasWitness s user` holds if, in every script state that names and steps agree with, a literal code in `user`
-- has a name of mode witness, with no name above the limit to its left
abbrev pub EngineHasWitness : {W L : Type 0} {G : Ghosts L} → Engine W L G → List ℕ → Type 0
EngineHasWitness s user = (j : ScriptState) (live : LiveVariables) → EngineIsInState s j live → (name : ℕ) × (refusal_of_names j (names_in user) ≡ Some (WitnessName name))

-- `EngineHasNoWitness s user` holds if, in every script state that names and steps agree with, no literal code in
-- `user` has a name of mode witness or a name above the limit
abbrev pub EngineHasNoWitness : {W L : Type 0} {G : Ghosts L} → Engine W L G → List ℕ → Type 0
EngineHasNoWitness s user = (j : ScriptState) (live : LiveVariables) → EngineIsInState s j live → refusal_of_names j (names_in user) ≡ None

-- `EngineNameCallFailsOr full seen e old new` holds if a call over names failed with `e` after some steps, and so does
-- every later call; the schedule is unchanged, and `StoreFull` is returned only if `full` holds
pub record EngineNameCallFailsOr {W L : Type 0} {G : Ghosts L} (full : Type 0) (seen : W → Writer) (e : SolverError) (old new : Engine W L G) : Type 0 where
  pub going : engine_has_failed old ≡ false
  pub failed : engine_has_failed new ≡ true
  pub fault : IsFaultOr full e
  pub breaks : NameStepsFailOr full seen e (context_of old) (context_of new)
  pub clock : schedule_in new ≡ schedule_in old

-- `EngineNameCallFails seen e old new` holds if a call over names that stores no clause failed with `e` (never
-- `StoreFull`) after some steps, and so does every later call; the schedule is unchanged
abbrev pub EngineNameCallFails : {W L : Type 0} {G : Ghosts L} → (W → Writer) → SolverError → Engine W L G → Engine W L G → Type 0
EngineNameCallFails seen e old new = EngineNameCallFailsOr ⊥ seen e old new

-- `EngineIsDrat seen s` holds if an open target receives the steps as DRAT lines (decimal or binary); then assumptions
-- are refused
abbrev pub EngineIsDrat : {W L : Type 0} {G : Ghosts L} → (W → Writer) → Engine W L G → Type 0
EngineIsDrat seen s = is_drat (engine_target seen s) ≡ true

-- `EngineDratRefusesClauses seen s` holds if DRAT lines are written and an ask has begun since the proof was opened;
-- then no clause may be added
abbrev pub EngineDratRefusesClauses : {W L : Type 0} {G : Ghosts L} → (W → Writer) → Engine W L G → Type 0
EngineDratRefusesClauses seen s = EngineIsDrat seen s × (has_asked (proof_in s) ≡ true)

-- `EngineDratAdmitsClauses seen s` holds if no DRAT lines are written, or no ask has begun since the proof was opened;
-- only then may a clause be added
abbrev pub EngineDratAdmitsClauses : {W L : Type 0} {G : Ghosts L} → (W → Writer) → Engine W L G → Type 0
EngineDratAdmitsClauses seen s = EngineDratRefusesClauses seen s → ⊥

-- `EngineLacksRoomForNames s user` holds if no call failed and no literal code in `user` has a name of mode witness,
-- but there are too few proof variables for the names that these literals would introduce
abbrev pub EngineLacksRoomForNames : {W L : Type 0} {G : Ghosts L} → Engine W L G → List ℕ → Type 0
EngineLacksRoomForNames s user = (engine_has_failed s ≡ false) × EngineHasNoWitness s user × (HasVariablesFor (known_names s) (user_vars_in user) → ⊥)

-- `EngineStepsOfClause old new user` holds if only steps were made that adding the clause `user` may make, with no ask
-- begun. Unless unsat was known before, one of them adds a clause with its literals by increasing index; otherwise they
-- only introduce names.
pub record EngineStepsOfClause {W L : Type 0} {G : Ghosts L} (old new : Engine W L G) (user : List ℕ) : Type 0 where
  pub comes : OnlyAllowedSteps (IsClauseStep (names_in user)) (steps_in old) (steps_in new)
  pub order : (answer_in old ≡ states.Unsat → ⊥) → AddsInOrder (steps_in old) (steps_in new)
  pub left_out : answer_in old ≡ states.Unsat → OnlyAllowedSteps IsDue (steps_in old) (steps_in new)
  pub asked : has_asked (proof_in new) ≡ has_asked (proof_in old)

-- `EngineAdded seen old new user` holds if the clause `user` (literal codes over names) was accepted: the script state
-- has its names and the clause, assumptions and schedule are unchanged, and an answer other than `Unsat` is forgotten
pub record EngineAdded {W L : Type 0} {G : Ghosts L} (seen : W → Writer) (old new : Engine W L G) (user : List ℕ) : Type 0 where
  pub before_drat : EngineDratAdmitsClauses seen old
  pub sampled : EngineHasNoWitness old user
  pub room : HasVariablesFor (known_names old) (user_vars_in user)
  pub did : CallEffect seen old new (with_added user) (due_for_clause (answer_in old) user)
  pub assumed : assumed_in new ≡ assumed_in old
  pub clock : schedule_in new ≡ schedule_in old
  pub state : ForgetsAnswer (answer_in old) (answer_in new)
  pub steps : EngineStepsOfClause old new user

-- `EngineAddsClause seen r old new user` holds if `r` is the result of adding the clause `user`. Refusals are checked
-- in this order: an earlier failure, DRAT lines after an ask, a name of mode witness, no variable left. Any other error
-- means that the call failed; then every later call fails.
abbrev pub EngineAddsClause : {W L : Type 0} {G : Ghosts L} → (W → Writer) → Result (Unit {0}) SolverError → Engine W L G → Engine W L G → List ℕ → Type 0
EngineAddsClause seen (Ok x) old new user = EngineAdded seen old new user
EngineAddsClause seen (Err errors.WitnessVariable) old new user = EngineRefuses old new (((engine_has_failed old ≡ false) × EngineDratAdmitsClauses seen old) × EngineHasWitness old user)
EngineAddsClause seen (Err errors.NotInDrat) old new user = EngineRefuses old new ((engine_has_failed old ≡ false) × EngineDratRefusesClauses seen old)
EngineAddsClause seen (Err errors.VariableLimit) old new user = EngineRefuses old new (EngineDratAdmitsClauses seen old × EngineLacksRoomForNames old user)
EngineAddsClause seen (Err errors.HasFailed) old new user = EngineRefuses old new (engine_has_failed old ≡ true)
EngineAddsClause seen (Err e) old new user = (EngineDratAdmitsClauses seen old × EngineHasNoWitness old user) × HasVariablesFor (known_names old) (user_vars_in user) × EngineNameCallFailsOr (EngineHasFullStore new) seen e old new

-- `EngineReplacesAssumptions seen old new user` holds if the assumptions `user` (literal codes over names) replaced all
-- earlier ones, by the ordered steps for any outcome `o` of the ask; an answer other than `Unsat` is forgotten, and no
-- ask began
pub record EngineReplacesAssumptions {W L : Type 0} {G : Ghosts L} (seen : W → Writer) (old new : Engine W L G) (user : List ℕ) : Type 0 where
  pub sampled : EngineHasNoWitness old user
  pub room : HasVariablesFor (known_names old) (user_vars_in user)
  pub did : (o : Outcome) → CallEffect seen old new (introduce_all (names_in user)) (due_for_assumptions o user)
  pub comes : OnlyAllowedSteps (IsLiteralsStep (names_in user)) (steps_in old) (steps_in new)
  pub asked : has_asked (proof_in new) ≡ has_asked (proof_in old)
  pub assumed : assumptions_in new ≡ user
  pub clock : schedule_in new ≡ schedule_in old
  pub state : ForgetsAnswer (answer_in old) (answer_in new)

-- `EngineAssumesOrRefuses seen r old new user` holds if `r` is the result of setting the assumptions `user`: they
-- replace the earlier ones, or they are refused and nothing changes, or the call fails and so does every later one
abbrev pub EngineAssumesOrRefuses : {W L : Type 0} {G : Ghosts L} → (W → Writer) → Result (Unit {0}) SolverError → Engine W L G → Engine W L G → List ℕ → Type 0
EngineAssumesOrRefuses seen (Ok x) old new user = EngineReplacesAssumptions seen old new user
EngineAssumesOrRefuses seen (Err errors.WitnessVariable) old new user = EngineRefuses old new ((engine_has_failed old ≡ false) × EngineHasWitness old user)
EngineAssumesOrRefuses seen (Err errors.NotInDrat) old new user = EngineRefuses old new ((engine_has_failed old ≡ false) × EngineIsDrat seen old)
EngineAssumesOrRefuses seen (Err errors.VariableLimit) old new user = EngineRefuses old new (EngineLacksRoomForNames old user)
EngineAssumesOrRefuses seen (Err errors.HasFailed) old new user = EngineRefuses old new (engine_has_failed old ≡ true)
EngineAssumesOrRefuses seen (Err e) old new user = EngineHasNoWitness old user × HasVariablesFor (known_names old) (user_vars_in user) × EngineNameCallFails seen e old new

-- INSIDE

-- `AddClauseEffect seen old new user` holds if the clause `user` was added to names, search and proof, with the steps
-- for it, and the solver is not yet marked as used; its invariant holds
pub record AddClauseEffect {W L : Type 0} {G : Ghosts L} (seen : W → Writer) (old new : Engine W L G) (user : List ℕ) : Type 0 where
  pub whole : SolverInvariant new
  pub does : ChangesScriptState (known_names old) (known_names new) (steps_in old) (steps_in new) (with_added user) (due_for_clause (answer_in old) user)
  pub comes : OnlyAllowedSteps (IsClauseStep (names_in user)) (steps_in old) (steps_in new)
  pub order : (answer_in old ≡ states.Unsat → ⊥) → AddsInOrder (steps_in old) (steps_in new)
  pub left_out : answer_in old ≡ states.Unsat → OnlyAllowedSteps IsDue (steps_in old) (steps_in new)
  pub took : EmitsSomeSteps seen (proof_in old) (proof_in new)
  pub asked : has_asked (proof_in new) ≡ has_asked (proof_in old)
  pub width : (steps_in new ≡ steps_in old → ⊥) → IsAtWidth (proof_in new)
  pub failed : engine_has_failed new ≡ engine_has_failed old
  pub used : is_used new ≡ is_used old
  pub config : parameters_in new ≡ parameters_in old
  pub state : ForgetsAnswer (answer_in old) (answer_in new)

-- `AddClauseResult seen r old new user` holds if `r` is the result of adding the clause `user`, before the solver is
-- marked as used or failed: the clause was added, or some steps were made and an error is stored
abbrev pub AddClauseResult : {W L : Type 0} {G : Ghosts L} → (W → Writer) → Result (Unit {0}) SolverError → Engine W L G → Engine W L G → List ℕ → Type 0
AddClauseResult seen (Ok x) old new user = AddClauseEffect seen old new user
AddClauseResult seen (Err e) old new user = NameStepsFailWithStoredError (EngineHasFullStore new) seen e (context_of old) (context_of new)
