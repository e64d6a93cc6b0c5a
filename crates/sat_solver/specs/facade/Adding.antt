-- Clauses and assumptions that are added to a solver.
use Rattle.std.specs.Prelude.{ℕ, ◌≡◌, true, false, None, Some, List, Result, Ok, Err}
use Rattle.sat_base.specs.script.ScriptState.{WitnessName, introduce_all, refusal_of_names}
use Rattle.sat_checker.specs.matching.Expected.{Outcome}
use Rattle.sat_solver.specs.declared.error.SolverError.{SolverError}
use Rattle.sat_solver.specs.declared.error.SolverError.TheVariants as errors
use Rattle.sat_solver.specs.declared.state.SatState.TheVariants as states
use Rattle.sat_solver.specs.variables.NamingSteps.{IsDue, IsClauseStep, IsLiteralsStep}
use Rattle.sat_solver.specs.variables.Ordering.{AddsInOrder}
use Rattle.sat_solver.specs.variables.Refusing.{names_in}
use Rattle.sat_solver.specs.variables.VariableRoom.{HasVariablesFor, user_vars_in}
use Rattle.sat_solver.specs.session.AllowedSteps.{OnlyAllowedSteps}
use Rattle.sat_solver.specs.proof.ProofView.{is_drat}
use Rattle.sat_solver.specs.solver.Adding.{with_added, due_for_clause, due_for_assumptions, ForgetsAnswer}
use Rattle.sat_solver.specs.facade.View.{SolverView}
use Rattle.sat_solver.specs.facade.Calls.{Effect, NameCallFails, HasFullStore, MakesOrdered, Refuses}

-- `HasWitness v user` holds if a literal code in `user` (2v + sign) has a name of mode witness; then a clause or
-- assumptions with these literals are refused. (A name above 2^28 to its left would come first, but no `Lit` has one.)
abbrev pub HasWitness : {L : Type 0} → SolverView L → List ℕ → Type 0
HasWitness v user = (name : ℕ) × (refusal_of_names v.state (names_in user) ≡ Some (WitnessName name))

-- `HasNoWitness v user` holds if no literal code in `user` has a name of mode witness (or one above 2^28, which no
-- `Lit` has); names not in use count as mode sample
abbrev pub HasNoWitness : {L : Type 0} → SolverView L → List ℕ → Type 0
HasNoWitness v user = refusal_of_names v.state (names_in user) ≡ None

-- `IsDrat v` holds if an open target receives the steps as DRAT lines (decimal or binary); then assumptions are refused
abbrev pub IsDrat : {L : Type 0} → SolverView L → Type 0
IsDrat v = is_drat v.target ≡ true

-- `DratRefusesClauses v` holds if DRAT lines are written and an ask has begun since the proof was opened; then no
-- clause may be added
abbrev pub DratRefusesClauses : {L : Type 0} → SolverView L → Type 0
DratRefusesClauses v = IsDrat v × (v.asked ≡ true)

-- `DratAdmitsClauses v` holds if no DRAT lines are written, or no ask has begun since the proof was opened; only then
-- may a clause be added
abbrev pub DratAdmitsClauses : {L : Type 0} → SolverView L → Type 0
DratAdmitsClauses v = DratRefusesClauses v → ⊥

-- `LacksRoomForNames v user` holds if no call failed and no literal code in `user` has a name of mode witness, but
-- there are too few proof variables for the names that these literals would introduce
abbrev pub LacksRoomForNames : {L : Type 0} → SolverView L → List ℕ → Type 0
LacksRoomForNames v user = (v.failed ≡ false) × HasNoWitness v user × (HasVariablesFor v.names (user_vars_in user) → ⊥)

-- `StepsOfClause old new user` holds if only steps were made that adding the clause `user` may make, and no ask was
-- begun. The ordered steps introduce its names, then add it with its literals by increasing index; if unsat was known
-- before (`old.answer`), names are introduced and no clause is added.
pub record StepsOfClause {L : Type 0} (old new : SolverView L) (user : List ℕ) : Type 0 where
  pub ordered : MakesOrdered old new (due_for_clause old.answer user old.state)
  pub comes : OnlyAllowedSteps (IsClauseStep (names_in user)) old.steps new.steps
  pub order : (old.answer ≡ states.Unsat → ⊥) → AddsInOrder old.steps new.steps
  pub left_out : old.answer ≡ states.Unsat → OnlyAllowedSteps IsDue old.steps new.steps
  pub asked : new.asked ≡ old.asked

-- `Added old new user` holds if the clause `user` (literal codes over names) was accepted: the script state has its
-- names and the clause, assumptions and schedule are unchanged, and an answer other than `Unsat` is forgotten
pub record Added {L : Type 0} (old new : SolverView L) (user : List ℕ) : Type 0 where
  pub before_drat : DratAdmitsClauses old
  pub sampled : HasNoWitness old user
  pub room : HasVariablesFor old.names (user_vars_in user)
  pub did : Effect old new (with_added user)
  pub assumed : new.assumptions ≡ old.assumptions
  pub clock : new.clock ≡ old.clock
  pub state : ForgetsAnswer old.answer new.answer

-- `AddsClause r old new user` holds if `r` is the result of adding the clause `user` (literal codes over names).
-- Refusals are checked in this order: an earlier failure, DRAT lines after an ask, a name of mode witness, no variable
-- left. Any other error means that the call failed; then every later call fails.
abbrev pub AddsClause : {L : Type 0} → Result (Unit {0}) SolverError → SolverView L → SolverView L → List ℕ → Type 0
AddsClause (Ok x) old new user = Added old new user
AddsClause (Err errors.WitnessVariable) old new user = Refuses old new (((old.failed ≡ false) × DratAdmitsClauses old) × HasWitness old user)
AddsClause (Err errors.NotInDrat) old new user = Refuses old new ((old.failed ≡ false) × DratRefusesClauses old)
AddsClause (Err errors.VariableLimit) old new user = Refuses old new (DratAdmitsClauses old × LacksRoomForNames old user)
AddsClause (Err errors.HasFailed) old new user = Refuses old new (old.failed ≡ true)
AddsClause (Err e) old new user = (DratAdmitsClauses old × HasNoWitness old user) × HasVariablesFor old.names (user_vars_in user) × NameCallFails (HasFullStore new) e old new

-- `StepsOfAssumptions old new user` holds if the ordered steps introduce the names of the assumptions `user` and then
-- set them, whatever the outcome `o` of the ask will be; only steps were made that setting assumptions may make, and no
-- ask began
pub record StepsOfAssumptions {L : Type 0} (old new : SolverView L) (user : List ℕ) : Type 0 where
  pub ordered : (o : Outcome) → MakesOrdered old new (due_for_assumptions o user old.state)
  pub comes : OnlyAllowedSteps (IsLiteralsStep (names_in user)) old.steps new.steps
  pub asked : new.asked ≡ old.asked

-- `ReplacesAssumptions old new user` holds if the assumptions `user` (literal codes over names) replaced all earlier
-- ones: their names were introduced, the schedule is unchanged, and an answer other than `Unsat` is forgotten. It
-- becomes `Unknown`: the law `steps_record_answers` excludes `Unsat`, since no step of this call records unsat.
pub record ReplacesAssumptions {L : Type 0} (old new : SolverView L) (user : List ℕ) : Type 0 where
  pub sampled : HasNoWitness old user
  pub room : HasVariablesFor old.names (user_vars_in user)
  pub did : Effect old new (introduce_all (names_in user))
  pub assumed : new.assumptions ≡ user
  pub clock : new.clock ≡ old.clock
  pub state : ForgetsAnswer old.answer new.answer

-- `AssumesOrRefuses r old new user` holds if `r` is the result of setting the assumptions `user`: they replace the
-- earlier ones, or they are refused and nothing changes, or the call fails and so does every later one. Refusals are
-- checked in this order: an earlier failure, DRAT lines (clause `drat` of `assume`), a name of mode witness, no
-- variable left.
abbrev pub AssumesOrRefuses : {L : Type 0} → Result (Unit {0}) SolverError → SolverView L → SolverView L → List ℕ → Type 0
AssumesOrRefuses (Ok x) old new user = ReplacesAssumptions old new user
AssumesOrRefuses (Err errors.WitnessVariable) old new user = Refuses old new ((old.failed ≡ false) × HasWitness old user)
AssumesOrRefuses (Err errors.NotInDrat) old new user = Refuses old new ((old.failed ≡ false) × IsDrat old)
AssumesOrRefuses (Err errors.VariableLimit) old new user = Refuses old new (LacksRoomForNames old user)
AssumesOrRefuses (Err errors.HasFailed) old new user = Refuses old new (old.failed ≡ true)
AssumesOrRefuses (Err e) old new user = HasNoWitness old user × HasVariablesFor old.names (user_vars_in user) × NameCallFails ⊥ e old new
