-- Answers of a solver: models and cores, and why they are correct.
use Rattle.std.specs.Prelude.{ℕ, ◌+◌, ◌-◌, ◌*◌, ◌<◌, ◌≤◌, ◌≡◌, ◌⊎◌, ◌^◌, Bool, true, false, List, [], map, Result, Ok, Err}
use Rattle.sat_base.specs.script.Script.{Literal}
use Rattle.sat_base.specs.script.ScriptState.{IsRightModel}
use Rattle.sat_checker.specs.matching.Expected.{Expected}
use Rattle.sat_solver.specs.Models.{named_to}
use Rattle.sat_solver.specs.declared.error.SolverError.{SolverError}
use Rattle.sat_solver.specs.declared.error.SolverError.TheVariants as errors
use Rattle.sat_solver.specs.declared.state.SatState.{SatState}
use Rattle.sat_solver.specs.declared.state.SatState.TheVariants as states
use Rattle.sat_solver.specs.load.Literals.{user_literal}
use Rattle.sat_solver.specs.proof.ProofView.{is_open}
use Rattle.sat_solver.specs.schedule.Counting.{round_allowance}
use Rattle.sat_solver.specs.schedule.Solving.{CountsEmpoweringIn}
use Rattle.sat_solver.specs.session.AllowedSteps.{OnlyAllowedSteps, OnlyWidthAfterUnsat}
use Rattle.sat_solver.specs.solver.Calls.{due_between_states, learned_of, IsFlushed, IsAnswer}
use Rattle.sat_solver.specs.solver.Lines.{IsCoreOf}
use Rattle.sat_solver.specs.variables.Variables.{names_used}
use Rattle.sat_solver.specs.facade.View.{SolverView}
use Rattle.sat_solver.specs.facade.Calls.{Effect, Fails, HasFullStore, MakesOrdered, Refuses}

-- the assumptions that the solver currently has, as literals over names (counted from 1)
abbrev pub assumed_literals : {L : Type 0} → SolverView L → List Literal
assumed_literals v = map user_literal v.assumptions

-- one literal code over names for every name in use, by increasing name, given the values of the search; a variable
-- without a value counts as false
abbrev pub model_line : {L : Type 0} → SolverView L → List ℕ
model_line v = named_to v.names v.values (names_used v.names)

-- `due_for_answer before v` is the ordered step that shows the answer of `v` (model or failed core), if the answer was
-- unknown before (`before`); none if the answer is `Unknown` or `Unsat`, or was known before
abbrev pub due_for_answer : {L : Type 0} → SatState → SolverView L → List Expected
due_for_answer before v = due_between_states before v.answer (model_line v) v.assumptions v.core

-- the number of rounds that the next ask may make: the parameter `max_steps`, or fewer if all rounds together would
-- exceed 2^64-1
abbrev pub rounds_left : {L : Type 0} → SolverView L → ℕ
rounds_left v = round_allowance v.parameters.max_steps v.clock.rounds

-- `CountsRounds old new` holds if the number of rounds of all asks did not fall, and rose by at most `rounds_left old`.
-- It also rose by fewer than 2^(2n+3), where n is the number of identities of the script state before the call.
pub record CountsRounds {L : Type 0} (old new : SolverView L) : Type 0 where
  pub more : old.clock.rounds ≤ new.clock.rounds
  pub within : new.clock.rounds ≤ old.clock.rounds + rounds_left old
  pub few : new.clock.rounds < old.clock.rounds + 2 ^ (2 * old.state.identity_count + 3)

-- `AskCountsRounds old new` holds if an ask made at least one round for a new answer, and exactly `rounds_left old`
-- rounds if there is no answer. There is an answer if at least 2^(2n+3) rounds were allowed, for the number n of
-- identities.
pub record AskCountsRounds {L : Type 0} (old new : SolverView L) : Type 0 where
  pub on : CountsRounds old new
  pub round : old.answer ≡ states.Unknown → (new.answer ≡ states.Unknown → ⊥) → old.clock.rounds < new.clock.rounds
  pub spent : new.answer ≡ states.Unknown → new.clock.rounds ≡ old.clock.rounds + rounds_left old
  pub answered : 2 ^ (2 * old.state.identity_count + 3) ≤ rounds_left old → new.answer ≡ states.Unknown → ⊥

-- `AnswersAgain old new` holds if a known answer is given again: the solver is marked as used, and otherwise at most
-- its target, the flag that an ask has begun, and its own checker have changed; no step was made
abbrev pub AnswersAgain : {L : Type 0} → SolverView L → SolverView L → Type 0
AnswersAgain old new = new ≡ record old { used = true; target = new.target; asked = new.asked; lost = new.lost; listeners = new.listeners; checking = new.checking }

-- `Answered old new` holds if an ask was made without failing, whether or not it found an answer: the script state and
-- the assumptions are unchanged, rounds are counted, and the target, if open, was flushed
pub record Answered {L : Type 0} (old new : SolverView L) : Type 0 where
  pub did : Effect old new (λ j. j)
  pub assumed : new.assumptions ≡ old.assumptions
  pub counts : AskCountsRounds old new
  pub known : (old.answer ≡ states.Unknown → ⊥) → AnswersAgain old new
  pub flushed : IsFlushed new.target

-- `StepsOfAsk old new` holds if the ordered steps are those of the answer, and no step was made once unsat is recorded
-- (changes of width, which `comes` allows, are never among the steps). Every round except the answering one derived an
-- empowering clause; no other step did. Every name refers to the same variable as before.
pub record StepsOfAsk {L : Type 0} (old new : SolverView L) : Type 0 where
  pub ordered : MakesOrdered old new (due_for_answer old.answer new)
  pub comes : OnlyAllowedSteps OnlyWidthAfterUnsat old.steps new.steps
  pub times : CountsEmpoweringIn old.steps new.steps (learned_of new.answer (new.clock.rounds - old.clock.rounds))
  pub users : new.names.global_from_user ≡ old.names.global_from_user
  pub asked : is_open new.target ≡ true → new.asked ≡ true

-- `EndsInFailure e old new` holds if an ask failed with `e`; from then on, every call that returns a `Result` returns
-- `HasFailed`; rounds are counted; no step was made if the answer was known
pub record EndsInFailure {L : Type 0} (e : SolverError) (old new : SolverView L) : Type 0 where
  pub fails : Fails (HasFullStore new) e old new
  pub counts : CountsRounds old new
  pub known : (old.answer ≡ states.Unknown → ⊥) → new.steps ≡ old.steps

-- `Solves r old new` holds if `r` is the result of an ask: true (satisfiable), false (unsatisfiable), `Interrupted`
-- (allowed rounds exhausted, answer unknown), `HasFailed` (refused after an earlier failure), or a new failure
abbrev pub Solves : {L : Type 0} → Result Bool SolverError → SolverView L → SolverView L → Type 0
Solves (Ok sat) old new = Answered old new × IsAnswer new.answer sat
Solves (Err errors.Interrupted) old new = Answered old new × (new.answer ≡ states.Unknown)
Solves (Err errors.HasFailed) old new = Refuses old new (old.failed ≡ true)
Solves (Err e) old new = EndsInFailure e old new

-- MODELS AND CORES

-- `IsRightLine v line` holds if `line` (literal codes over names) has one literal per name in use, by increasing name,
-- and some valuation that agrees with it satisfies the accepted clauses and the assumptions
abbrev pub IsRightLine : {L : Type 0} → SolverView L → List ℕ → Type 0
IsRightLine v line = IsRightModel v.state (assumed_literals v) (map user_literal line)

-- `IsRightCoreOf v core` holds if `core` (literal codes over names, in any order; nothing excludes repeats) is a correct
-- core: some of the assumptions, which can't all be true if the accepted clauses hold
abbrev pub IsRightCoreOf : {L : Type 0} → SolverView L → List ℕ → Type 0
IsRightCoreOf v core = IsCoreOf v.state (assumed_literals v) (map user_literal core)

-- `IsModel v line` holds if the answer is `Sat`, no call failed, and `line` is the model: one literal code over names
-- for every name in use, by increasing name, correct for the clauses and the assumptions
pub record IsModel {L : Type 0} (v : SolverView L) (line : List ℕ) : Type 0 where
  pub going : v.failed ≡ false
  pub answer : v.answer ≡ states.Sat
  pub line_is : line ≡ model_line v
  pub right : IsRightLine v line

-- `HasNoModel v` holds if no call failed and the answer is not `Sat`
abbrev pub HasNoModel : {L : Type 0} → SolverView L → Type 0
HasNoModel v = (v.failed ≡ false) × (v.answer ≡ states.Sat → ⊥)

-- `ModelFails e v` holds if a call for the model may return the error `e`: `HasFailed` after an earlier failure, or
-- `OutOfMemory` if there is a model; no other error
abbrev pub ModelFails : {L : Type 0} → SolverError → SolverView L → Type 0
ModelFails errors.HasFailed v = v.failed ≡ true
ModelFails errors.OutOfMemory v = (v.failed ≡ false) × (v.answer ≡ states.Sat)
ModelFails e v = ⊥

-- `is_unsat answer` holds if the answer is `Unsat` (no valuation satisfies the clauses) or `UnsatUnderAssumptions`
-- (none satisfies the clauses and the assumptions)
abbrev pub is_unsat : SatState → Type 0
is_unsat states.Unknown = ⊥
is_unsat states.Sat = ⊥
is_unsat states.UnsatUnderAssumptions = Unit {0}
is_unsat states.Unsat = Unit {0}

-- `core_for answer v` is the failed core for this answer, as literal codes over names: the reported core for
-- `UnsatUnderAssumptions`, otherwise the empty list
abbrev pub core_for : {L : Type 0} → SatState → SolverView L → List ℕ
core_for states.UnsatUnderAssumptions v = v.core
core_for st v = []

-- `IsCore v core` holds if no call failed, the last answer is unsatisfiable, and `core` is the reported core: literal
-- codes over names, among the assumptions, that can't all be true. It is empty if and only if the answer is `Unsat`.
pub record IsCore {L : Type 0} (v : SolverView L) (core : List ℕ) : Type 0 where
  pub going : v.failed ≡ false
  pub unsat : is_unsat v.answer
  pub core_is : core ≡ core_for v.answer v
  pub some : v.answer ≡ states.UnsatUnderAssumptions → core ≡ [] → ⊥
  pub right : IsRightCoreOf v core

-- `HasNoCore v` holds if a call failed, or the answer is neither `Unsat` nor `UnsatUnderAssumptions`
abbrev pub HasNoCore : {L : Type 0} → SolverView L → Type 0
HasNoCore v = (v.failed ≡ true) ⊎ (is_unsat v.answer → ⊥)

-- `IsOngoing v` holds if no call failed, and the clauses are not known to be unsatisfiable
pub record IsOngoing {L : Type 0} (v : SolverView L) : Type 0 where
  pub going : v.failed ≡ false
  pub left : v.answer ≡ states.Unsat → ⊥
