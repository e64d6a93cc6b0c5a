-- Models and cores of the engine, for every script state that names and steps agree with.
use Rattle.std.specs.Prelude.{◌≡◌, ◌⊎◌, true, false, List, ℕ, [], map}
use Rattle.sat_base.specs.script.ScriptState.{ScriptState, IsRightModel}
use Rattle.sat_checker.specs.matching.Bridge.{LiveVariables}
use Rattle.sat_checker.specs.declared.processing.ProofProcessor.{Ghosts}
use Rattle.sat_solver.specs.declared.error.SolverError.{SolverError}
use Rattle.sat_solver.specs.declared.error.SolverError.TheVariants as errors
use Rattle.sat_solver.specs.declared.solver.Engine.{Engine}
use Rattle.sat_solver.specs.declared.state.SatState.{SatState}
use Rattle.sat_solver.specs.declared.state.SatState.TheVariants as states
use Rattle.sat_solver.specs.load.Literals.{user_literal}
use Rattle.sat_solver.specs.solver.Lines.{IsCoreOf}
use Rattle.sat_solver.specs.solver.View.{EngineIsInState, answer_in, assumptions_in, engine_has_failed, reported_core}
use Rattle.sat_solver.specs.solver.Whole.{engine_line}
use Rattle.sat_solver.specs.facade.Answers.{is_unsat}

-- `EngineIsRightLine s line` holds if, in every script state that names and steps agree with, `line` (literal codes
-- over names, one per name in use, by increasing name) is a correct model for clauses and assumptions
abbrev pub EngineIsRightLine : {W L : Type 0} {G : Ghosts L} → Engine W L G → List ℕ → Type 0
EngineIsRightLine s line = (j : ScriptState) (live : LiveVariables) → EngineIsInState s j live → IsRightModel j (map user_literal (assumptions_in s)) (map user_literal line)

-- `EngineIsRightCore s core` holds if, in every script state that names and steps agree with, `core` (literal codes
-- over names, in any order) consists of assumptions that can't all be true if the accepted clauses hold
abbrev pub EngineIsRightCore : {W L : Type 0} {G : Ghosts L} → Engine W L G → List ℕ → Type 0
EngineIsRightCore s core = (j : ScriptState) (live : LiveVariables) → EngineIsInState s j live → IsCoreOf j (map user_literal (assumptions_in s)) (map user_literal core)

-- `EngineIsModel s line` holds if the answer is `Sat`, no call failed, and `line` is the model: one literal code over
-- names for every name in use, by increasing name, correct for the clauses and the assumptions
pub record EngineIsModel {W L : Type 0} {G : Ghosts L} (s : Engine W L G) (line : List ℕ) : Type 0 where
  pub going : engine_has_failed s ≡ false
  pub answer : answer_in s ≡ states.Sat
  pub line_is : line ≡ engine_line s
  pub right : EngineIsRightLine s line

-- `EngineHasNone s` holds if no call failed and the answer is not `Sat`, so that there is no model
abbrev pub EngineHasNone : {W L : Type 0} {G : Ghosts L} → Engine W L G → Type 0
EngineHasNone s = (engine_has_failed s ≡ false) × (answer_in s ≡ states.Sat → ⊥)

-- `EngineModelFails e s` holds if a call for the model may return the error `e`: `HasFailed` after an earlier failure,
-- or `OutOfMemory` if there is a model; no other error
abbrev pub EngineModelFails : {W L : Type 0} {G : Ghosts L} → SolverError → Engine W L G → Type 0
EngineModelFails errors.HasFailed s = engine_has_failed s ≡ true
EngineModelFails errors.OutOfMemory s = (engine_has_failed s ≡ false) × (answer_in s ≡ states.Sat)
EngineModelFails e s = ⊥

-- `engine_core_for answer s` is the failed core for this answer, as literal codes over names: the reported core for
-- `UnsatUnderAssumptions`, otherwise the empty list
abbrev pub engine_core_for : {W L : Type 0} {G : Ghosts L} → SatState → Engine W L G → List ℕ
engine_core_for states.UnsatUnderAssumptions s = reported_core s
engine_core_for st s = []

-- `EngineIsCore s core` holds if no call failed, the last answer is unsatisfiable, and `core` is the reported core:
-- literal codes over names, among the assumptions, that can't all be true. It is empty if and only if the answer is
-- `Unsat`.
pub record EngineIsCore {W L : Type 0} {G : Ghosts L} (s : Engine W L G) (core : List ℕ) : Type 0 where
  pub going : engine_has_failed s ≡ false
  pub unsat : is_unsat (answer_in s)
  pub core_is : core ≡ engine_core_for (answer_in s) s
  pub some : answer_in s ≡ states.UnsatUnderAssumptions → core ≡ [] → ⊥
  pub right : EngineIsRightCore s core

-- `EngineHasNoCore s` holds if a call failed, or the answer is neither `Unsat` nor `UnsatUnderAssumptions`
abbrev pub EngineHasNoCore : {W L : Type 0} {G : Ghosts L} → Engine W L G → Type 0
EngineHasNoCore s = (engine_has_failed s ≡ true) ⊎ (is_unsat (answer_in s) → ⊥)
