-- The fields of the engine that its contracts name.
use Rattle.std.specs.Prelude.{◌≡◌, ℕ, Bool, true, List}
use Rattle.std.specs.Global.{Vec}
use Rattle.sat_base.specs.device.Device.{Writer}
use Rattle.sat_base.specs.script.ScriptState.{ScriptState}
use Rattle.sat_checker.specs.matching.Bridge.{LiveVariables}
use Rattle.sat_checker.specs.declared.processing.ProofProcessor.{Ghosts}
use Rattle.sat_solver.specs.proof.ProofView.{Target, target_of}
use Rattle.sat_solver.specs.variables.Calls.{NamesAgree}
use Rattle.sat_solver.specs.declared.config.SolverConfig.{SolverConfig}
use Rattle.sat_solver.specs.declared.context.Context.{Context}
use Rattle.sat_solver.specs.declared.proof.Proof.{Proof}
use Rattle.sat_solver.specs.declared.solver.Engine.{Engine}
use Rattle.sat_solver.specs.declared.solver.find.Schedule.{Schedule}
use Rattle.sat_solver.specs.declared.solver.find.LastAnswers.{LastAnswers}
use Rattle.sat_solver.specs.declared.variables.Variables.{Variables}
use Rattle.sat_solver.specs.declared.state.SatState.{SatState}
use Rattle.sat_solver.specs.solver.Whole.{steps_in}

-- `engine_has_failed s` is true if a call failed; then every later call fails
abbrev pub engine_has_failed : {W L : Type 0} {G : Ghosts L} → Engine W L G → Bool
engine_has_failed s = s.failed

-- `is_used s` is true if a clause, a name, assumptions or an ask came before; then no proof can be opened
abbrev pub is_used : {W L : Type 0} {G : Ghosts L} → Engine W L G → Bool
is_used s = s.used

-- what the solver knows about the answer for its current clauses and assumptions
abbrev pub answer_in : {W L : Type 0} {G : Ghosts L} → Engine W L G → SatState
answer_in s = s.state

-- the assumptions, as codes of literals over names
abbrev pub assumptions_in : {W L : Type 0} {G : Ghosts L} → Engine W L G → List ℕ
assumptions_in s = s.assumed.items

-- the assumptions as stored: a vector of literal codes over names
abbrev pub assumed_in : {W L : Type 0} {G : Ghosts L} → Engine W L G → Vec ℕ
assumed_in s = s.assumed

-- the names, and the proof variables and indices that they refer to
abbrev pub known_names : {W L : Type 0} {G : Ghosts L} → Engine W L G → Variables
known_names s = s.names

-- the last answers: a model over proof variables, and a failed core over names
abbrev pub reported_in : {W L : Type 0} {G : Ghosts L} → Engine W L G → LastAnswers
reported_in s = s.reported

-- the last failed core, as literal codes over names
abbrev pub reported_core : {W L : Type 0} {G : Ghosts L} → Engine W L G → List ℕ
reported_core s = s.reported.failed_core.items

-- the rounds of all asks, and when restarts are due
abbrev pub schedule_in : {W L : Type 0} {G : Ghosts L} → Engine W L G → Schedule
schedule_in s = s.clock

-- the number of rounds of all asks
abbrev pub rounds_in : {W L : Type 0} {G : Ghosts L} → Engine W L G → ℕ
rounds_in s = s.clock.rounds

-- the number of restarts of all asks
abbrev pub restarts_in : {W L : Type 0} {G : Ghosts L} → Engine W L G → ℕ
restarts_in s = s.clock.restarts.count

-- the parameters of the solver
abbrev pub parameters_in : {W L : Type 0} {G : Ghosts L} → Engine W L G → SolverConfig
parameters_in s = s.context.config

-- the engine's proof, search and parameters, without its names
abbrev pub context_of : {W L : Type 0} {G : Ghosts L} → Engine W L G → Context W L G
context_of s = s.context

-- the proof; contracts see its steps, its target and the solver's own checker
abbrev pub proof_in : {W L : Type 0} {G : Ghosts L} → Engine W L G → Proof W L G
proof_in s = s.context.proof

-- where the text of the proof's steps is written
abbrev pub engine_target : {W L : Type 0} {G : Ghosts L} → (W → Writer) → Engine W L G → Target
engine_target seen s = target_of seen s.context.proof

-- `OnlyProofDiffers old new` holds if at most the proof has changed
abbrev pub OnlyProofDiffers : {W L : Type 0} {G : Ghosts L} → Engine W L G → Engine W L G → Type 0
OnlyProofDiffers old new = new ≡ record old { context = record old.context { proof = new.context.proof } }

-- the solver, marked as used
abbrev pub used_now : {W L : Type 0} {G : Ghosts L} → Engine W L G → Engine W L G
used_now s = record s { used = true }

-- `EngineIsInState s j live` holds if names and steps agree with the script state `j` when its identities are assigned
-- to live proof variables as `live` says
abbrev pub EngineIsInState : {W L : Type 0} {G : Ghosts L} → Engine W L G → ScriptState → LiveVariables → Type 0
EngineIsInState s j live = NamesAgree s.names (steps_in s) j live
