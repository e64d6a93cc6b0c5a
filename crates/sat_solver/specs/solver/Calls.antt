-- What calls of the engine change.
use Rattle.std.specs.Prelude.{ℕ, ◌+◌, ◌-◌, ◌*◌, ◌<◌, ◌≤◌, ◌≡◌, ◌^◌, Bool, true, false, List, [], ◌∷◌, map, Result, Ok, Err}
use Rattle.sat_base.specs.device.Device.{Writer}
use Rattle.sat_base.specs.script.Script.{names_of}
use Rattle.sat_base.specs.script.ScriptState.{ScriptState}
use Rattle.sat_base.specs.steps.Steps.{Step}
use Rattle.sat_checker.specs.declared.processing.ProofProcessor.{Ghosts}
use Rattle.sat_solver.specs.schedule.Counting.{round_allowance}
use Rattle.sat_solver.specs.declared.error.SolverError.{SolverError}
use Rattle.sat_solver.specs.declared.error.SolverError.TheVariants as errors
use Rattle.sat_solver.specs.declared.variables.Variables.{Variables}
use Rattle.sat_solver.specs.load.Literals.{user_literal}
use Rattle.sat_solver.specs.variables.Calls.{NamesAgree, ChangesScriptState}
use Rattle.sat_checker.specs.matching.Expected.{Expected, Shows, Fails}
use Rattle.sat_checker.specs.matching.Bridge.{LiveVariables}
use Rattle.sat_solver.specs.schedule.Solving.{CountsEmpoweringIn}
use Rattle.sat_solver.specs.session.AllowedSteps.{OnlyAllowedSteps, OnlyWidthAfterUnsat}
use Rattle.sat_solver.specs.session.Emitting.{EmitsSomeSteps}
use Rattle.sat_solver.specs.proof.ProofView.{Target, Closed, Open, Broken, FlushesAndNotifies, AllStepsReported, IsAtWidth, with_ask_begun, has_asked, is_open, target_of}
use Rattle.sat_solver.specs.declared.proof.Proof.{Proof}
use Rattle.sat_solver.specs.declared.solver.Engine.{Engine}
use Rattle.sat_solver.specs.declared.state.SatState.{SatState}
use Rattle.sat_solver.specs.declared.state.SatState.TheVariants as states
use Rattle.sat_solver.specs.solver.Answering.{CallFails, EngineFlushFails}
use Rattle.sat_solver.specs.solver.Found.{SearchedBy}
use Rattle.sat_solver.specs.solver.Whole.{SolverInvariant, steps_in, engine_line}
use Rattle.sat_solver.specs.solver.View.{EngineIsInState, OnlyProofDiffers, answer_in, assumed_in, assumptions_in, reported_core, engine_has_failed, context_of, is_used, known_names, parameters_in, proof_in, rounds_in, schedule_in, engine_target, used_now}

-- `CallEffect seen old new judge due` holds if a call succeeded, changed the script state by `judge`, and made exactly
-- the ordered steps that `due` gives for the old script state (other steps may be in between); the invariant holds, and
-- the solver is marked as used
pub record CallEffect {W L : Type 0} {G : Ghosts L} (seen : W → Writer) (old new : Engine W L G) (judge : ScriptState → ScriptState) (due : ScriptState → List Expected) : Type 0 where
  pub whole : SolverInvariant new
  pub going : engine_has_failed old ≡ false
  pub failed : engine_has_failed new ≡ false
  pub used : is_used new ≡ true
  pub config : parameters_in new ≡ parameters_in old
  pub does : ChangesScriptState (known_names old) (known_names new) (steps_in old) (steps_in new) judge due
  pub took : EmitsSomeSteps seen (proof_in old) (proof_in new)
  -- after a step, the solver's own checker, if there is one, is at the width of the target's text
  pub width : (steps_in new ≡ steps_in old → ⊥) → IsAtWidth (proof_in new)

-- the number of rounds that the next ask may make: the parameter `max_steps`, or fewer if all rounds together would
-- exceed 2^64-1
abbrev pub engine_rounds_left : {W L : Type 0} {G : Ghosts L} → Engine W L G → ℕ
engine_rounds_left s = round_allowance (parameters_in s).max_steps (rounds_in s)

-- `RoundsWithinBudget n steps budget before now` holds if the number of rounds did not fall from `before` to `now`, and
-- rose by at most the rounds that the call may make. It also rose by fewer than 2^(2n+3), where n is the number of
-- identities of any script state that names and steps agree with.
pub record RoundsWithinBudget (n : Variables) (steps : List Step) (budget before now : ℕ) : Type 0 where
  pub more : before ≤ now
  pub within : now ≤ before + round_allowance budget before
  pub few : (j : ScriptState) (live : LiveVariables) → NamesAgree n steps j live → now < before + 2 ^ (2 * j.identity_count + 3)

-- `EngineCountsRounds old new` holds if the number of rounds of all asks did not fall, and rose by at most
-- `engine_rounds_left old` and by fewer than 2^(2n+3), for the number n of identities of any script state that names
-- and steps of `old` agree with
abbrev pub EngineCountsRounds : {W L : Type 0} {G : Ghosts L} → Engine W L G → Engine W L G → Type 0
EngineCountsRounds old new = RoundsWithinBudget (known_names old) (steps_in old) (parameters_in old).max_steps (rounds_in old) (rounds_in new)

-- `EngineEndsInFailure seen e old new` holds if an ask failed with `e` for a reason that the input does not determine,
-- and so does every later call; rounds are counted. If the answer was known, only a flush or the solver's own checker
-- failed.
pub record EngineEndsInFailure {W L : Type 0} {G : Ghosts L} (seen : W → Writer) (e : SolverError) (old new : Engine W L G) : Type 0 where
  pub going : engine_has_failed old ≡ false
  pub failed : engine_has_failed new ≡ true
  pub breaks : CallFails seen e (context_of old) (context_of new)
  pub counts : EngineCountsRounds old new
  pub known : (answer_in old ≡ states.Unknown → ⊥) → EngineFlushFails seen e (proof_in old) (proof_in new)

-- `EngineRefuses old new why` holds if the call was refused for the reason `why`, and changed nothing
pub record EngineRefuses {W L : Type 0} {G : Ghosts L} (old new : Engine W L G) (why : Type 0) : Type 0 where
  pub same : new ≡ old
  pub cause : why

-- ANSWERS

-- `due_between_states before now line asked core` is the ordered step of an answer found by an ask with the assumptions
-- `asked`: the model `line` or the failed core `core`. None if `now` is `Unknown` or `Unsat`, or the answer `before`
-- was known.
abbrev pub due_between_states : (before now : SatState) → (line asked core : List ℕ) → List Expected
due_between_states states.Unknown states.Sat line asked core = Shows (names_of (map user_literal line)) (map user_literal asked) (map user_literal line) ∷ []
due_between_states states.Unknown states.UnsatUnderAssumptions line asked core = Fails (map user_literal asked) (map user_literal core) ∷ []
due_between_states before now line asked core = []

-- `engine_due_for_answer before s` is the ordered step that shows the answer of `s` (model or failed core), if the
-- answer was unknown before (`before`); none if the answer is `Unknown` or `Unsat`, or was known before
abbrev pub engine_due_for_answer : {W L : Type 0} {G : Ghosts L} → SatState → Engine W L G → List Expected
engine_due_for_answer before s = due_between_states before (answer_in s) (engine_line s) (assumptions_in s) (reported_core s)

-- `EngineAskCountsRounds old new` holds if an ask made at least one round for a new answer, and exactly
-- `engine_rounds_left old` rounds if there is no answer. There is an answer if at least 2^(2n+3) rounds were allowed,
-- for the number n of identities.
pub record EngineAskCountsRounds {W L : Type 0} {G : Ghosts L} (old new : Engine W L G) : Type 0 where
  pub on : EngineCountsRounds old new
  pub round : answer_in old ≡ states.Unknown → (answer_in new ≡ states.Unknown → ⊥) → rounds_in old < rounds_in new
  pub spent : answer_in new ≡ states.Unknown → rounds_in new ≡ rounds_in old + engine_rounds_left old
  pub answered : (j : ScriptState) (live : LiveVariables) → EngineIsInState old j live → 2 ^ (2 * j.identity_count + 3) ≤ engine_rounds_left old →
      answer_in new ≡ states.Unknown → ⊥

-- `learned_of answer rounds` is how many of the `rounds` rounds of an ask learned a clause: all if the answer is still
-- `Unknown`, otherwise all except the last one (0 for 0 rounds)
abbrev pub learned_of : SatState → (rounds : ℕ) → ℕ
learned_of states.Unknown rounds = rounds
learned_of states.Sat rounds = rounds - 1
learned_of states.UnsatUnderAssumptions rounds = rounds - 1
learned_of states.Unsat rounds = rounds - 1

-- `IsFlushed target` holds if the target, if open, has no pending bytes, and its last call was a flush
abbrev pub IsFlushed : Target → Type 0
IsFlushed (Closed c) = Unit {0}
IsFlushed (Open f c s) = (s.waiting ≡ []) × (s.writer.flushed ≡ true)
IsFlushed (Broken w) = Unit {0}

-- `RecordsAsk seen p` holds if the target is not open, or the proof records that an ask has begun
abbrev pub RecordsAsk : {W L : Type 0} {G : Ghosts L} → (W → Writer) → Proof W L G → Type 0
RecordsAsk seen p = is_open (target_of seen p) ≡ true → has_asked p ≡ true

-- `EngineAnswersAgain old new` holds if a known answer is given again: no step was made, the solver is marked as used,
-- and otherwise at most the proof's target and checker have changed
pub record EngineAnswersAgain {W L : Type 0} {G : Ghosts L} (old new : Engine W L G) : Type 0 where
  pub steps : steps_in new ≡ steps_in old
  pub same : OnlyProofDiffers (used_now old) new

-- `MakesRounds seen old new` holds if an ask made its rounds, with restarts and reductions when due, until it had the
-- answer of `new` or exhausted its allowance; from its first step on, hashes may be shortened. Then the target was
-- flushed and the checker notified.
pub record MakesRounds {W L : Type 0} {G : Ghosts L} (seen : W → Writer) (old new : Engine W L G) : Type 0 where
  pub following : Proof W L G
  pub searched : SearchedBy seen (answer_in new) (schedule_in old) (schedule_in new) (known_names old) (known_names new) (record (context_of old) { proof = with_ask_begun (proof_in old) }) (record (context_of new) { proof = following }) (reported_core new)
  pub flushes : FlushesAndNotifies seen following (proof_in new)

-- `EngineStepsOfAsk seen old new` holds if only steps were made that an ask may make (after unsat is recorded, only
-- changes of width). Every round except the answering one derived an empowering clause; no other step did. Every name
-- refers to the same variable as before.
pub record EngineStepsOfAsk {W L : Type 0} {G : Ghosts L} (seen : W → Writer) (old new : Engine W L G) : Type 0 where
  pub comes : OnlyAllowedSteps OnlyWidthAfterUnsat (steps_in old) (steps_in new)
  pub times : CountsEmpoweringIn (steps_in old) (steps_in new) (learned_of (answer_in new) (rounds_in new - rounds_in old))
  pub users : (known_names new).global_from_user ≡ (known_names old).global_from_user
  pub asked : RecordsAsk seen (proof_in new)
  pub rounds : answer_in old ≡ states.Unknown → MakesRounds seen old new

-- `EngineAnswered seen old new` holds if an ask was made without failing, whether or not it found an answer.
-- Assumptions are unchanged, an open target was flushed, and the own checker has received all steps and announced
-- everything.
pub record EngineAnswered {W L : Type 0} {G : Ghosts L} (seen : W → Writer) (old new : Engine W L G) : Type 0 where
  pub did : CallEffect seen old new (λ j. j) (λ j. engine_due_for_answer (answer_in old) new)
  pub assumed : assumed_in new ≡ assumed_in old
  pub counts : EngineAskCountsRounds old new
  pub known : (answer_in old ≡ states.Unknown → ⊥) → EngineAnswersAgain old new
  pub flushed : IsFlushed (engine_target seen new)
  pub reported : AllStepsReported (proof_in new)
  pub steps : EngineStepsOfAsk seen old new

-- `IsAnswer state sat` holds if `sat` is true and `state` is `Sat`, or `sat` is false and `state` is `Unsat` or
-- `UnsatUnderAssumptions`
abbrev pub IsAnswer : SatState → Bool → Type 0
IsAnswer states.Unknown sat = ⊥
IsAnswer states.Sat sat = sat ≡ true
IsAnswer states.UnsatUnderAssumptions sat = sat ≡ false
IsAnswer states.Unsat sat = sat ≡ false

-- `EngineSolves seen r old new` holds if `r` is the result of an ask: true (satisfiable), false (unsatisfiable),
-- `Interrupted` (allowed rounds exhausted, answer unknown), `HasFailed` (refused after an earlier failure), or a new
-- failure
abbrev pub EngineSolves : {W L : Type 0} {G : Ghosts L} → (W → Writer) → Result Bool SolverError → Engine W L G → Engine W L G → Type 0
EngineSolves seen (Ok sat) old new = EngineAnswered seen old new × IsAnswer (answer_in new) sat
EngineSolves seen (Err errors.Interrupted) old new = EngineAnswered seen old new × (answer_in new ≡ states.Unknown)
EngineSolves seen (Err errors.HasFailed) old new = EngineRefuses old new (engine_has_failed old ≡ true)
EngineSolves seen (Err e) old new = EngineEndsInFailure seen e old new
