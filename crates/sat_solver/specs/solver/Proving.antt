-- Opening and closing the proof of the engine.
use Rattle.std.specs.Prelude.{◌≡◌, ◌⊎◌, true, false, Option, None, Some, List, [], ◌∷◌, ◌++◌, Result, Ok, Err}
use Rattle.sat_base.specs.device.Device.{Writer}
use Rattle.sat_base.specs.device.Sink.{empty_sink}
use Rattle.sat_base.specs.steps.Steps.{Step, End}
use Rattle.sat_checker.specs.declared.processing.ProofProcessor.{Ghosts}
use Rattle.sat_solver.specs.proof.Checked.{has_begun}
use Rattle.sat_solver.specs.proof.Counting.{nothing_counted}
use Rattle.sat_solver.specs.proof.Drat.{IsDratDerivation, RefutesByUnits, present_clauses}
use Rattle.sat_solver.specs.proof.ProofTexts.{ReceivedAcceptedSteps, WroteSince}
use Rattle.sat_solver.specs.proof.ProofView as proofs
use Rattle.sat_solver.specs.proof.ProofView.{Open, EmitsExactly, ClosesNoTarget, ClosesOpenTarget, FailsToEmit, FailsCheck, ListenersAtRestart, proof_listeners, has_asked, is_open, has_missed_step}
use Rattle.sat_solver.specs.declared.proof.format.ProofFormat.{ProofFormat}
use Rattle.sat_solver.specs.declared.error.SolverError.{SolverError}
use Rattle.sat_solver.specs.declared.proof.emitted.CheckFault.{CheckFault}
use Rattle.sat_solver.specs.declared.proof.emitted.CheckFault.TheVariants as checks
use Rattle.sat_solver.specs.declared.error.SolverError.TheVariants as errors
use Rattle.sat_solver.specs.variables.Calls.{ChangesScriptState}
use Rattle.sat_solver.specs.cdcl.Faults.{MissesOnlyByFault}
use Rattle.sat_checker.specs.matching.Expected.{Finish}
use Rattle.sat_solver.specs.declared.solver.Engine.{Engine}
use Rattle.sat_solver.specs.declared.state.SatState.TheVariants as states
use Rattle.sat_solver.specs.solver.Calls.{EngineRefuses}
use Rattle.sat_solver.specs.solver.Whole.{SolverInvariant, steps_in}
use Rattle.sat_solver.specs.solver.View.{OnlyProofDiffers, answer_in, engine_has_failed, is_used, known_names, proof_in, schedule_in, engine_target}

-- `KeepsListeners old new` holds if the solver's own checker, if any, has the same listeners, and has missed a step
-- exactly if it had before
pub record KeepsListeners {W L : Type 0} {G : Ghosts L} (old new : Engine W L G) : Type 0 where
  pub listening : proof_listeners (proof_in new) ≡ proof_listeners (proof_in old)
  pub taking : has_missed_step (proof_in new) ≡ has_missed_step (proof_in old)

-- `EngineOpened seen format target old new` holds if `target` was opened by an unused solver that had no open proof;
-- nothing is counted or pending, no ask has begun, no step was made, and nothing besides the proof changed
pub record EngineOpened {W L : Type 0} {G : Ghosts L} (seen : W → Writer) (format : ProofFormat) (target : W) (old new : Engine W L G) : Type 0 where
  pub going : engine_has_failed old ≡ false
  pub first : is_used old ≡ false
  pub shut : is_open (engine_target seen old) ≡ false
  pub steps : steps_in new ≡ steps_in old
  pub checker : KeepsListeners old new
  pub asked : has_asked (proof_in new) ≡ false
  pub target_is : engine_target seen new ≡ Open format nothing_counted (empty_sink (seen target))
  pub same : OnlyProofDiffers old new

-- `EngineOpensProof seen r format target old new` holds if `r` is the result of opening a proof: opened, or refused
-- after an earlier failure, or refused as `TooLate` if the solver is used or a proof is open
abbrev pub EngineOpensProof : {W L : Type 0} {G : Ghosts L} → (W → Writer) → Result (Unit {0}) SolverError → ProofFormat → W → Engine W L G → Engine W L G → Type 0
EngineOpensProof seen (Ok x) format target old new = EngineOpened seen format target old new
EngineOpensProof seen (Err errors.HasFailed) format target old new = EngineRefuses old new (engine_has_failed old ≡ true)
EngineOpensProof seen (Err errors.TooLate) format target old new = EngineRefuses old new ((engine_has_failed old ≡ false) × ((is_used old ≡ true) ⊎ (is_open (engine_target seen old) ≡ true)))
EngineOpensProof seen (Err e) format target old new = ⊥

-- `EngineStartsChecking seen old new` holds if an unused solver now has an own checker that has missed no step, with
-- the earlier listeners; all steps before are ends of proofs, and nothing besides the proof changed
pub record EngineStartsChecking {W L : Type 0} {G : Ghosts L} (seen : W → Writer) (old new : Engine W L G) : Type 0 where
  pub going : engine_has_failed old ≡ false
  pub first : is_used old ≡ false
  pub begun : has_begun (steps_in old) ≡ false
  pub target : engine_target seen new ≡ engine_target seen old
  pub checks : proofs.StartsChecker (proof_in old) (proof_in new)
  pub asked : has_asked (proof_in new) ≡ has_asked (proof_in old)
  pub same : OnlyProofDiffers old new

-- `EngineEnables seen r old new` holds if `r` is the result of enabling the own checker: enabled, or refused after an
-- earlier failure, or refused as `TooLate` if the solver is used or a step other than the end of a proof was made
abbrev pub EngineEnables : {W L : Type 0} {G : Ghosts L} → (W → Writer) → Result (Unit {0}) SolverError → Engine W L G → Engine W L G → Type 0
EngineEnables seen (Ok x) old new = EngineStartsChecking seen old new
EngineEnables seen (Err errors.HasFailed) old new = EngineRefuses old new (engine_has_failed old ≡ true)
EngineEnables seen (Err errors.TooLate) old new = EngineRefuses old new ((engine_has_failed old ≡ false) × ((is_used old ≡ true) ⊎ (has_begun (steps_in old) ≡ true)))
EngineEnables seen (Err e) old new = ⊥

-- `HasMoreListeners more old new` holds if the listeners now are the earlier ones and then `more`; if the checker had
-- missed a step, it was restarted, and the earlier ones are in the state that they had reached
pub record HasMoreListeners {W L : Type 0} {G : Ghosts L} (more : List L) (old new : Engine W L G) : Type 0 where
  pub before : List L
  pub listed : ListenersAtRestart (proof_in old) before
  pub listening : proof_listeners (proof_in new) ≡ Some (before ++ more)

-- `GainsListener seen processor old new` holds if `processor` was added after the earlier listeners of the own checker
-- of an unused solver; all steps before are ends of proofs, and nothing besides the proof changed
pub record GainsListener {W L : Type 0} {G : Ghosts L} (seen : W → Writer) (processor : L) (old new : Engine W L G) : Type 0 where
  pub going : engine_has_failed old ≡ false
  pub first : is_used old ≡ false
  pub begun : has_begun (steps_in old) ≡ false
  pub steps : steps_in new ≡ steps_in old
  pub target : engine_target seen new ≡ engine_target seen old
  pub listens : HasMoreListeners (processor ∷ []) old new × (has_missed_step (proof_in new) ≡ false)
  pub asked : has_asked (proof_in new) ≡ has_asked (proof_in old)
  pub same : OnlyProofDiffers old new

-- `EngineAddListenerOutOfMemory seen old new` holds if memory ran out while a listener was added: it isn't in the list,
-- the call failed and every later call does, but there is an own checker now; steps and target are unchanged
pub record EngineAddListenerOutOfMemory {W L : Type 0} {G : Ghosts L} (seen : W → Writer) (old new : Engine W L G) : Type 0 where
  pub going : engine_has_failed old ≡ false
  pub first : is_used old ≡ false
  pub begun : has_begun (steps_in old) ≡ false
  pub failed : engine_has_failed new ≡ true
  pub steps : steps_in new ≡ steps_in old
  pub target : engine_target seen new ≡ engine_target seen old
  pub listens : HasMoreListeners [] old new
  pub clock : schedule_in new ≡ schedule_in old

-- `EngineAddsProcessor seen r processor old new` holds if `r` is the result of adding the listener `processor`: added
-- last, or refused after an earlier failure, or refused as `TooLate` (see `EngineEnables`), or memory ran out
abbrev pub EngineAddsProcessor : {W L : Type 0} {G : Ghosts L} → (W → Writer) → Result (Unit {0}) SolverError → L → Engine W L G → Engine W L G → Type 0
EngineAddsProcessor seen (Ok x) processor old new = GainsListener seen processor old new
EngineAddsProcessor seen (Err errors.HasFailed) processor old new = EngineRefuses old new (engine_has_failed old ≡ true)
EngineAddsProcessor seen (Err errors.TooLate) processor old new = EngineRefuses old new ((engine_has_failed old ≡ false) × ((is_used old ≡ true) ⊎ (has_begun (steps_in old) ≡ true)))
EngineAddsProcessor seen (Err errors.OutOfMemory) processor old new = EngineAddListenerOutOfMemory seen old new
EngineAddsProcessor seen (Err e) processor old new = ⊥

-- `EngineCloseReturnsTarget seen given old new` holds if the open target was closed after the step `End` and is
-- returned as `given`, with the text of all steps since it was opened; the own checker has received all steps and
-- announced everything
pub record EngineCloseReturnsTarget {W L : Type 0} {G : Ghosts L} (seen : W → Writer) (given : W) (old new : Engine W L G) : Type 0 where
  pub going : engine_has_failed old ≡ false
  pub whole : SolverInvariant new
  pub does : ChangesScriptState (known_names old) (known_names new) (steps_in old) (steps_in new) (λ j. j) (λ j. Finish ∷ [])
  pub closes : ClosesOpenTarget seen given (proof_in old) (proof_in new)
  -- a target that was opened before any step other than ends of proofs has received the text of steps that a checker
  -- accepts
  pub certificate : (f : ProofFormat) (from : Writer) (before : List Step) → has_begun before ≡ false → WroteSince seen f from before (proof_in old) → ReceivedAcceptedSteps f from (seen given) before (steps_in new)
  -- the DRAT lines of the steps are a derivation, and refute the added clauses if these are known to be unsatisfiable
  pub derives : IsDratDerivation (steps_in new)
  pub refutes : answer_in old ≡ states.Unsat → RefutesByUnits (present_clauses (steps_in new)) []
  pub same : OnlyProofDiffers old new

-- `EngineCloseWithoutTarget seen old new` holds if no target was open when a proof was to be closed; no step was made,
-- and nothing besides the proof changed
pub record EngineCloseWithoutTarget {W L : Type 0} {G : Ghosts L} (seen : W → Writer) (old new : Engine W L G) : Type 0 where
  pub going : engine_has_failed old ≡ false
  pub closes : ClosesNoTarget seen (proof_in old) (proof_in new)
  pub same : OnlyProofDiffers old new

-- `CloseTargetFailed seen old new` holds if the target failed while the text of the last step, `End`, was written or
-- flushed; every later call fails, and the schedule is unchanged
pub record CloseTargetFailed {W L : Type 0} {G : Ghosts L} (seen : W → Writer) (old new : Engine W L G) : Type 0 where
  pub going : engine_has_failed old ≡ false
  pub failed : engine_has_failed new ≡ true
  pub fails : FailsToEmit seen (End ∷ []) (proof_in old) (proof_in new)
  pub clock : schedule_in new ≡ schedule_in old

-- `CloseOutOfMemory seen old new` holds if memory ran out while a proof was closed: before any step, or in the own
-- checker after the step `End`; every later call fails, and the schedule is unchanged
pub record CloseOutOfMemory {W L : Type 0} {G : Ghosts L} (seen : W → Writer) (old new : Engine W L G) : Type 0 where
  pub going : engine_has_failed old ≡ false
  pub failed : engine_has_failed new ≡ true
  pub adds : EmitsExactly seen [] (proof_in old) (proof_in new) ⊎ FailsCheck seen checks.OutOfMemory (End ∷ []) (proof_in old) (proof_in new)
  pub loss : MissesOnlyByFault errors.OutOfMemory (proof_in old) (proof_in new)
  pub clock : schedule_in new ≡ schedule_in old

-- `CloseCheckerFailed seen fault old new` holds if the solver's own checker failed with `fault` after the step `End`
-- was made; every later call fails, and the schedule is unchanged
pub record CloseCheckerFailed {W L : Type 0} {G : Ghosts L} (seen : W → Writer) (fault : CheckFault) (old new : Engine W L G) : Type 0 where
  pub going : engine_has_failed old ≡ false
  pub failed : engine_has_failed new ≡ true
  pub fails : FailsCheck seen fault (End ∷ []) (proof_in old) (proof_in new)
  pub clock : schedule_in new ≡ schedule_in old

-- `EngineClosesProof seen r old new` holds if `r` is the result of closing a proof: the target is returned, or none was
-- open, or the call was refused after an earlier failure, or the target, memory or the own checker failed now
abbrev pub EngineClosesProof : {W L : Type 0} {G : Ghosts L} → (W → Writer) → Result (Option W) SolverError → Engine W L G → Engine W L G → Type 0
EngineClosesProof seen (Ok None) old new = EngineCloseWithoutTarget seen old new
EngineClosesProof seen (Ok (Some given)) old new = EngineCloseReturnsTarget seen given old new
EngineClosesProof seen (Err errors.HasFailed) old new = EngineRefuses old new (engine_has_failed old ≡ true)
EngineClosesProof seen (Err (errors.ProofIoError cause)) old new = CloseTargetFailed seen old new
EngineClosesProof seen (Err errors.OutOfMemory) old new = CloseOutOfMemory seen old new
EngineClosesProof seen (Err errors.CounterEnd) old new = CloseCheckerFailed seen checks.CounterEnd old new
EngineClosesProof seen (Err (errors.ProofProcessorError cause)) old new = CloseCheckerFailed seen (checks.Processor cause) old new
EngineClosesProof seen (Err e) old new = ⊥
