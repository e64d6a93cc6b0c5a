-- What a call means for the solver's own checker, as callers see it.
use Rattle.std.proofs.Common.{ℕ, ◌≡◌, inl, inr, ap, Bool, true, false, Option, Some, None, Result, Ok, Err, List}
use Rattle.std.proofs.lemmas.Bool.{true≢false}
use Rattle.std.proofs.Math.Logic.{∥∥₁_elim, ∥∥₁_prop}
use Rattle.std.specs.Prelude.{IfOk, IfErr, MatchOption, is_some}
use Rattle.std.specs.Global.{Vec}
use Rattle.anyhow.specs.declared.error.Error.{Error}
use Rattle.sat_base.specs.device.Device.{Writer}
use Rattle.sat_base.specs.steps.Steps.{Step}
use Rattle.sat_checker.specs.announcements.Announcements.{Notice}
use Rattle.sat_checker.specs.declared.processing.ProofProcessor.{Ghosts}
use Rattle.sat_checker.specs.listeners.ProcessingView.{listeners_of}
use Rattle.sat_checker.specs.matching.Expected.{Unknown, Expected}
use Rattle.sat_base.specs.script.ScriptState.{ScriptState}
use Rattle.sat_solver.specs.cdcl.Faults as faults
use Rattle.sat_solver.specs.cdcl.StepEffects.{EmitsUpToFault}
use Rattle.sat_solver.specs.declared.error.SolverError.{SolverError}
use Rattle.sat_solver.specs.declared.error.SolverError.TheVariants as errors
use Rattle.sat_solver.specs.declared.proof.checker.Checked.{Checked}
use Rattle.sat_solver.specs.declared.proof.emitted.CheckFault.{CheckFault}
use Rattle.sat_solver.specs.declared.proof.emitted.CheckFault.TheVariants as checks
use Rattle.sat_solver.specs.declared.proof.emitted.EmittedSteps.{EmittedSteps}
use Rattle.sat_solver.specs.declared.solver.Engine.{Engine}
use Rattle.sat_solver.specs.proof.Checked.{listeners_of_checked}
use Rattle.sat_solver.specs.proof.EmittedView.{HasListeners, IsUpToDate, LastWidthIsIn, EmittedListenersAtRestart, OwnCheckerFailed, listed_in}
use Rattle.sat_solver.specs.proof.ProofView as proofs
use Rattle.sat_solver.specs.proof.ProofView.{has_missed_step, steps_of}
use Rattle.sat_solver.specs.solver.Adding as adding
use Rattle.sat_solver.specs.solver.Answering as answering
use Rattle.sat_solver.specs.solver.Calls as calls
use Rattle.sat_solver.specs.solver.Naming as naming
use Rattle.sat_solver.specs.solver.Proving as proving
use Rattle.sat_solver.specs.facade.Inner.{own_checker}
use Rattle.sat_solver.specs.facade.Checking.{AllStepsReported, CheckerAfter, CheckerAfterAsk, CheckerAfterClosing, CheckerAfterError, CheckerFailed, FailedAskChecks, FailsAfterHearing, FlushFails, KeepsWidth, ReportsAsk}
use Rattle.sat_solver.specs.facade.Proving.{own_listeners}
use Rattle.sat_solver.proofs.lemmas.facade.Seen.{v, w}

-- a checker that was set to this width last
width_seen : {L : Type 0} (bits : ℕ) (o : Option (Checked L)) → LastWidthIsIn bits o → MatchOption (own_checker o) (Unit {0}) (λ own. own.width ≡ bits)
width_seen bits None h = tt
width_seen bits (Some own) h = h

-- a checker that has announced what was pending
reported_seen : {L : Type 0} (lost : Bool) (o : Option (Checked L)) → IsUpToDate lost o → MatchOption (own_checker o) (Unit {0}) (λ own. (lost ≡ false) × (own.has_conflict ≡ false))
reported_seen lost None h = tt
reported_seen lost (Some own) h = (h.0, ap is_some h.1)

-- a checker that failed
failure_seen : {L : Type 0} (takes : L → Notice → Result Unit Error → L → Type 0) (fault : CheckFault) (o : Option (Checked L)) (added : List L) (steps : List Step) → OwnCheckerFailed takes fault o added steps → MatchOption (listed_in o added) ⊥ (λ x. ∥ FailsAfterHearing takes x steps fault ∥₁ × HasListeners fault (Some x))
failure_seen takes fault None added steps h = h
failure_seen takes fault (Some own) added steps h = (∥∥₁_elim h.0 ∥∥₁_prop (λ heard. ∣ record { now = listeners_of (listeners_of_checked own); heard = heard } ∣₁), h.1)

-- the listeners of a checker that has missed no step
pub begun_seen : {L : Type 0} {G : Ghosts L} (lost : Bool) (m : EmittedSteps L G) (o : Option (List L)) (begun : List L) → lost ≡ false → EmittedListenersAtRestart lost m o begun → begun ≡ own_listeners o
begun_seen true m o begun e h = absurd (true≢false e)
begun_seen false m None begun e h = h
begun_seen false m (Some added) begun e h = h

-- `i` is the script state before a call, and `k` the one after it
module _ {W L : Type 0} {G : Ghosts L} (seen : W → Writer) (i k : ScriptState) where
  failed : (fault : CheckFault) (b : Engine W L G) → proofs.CheckerFailed fault b.context.proof → CheckerFailed G.takes fault (w seen i k b)
  failed fault b h = failure_seen G.takes fault b.context.proof.made.own b.context.proof.made.roll.items (steps_of b.context.proof) h

  pub keeps_width : (a b : Engine W L G) → ((steps_of b.context.proof ≡ steps_of a.context.proof → ⊥) → proofs.IsAtWidth b.context.proof) → KeepsWidth (v seen i k a) (w seen i k b)
  keeps_width a b h made going = width_seen b.context.proof.counting.bits b.context.proof.made.own (h made going)

  reported : (b : Engine W L G) → proofs.AllStepsReported b.context.proof → AllStepsReported (w seen i k b)
  reported b h = reported_seen (has_missed_step b.context.proof) b.context.proof.made.own h

  kept : (a b : Engine W L G) → b ≡ a → has_missed_step b.context.proof ≡ has_missed_step a.context.proof
  kept a b h = ap (λ (s : Engine W L G). has_missed_step s.context.proof) h

  after_error : (e : SolverError) (steps : List Step) (a b : Engine W L G) → faults.MissesOnlyByFault e a.context.proof b.context.proof → EmitsUpToFault {A = Unit {0}} seen (Err e) steps a.context.proof b.context.proof → CheckerAfterError G.takes e (v seen i k a) (w seen i k b)
  after_error (errors.ProofIoError cause) steps a b loss h = tt
  after_error (errors.ProofProcessorError cause) steps a b loss h = failed (checks.Processor cause) b h.why
  after_error errors.CounterEnd steps a b loss h = failed checks.CounterEnd b h.why
  after_error errors.OutOfMemory steps a b loss h = elim loss [
    | inl x ↦ inl x
    | inr x ↦ inr (failed checks.OutOfMemory b x)
  ]
  after_error e steps a b loss h = loss

  names_error : (full : Type 0) (e : SolverError) (a b : Engine W L G) → adding.EngineNameCallFailsOr full seen e a b → CheckerAfterError G.takes e (v seen i k a) (w seen i k b)
  names_error full e a b h = after_error e h.breaks.steps a b h.breaks.loss h.breaks.went

  pub clause_checked : (r : Result (Unit {0}) SolverError) (a b : Engine W L G) (user : List ℕ) → adding.EngineAddsClause seen r a b user → CheckerAfter G.takes r (v seen i k a) (w seen i k b)
  clause_checked (Ok x) a b user h = keeps_width a b h.did.width
  clause_checked (Err errors.WitnessVariable) a b user h = kept a b h.same
  clause_checked (Err errors.NotInDrat) a b user h = kept a b h.same
  clause_checked (Err errors.VariableLimit) a b user h = kept a b h.same
  clause_checked (Err errors.HasFailed) a b user h = kept a b h.same
  clause_checked (Err e) a b user h = names_error _ e a b h.2

  pub assumptions_checked : (r : Result (Unit {0}) SolverError) (a b : Engine W L G) (user : List ℕ) → adding.EngineAssumesOrRefuses seen r a b user → CheckerAfter G.takes r (v seen i k a) (w seen i k b)
  assumptions_checked (Ok x) a b user h = keeps_width a b (h.did Unknown).width
  assumptions_checked (Err errors.WitnessVariable) a b user h = kept a b h.same
  assumptions_checked (Err errors.NotInDrat) a b user h = kept a b h.same
  assumptions_checked (Err errors.VariableLimit) a b user h = kept a b h.same
  assumptions_checked (Err errors.HasFailed) a b user h = kept a b h.same
  assumptions_checked (Err e) a b user h = names_error _ e a b h.2

  pub mode_checked : (r : Result (Unit {0}) SolverError) (a b : Engine W L G) (user : ℕ) (judge : ScriptState → ScriptState) (due : ScriptState → List Expected) (IsAllowedStep : List Step → Step → Type 0) → naming.EngineChangesMode seen r a b user judge due IsAllowedStep → CheckerAfter G.takes r (v seen i k a) (w seen i k b)
  mode_checked (Ok x) a b user judge due IsAllowedStep h = keeps_width a b h.1.did.width
  mode_checked (Err errors.AssumedVariable) a b user judge due IsAllowedStep h = kept a b h.same
  mode_checked (Err errors.VariableLimit) a b user judge due IsAllowedStep h = kept a b h.same
  mode_checked (Err errors.HasFailed) a b user judge due IsAllowedStep h = kept a b h.same
  mode_checked (Err e) a b user judge due IsAllowedStep h = names_error _ e a b h.2

  pub new_checked : (r : Result ℕ SolverError) (a b : Engine W L G) → naming.EngineNewNameResult seen r a b → CheckerAfter G.takes r (v seen i k a) (w seen i k b)
  new_checked (Ok user) a b h = keeps_width a b h.1.did.width
  new_checked (Err errors.VariableLimit) a b h = kept a b h.same
  new_checked (Err errors.HasFailed) a b h = kept a b h.same
  new_checked (Err e) a b h = names_error _ e a b h.1

  pub unnamed_checked : (e : SolverError) (a b : Engine W L G) → naming.EngineObserveFails seen e a b → CheckerAfterError G.takes e (v seen i k a) (w seen i k b)
  unnamed_checked errors.VariableLimit a b h = absurd h
  unnamed_checked errors.HasFailed a b h = kept a b h.same
  unnamed_checked e a b h = names_error _ e a b h

  pub observing_checked : (r : Result (Vec ℕ) SolverError) (a b : Engine W L G) → IfOk r (λ users. naming.EngineObserved seen a b users.items) → IfErr r (λ e. naming.EngineObserveFails seen e a b) → CheckerAfter G.takes r (v seen i k a) (w seen i k b)
  observing_checked (Ok users) a b h x = keeps_width a b h.steps.width
  observing_checked (Err e) a b h x = unnamed_checked e a b x

  -- ASKS

  ask_reported : (a b : Engine W L G) → calls.EngineAnswered seen a b → ReportsAsk (v seen i k a) (w seen i k b)
  ask_reported a b h = (keeps_width a b h.did.width, reported b h.reported)

  flush_failed : (e : SolverError) (a b : Engine W L G) → answering.EngineFlushFails seen e a.context.proof b.context.proof → FlushFails G.takes e (w seen i k b)
  flush_failed (errors.ProofIoError cause) a b h = tt
  flush_failed (errors.ProofProcessorError cause) a b h = failed (checks.Processor cause) b h.why
  flush_failed errors.CounterEnd a b h = failed checks.CounterEnd b h.why
  flush_failed errors.OutOfMemory a b h = failed checks.OutOfMemory b h.why
  flush_failed e a b h = absurd h

  ask_failed : (e : SolverError) (a b : Engine W L G) → calls.EngineEndsInFailure seen e a b → FailedAskChecks G.takes e (v seen i k a) (w seen i k b)
  ask_failed e a b h = record {
    after = after_error e h.breaks.steps a b h.breaks.loss h.breaks.went;
    known = λ x. flush_failed e a b (h.known x);
  }

  pub ask_checked : (r : Result Bool SolverError) (a b : Engine W L G) → calls.EngineSolves seen r a b → CheckerAfterAsk G.takes r (v seen i k a) (w seen i k b)
  ask_checked (Ok sat) a b h = ask_reported a b h.0
  ask_checked (Err errors.Interrupted) a b h = ask_reported a b h.0
  ask_checked (Err errors.HasFailed) a b h = kept a b h.same
  ask_checked (Err e) a b h = ask_failed e a b h

  -- CLOSING

  pub closing_checked : (r : Result (Option W) SolverError) (a b : Engine W L G) → proving.EngineClosesProof seen r a b → CheckerAfterClosing G.takes r (v seen i k a) (w seen i k b)
  closing_checked (Ok None) a b h = tt
  closing_checked (Ok (Some given)) a b h = reported b h.closes.reported
  closing_checked (Err errors.HasFailed) a b h = (kept a b h.same, tt)
  closing_checked (Err (errors.ProofIoError cause)) a b h = (tt, tt)
  closing_checked (Err errors.OutOfMemory) a b h = (
    elim h.loss [
      | inl x ↦ inl x
      | inr x ↦ inr (failed checks.OutOfMemory b x)
    ],
    elim h.adds [
      | inl x ↦ inl x.history
      | inr x ↦ inr (failed checks.OutOfMemory b x.why)
    ],
  )
  closing_checked (Err errors.CounterEnd) a b h = (failed checks.CounterEnd b h.fails.why, tt)
  closing_checked (Err (errors.ProofProcessorError cause)) a b h = (failed (checks.Processor cause) b h.fails.why, tt)
  closing_checked (Err e) a b h = absurd h
