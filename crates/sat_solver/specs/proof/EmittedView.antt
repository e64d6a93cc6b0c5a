-- All steps that a solver has made, and its own checker.
use Rattle.std.specs.Prelude.{ℕ, ◌≡◌, ◌⊎◌, true, false, Bool, is_some, Option, None, Some, List, [], ◌∷◌, ◌++◌, Result, Ok, Err}
use Rattle.anyhow.specs.declared.error.Error.{Error}
use Rattle.sat_base.specs.steps.Steps.{Step}
use Rattle.sat_checker.specs.CheckerView.{kernel_of}
use Rattle.sat_checker.specs.KernelView.{KernelHasNoPendingConflict}
use Rattle.sat_checker.specs.announcements.Announcements.{Notice}
use Rattle.sat_checker.specs.listeners.ProcessingView.{listeners_of}
use Rattle.sat_checker.specs.listeners.Notifying.{Listeners}
use Rattle.sat_checker.specs.declared.processing.Nobody.{Nobody}
use Rattle.sat_checker.specs.declared.processing.ProofProcessor.{Ghosts}
use Rattle.sat_solver.specs.proof.ListenerErrors.{IsListenerError}
use Rattle.sat_solver.specs.proof.Checked.{FailsWhileHeard, ProcessorsHeard, ProcessorsHeardAll, listeners_of_checked}
use Rattle.sat_solver.specs.declared.proof.checker.Checked.{Checked}
use Rattle.sat_solver.specs.declared.proof.emitted.EmittedSteps.{EmittedSteps}
use Rattle.sat_solver.specs.declared.proof.emitted.CheckFault.{CheckFault}
use Rattle.sat_solver.specs.declared.proof.emitted.CheckFault.TheVariants as checks

-- the processors `added` if there is a checker, otherwise `None`
abbrev pub listed_in : {L : Type 0} → Option (Checked L) → List L → Option (List L)
listed_in None added = None
listed_in (Some own) added = Some added

-- the listeners of the solver's own checker, each as it was added, in order; `None` without a checker
abbrev pub emitted_listeners : {L : Type 0} {G : Ghosts L} → EmittedSteps L G → Option (List L)
emitted_listeners m = listed_in m.own m.roll.items

-- `emitted_is_checked m` is true if the solver has its own checker
abbrev pub emitted_is_checked : {L : Type 0} {G : Ghosts L} → EmittedSteps L G → Bool
emitted_is_checked m = is_some (emitted_listeners m)

-- `emitted_has_missed_step m` is true if a step was made that the checker has not received
abbrev pub emitted_has_missed_step : {L : Type 0} {G : Ghosts L} → EmittedSteps L G → Bool
emitted_has_missed_step m = m.lost

-- `IsUpToDate lost own` holds if there is no own checker, or it has missed no step (`lost` is false), and no unit
-- conflict is pending in it
abbrev pub IsUpToDate : {L : Type 0} → Bool → Option (Checked L) → Type 0
IsUpToDate lost None = Unit {0}
IsUpToDate lost (Some own) = (lost ≡ false) × KernelHasNoPendingConflict (kernel_of own.checker)

-- `EmittedIsReported m` holds if there is no own checker, or it has received every step, and no unit conflict is
-- pending in it
abbrev pub EmittedIsReported : {L : Type 0} {G : Ghosts L} → EmittedSteps L G → Type 0
EmittedIsReported m = IsUpToDate m.lost m.own

-- `LastWidthIsIn bits own` holds if there is no checker, or it was last set to the width `bits`
abbrev pub LastWidthIsIn : {L : Type 0} → ℕ → Option (Checked L) → Type 0
LastWidthIsIn bits None = Unit {0}
LastWidthIsIn bits (Some own) = own.bits ≡ bits

-- `LastWidthIs bits m` holds if there is no checker, or it has missed a step, or it was last set to the width `bits`
abbrev pub LastWidthIs : {L : Type 0} {G : Ghosts L} → ℕ → EmittedSteps L G → Type 0
LastWidthIs bits m = m.lost ≡ false → LastWidthIsIn bits m.own

-- `HasListeners fault listening` holds if `fault` is not a listener's, or the list of listeners isn't empty
abbrev pub HasListeners : {L : Type 0} → CheckFault → Option (List L) → Type 0
HasListeners checks.OutOfMemory listening = Unit {0}
HasListeners checks.CounterEnd listening = Unit {0}
HasListeners (checks.Processor cause) listening = listening ≡ Some [] → ⊥

module _ {L : Type 0} (takes : L → Notice → Result Unit Error → L → Type 0) where
  -- `OwnCheckerFailed fault own added steps` holds if there is a checker, with the listeners `added`, and it failed
  -- with `fault` at one of `steps` or at a pending unit conflict; if `fault` is a listener's, `added` isn't empty
  abbrev pub OwnCheckerFailed : CheckFault → Option (Checked L) → (added : List L) → List Step → Type 0
  OwnCheckerFailed fault None added steps = ⊥
  OwnCheckerFailed fault (Some own) added steps = ∥ FailsWhileHeard takes added (listeners_of (listeners_of_checked own)) steps fault ∥₁ × HasListeners fault (Some added)

  -- `AddedAfterHearing added given steps` holds if `given` are the processors `added`, in the state after they have
  -- heard what the checker announced of `steps`, possibly not all of it
  pub record AddedAfterHearing (added given : List L) (steps : List Step) : Type 0 where
    pub now : Listeners L Nobody
    pub are : now.processors ≡ given
    pub heard : ProcessorsHeard takes added now steps

  -- `AddedAfterHearingAll added given steps` holds if `given` are the processors `added`, in the state after they have
  -- heard every announcement of all of `steps`; a unit conflict may still be pending
  pub record AddedAfterHearingAll (added given : List L) (steps : List Step) : Type 0 where
    pub now : Listeners L Nobody
    pub are : now.processors ≡ given
    pub heard : ProcessorsHeardAll takes added now steps

  -- `ReturnsNotifiedIfChecked listening given steps` holds if `given` are the listeners `listening`, in the state after
  -- they have heard every announcement of `steps`; without a checker, `given` is empty
  abbrev pub ReturnsNotifiedIfChecked : Option (List L) → (given : List L) → List Step → Type 0
  ReturnsNotifiedIfChecked None given steps = given ≡ []
  ReturnsNotifiedIfChecked (Some added) given steps = ∥ AddedAfterHearingAll added given steps ∥₁

  -- `ReturnsIfChecked listening given steps` holds if `given` are the listeners `listening`, in the state after what
  -- they have heard of `steps`, possibly not all of it; without a checker, `given` is empty
  abbrev pub ReturnsIfChecked : Option (List L) → (given : List L) → List Step → Type 0
  ReturnsIfChecked None given steps = given ≡ []
  ReturnsIfChecked (Some added) given steps = ∥ AddedAfterHearing added given steps ∥₁

-- `EmittedCheckerFailed fault m` holds if the solver's own checker failed with `fault` at one of the steps made or at a
-- pending unit conflict; a listener's fault was returned by one of the listeners
abbrev pub EmittedCheckerFailed : {L : Type 0} {G : Ghosts L} → CheckFault → EmittedSteps L G → Type 0
EmittedCheckerFailed {G = G} fault m = OwnCheckerFailed G.takes fault m.own m.roll.items m.history.steps

-- `EmittedReturnsListeners m given` holds if `given` are the listeners of the own checker, in the state after what they
-- have heard, possibly not all announcements; without a checker, `given` is empty
abbrev pub EmittedReturnsListeners : {L : Type 0} {G : Ghosts L} → EmittedSteps L G → (given : List L) → Type 0
EmittedReturnsListeners {G = G} m given = ReturnsIfChecked G.takes (emitted_listeners m) given m.history.steps

-- `EmittedReturnsNotifiedListeners m given` holds if the checker has missed a step, or `given` are its listeners in the
-- state after they have heard every announcement of the steps; empty without a checker
abbrev pub EmittedReturnsNotifiedListeners : {L : Type 0} {G : Ghosts L} → EmittedSteps L G → (given : List L) → Type 0
EmittedReturnsNotifiedListeners {G = G} m given = m.lost ≡ false → ReturnsNotifiedIfChecked G.takes (emitted_listeners m) given m.history.steps

-- `CheckerCallResult result m` holds if `result` is `Ok`, or a fault with which the own checker failed; then a
-- listener's error, if it is one, is stored
abbrev pub CheckerCallResult : {L : Type 0} {G : Ghosts L} → Result (Unit {0}) CheckFault → EmittedSteps L G → Type 0
CheckerCallResult (Ok x) m = Unit {0}
CheckerCallResult (Err fault) m = EmittedCheckerFailed fault m × IsListenerError fault m.complaint

-- `CheckerErrorAfterMissedStep lost fault m` holds if the own checker failed with `fault`, and a listener's error is
-- stored; or it had missed a step before (`lost`), and `fault` is out of memory
abbrev pub CheckerErrorAfterMissedStep : {L : Type 0} {G : Ghosts L} → (lost : Bool) → CheckFault → EmittedSteps L G → Type 0
CheckerErrorAfterMissedStep lost fault m = (EmittedCheckerFailed fault m × IsListenerError fault m.complaint) ⊎ ((lost ≡ true) × (fault ≡ checks.OutOfMemory))

-- `CheckerResultAfterMissedStep lost result m` holds if `result` is `Ok`, or a fault with which the own checker failed,
-- or out of memory if it had missed a step before (`lost`)
abbrev pub CheckerResultAfterMissedStep : {L : Type 0} {G : Ghosts L} → (lost : Bool) → Result (Unit {0}) CheckFault → EmittedSteps L G → Type 0
CheckerResultAfterMissedStep lost (Ok x) m = Unit {0}
CheckerResultAfterMissedStep lost (Err fault) m = CheckerErrorAfterMissedStep lost fault m

-- the steps and checker after the listener's error was reported, which is no longer stored
abbrev pub emitted_without_listener_error : {L : Type 0} {G : Ghosts L} → EmittedSteps L G → EmittedSteps L G
emitted_without_listener_error m = record m { complaint = None }

-- `EmittedEffect step old new` holds if exactly the step `step` was made, and the list of listeners is unchanged
pub record EmittedEffect {L : Type 0} {G : Ghosts L} (step : Step) (old new : EmittedSteps L G) : Type 0 where
  pub steps : new.history.steps ≡ step ∷ old.history.steps
  pub listening : emitted_listeners new ≡ emitted_listeners old

-- `EmittedListenersAtRestart lost m listening begun` holds if `begun` are the listeners with which checking begins
-- anew: none without a checker before, `listening` as they were added or, if a step was missed (`lost`), in the state
-- that they now have
abbrev pub EmittedListenersAtRestart : {L : Type 0} {G : Ghosts L} → Bool → EmittedSteps L G → Option (List L) → List L → Type 0
EmittedListenersAtRestart lost m None begun = begun ≡ []
EmittedListenersAtRestart false m (Some added) begun = begun ≡ added
EmittedListenersAtRestart true m (Some added) begun = EmittedReturnsListeners m begun

-- `EmittedStartsChecker old new` holds if there is a checker now that has missed no step; it has the earlier listeners,
-- and no step was made
pub record EmittedStartsChecker {L : Type 0} {G : Ghosts L} (old new : EmittedSteps L G) : Type 0 where
  pub steps : new.history.steps ≡ old.history.steps
  pub begun : List L
  pub listening : emitted_listeners new ≡ Some begun
  pub listed : EmittedListenersAtRestart old.lost old (emitted_listeners old) begun
  pub taking : emitted_has_missed_step new ≡ false

-- `EmittedHasOneMoreListener processor old new` holds if there was a checker, and it now has the listener `processor`
-- after the earlier ones, and has missed no step
pub record EmittedHasOneMoreListener {L : Type 0} {G : Ghosts L} (processor : L) (old new : EmittedSteps L G) : Type 0 where
  pub before : List L
  pub listened : emitted_listeners old ≡ Some before
  pub listening : emitted_listeners new ≡ Some (before ++ processor ∷ [])
  pub taking : emitted_has_missed_step new ≡ false

-- `EmittedAddListenerResult result processor old new` holds if `result` is that of adding the listener `processor`: it
-- is added last; or memory ran out, and the listeners are unchanged
abbrev pub EmittedAddListenerResult : {L : Type 0} {G : Ghosts L} → Result (Unit {0}) CheckFault → L → EmittedSteps L G → EmittedSteps L G → Type 0
EmittedAddListenerResult (Ok x) processor old new = EmittedHasOneMoreListener processor old new
EmittedAddListenerResult (Err checks.OutOfMemory) processor old new = emitted_listeners new ≡ emitted_listeners old
EmittedAddListenerResult (Err checks.CounterEnd) processor old new = ⊥
EmittedAddListenerResult (Err (checks.Processor cause)) processor old new = ⊥
