-- A solver's own checker. It receives the steps of a proof in bytes, except for the ends of proofs. Lists of steps have
-- the newest first.
use Rattle.std.specs.Prelude.{ℕ, ◌≡◌, ◌⊎◌, Bool, true, false, not, ◌||◌, Option, None, Some, List, [], ◌∷◌, ◌++◌, Result, Ok, Err}
use Rattle.anyhow.specs.declared.error.Error.{Error}
use Rattle.sat_base.specs.steps.Steps.{Step, End}
use Rattle.sat_checker.specs.CheckerView.{CheckerView, HasAccepted, kernel_of, view_of}
use Rattle.sat_checker.specs.KernelView.{KernelHasNoPendingConflict, kernel_has_failed}
use Rattle.sat_checker.specs.announcements.Announcements.{Notice}
use Rattle.sat_checker.specs.listeners.ProcessingView.{listeners_of}
use Rattle.sat_checker.specs.listeners.Notifying.{Listeners}
use Rattle.sat_checker.specs.declared.error.CheckerError.{CheckerError}
use Rattle.sat_checker.specs.declared.error.CheckerError.TheVariants as errors
use Rattle.sat_checker.specs.declared.processing.Nobody.{Nobody}
use Rattle.sat_checker.specs.declared.processing.Processing.{Processing}
use Rattle.sat_solver.specs.session.OrderedSteps.{prepend_if}
use Rattle.sat_solver.specs.proof.Listening.{AreJustListeners, Receives, HeardAll, HasHeard, CheckerFailedBecause}
use Rattle.sat_solver.specs.session.Session.{AreAllowedSteps}
use Rattle.sat_solver.specs.proof.Counting.{width_change, written_for}
use Rattle.sat_solver.specs.proof.Widths.{IsNarrowedTo, KeepsWidth, narrowed}
use Rattle.sat_solver.specs.declared.proof.checker.Checked.{Checked}
use Rattle.sat_solver.specs.declared.proof.emitted.CheckFault.{CheckFault}
use Rattle.sat_solver.specs.declared.proof.emitted.CheckFault.TheVariants as checks

-- `is_end step` is true if the step ends a proof; the checker does not receive such steps
abbrev pub is_end : Step → Bool
is_end End = true
is_end step = false

-- the list of steps without ends of proofs
abbrev pub unended : List Step → List Step
unended [] = []
unended (step ∷ earlier) = prepend_if (not (is_end step)) step (unended earlier)

-- `has_begun steps` is true if one of the steps is not the end of a proof
abbrev pub has_begun : List Step → Bool
has_begun [] = false
has_begun (step ∷ earlier) = not (is_end step) || has_begun earlier

-- `CheckerReceives steps given now` holds if `given` are the steps that the checker receives for `steps` (both newest
-- first), starting from width 64; `now` is the last width. Each step is written at its own width, set before it if it
-- has changed; of an end of a proof, only the width is received.
pub data CheckerReceives : List Step → List Step → ℕ → Type 0 where
  none_given : CheckerReceives [] [] 64
  one_given : {steps given : List Step} {before : ℕ} (step : Step) (now : ℕ) → is_end step ≡ false → KeepsWidth step → CheckerReceives steps given before → CheckerReceives (step ∷ steps) (written_for before now step ++ given) now
  end_given : {steps given : List Step} {before : ℕ} (step : Step) (now : ℕ) → is_end step ≡ true → CheckerReceives steps given before → CheckerReceives (step ∷ steps) (width_change before now ++ given) now

-- `CheckerReceivesWidth steps given now` holds if the checker receives `given` for `steps`, and then the change to the
-- width `now` of the next step, if it differs from the width before
pub record CheckerReceivesWidth (steps given : List Step) (now : ℕ) : Type 0 where
  pub before : ℕ
  pub earlier : List Step
  pub cut : CheckerReceives steps earlier before
  pub given_is : given ≡ width_change before now ++ earlier

-- the listeners of the solver's own checker
abbrev pub listeners_of_checked : {L : Type 0} → Checked L → Processing L Nobody
listeners_of_checked own = (view_of own.checker).listeners

-- `oldest_at_width bits steps` is the oldest of `steps`, with only the top `bits` bits of its hashes, or `None` if
-- there is no step. It is the step that a checker which has accepted none of them processes next.
abbrev pub oldest_at_width : ℕ → List Step → Option Step
oldest_at_width bits [] = None
oldest_at_width bits (step ∷ []) = Some (narrowed bits step)
oldest_at_width bits (step ∷ before ∷ earlier) = oldest_at_width bits (before ∷ earlier)

-- `Listened added steps ProcessorsHeard` holds if the checker has accepted `steps` except for some newest, and
-- `ProcessorsHeard` holds for its listeners at the start (exactly `added`), what was written for the accepted steps,
-- and the oldest step not accepted (or `None`)
pub record Listened {L : Type 0} (added : List L) (steps : List Step) (ProcessorsHeard : Processing L Nobody → List Step → (in_hand : Option Step) → Type 0) : Type 0 where
  pub later : List Step
  pub taken : List Step
  pub all : steps ≡ later ++ taken
  pub written : List Step
  pub bits : ℕ
  pub cut : IsNarrowedTo (unended taken) written bits
  pub begun : Processing L Nobody
  pub were : AreJustListeners added begun
  pub heard : ProcessorsHeard begun written (oldest_at_width bits later)

-- `IsCheckerFailure e` holds if `e` is out of memory, an exhausted counter or a listener's error: the only errors that
-- the checker may return for steps that are correct
abbrev pub IsCheckerFailure : CheckerError → Type 0
IsCheckerFailure errors.OutOfMemory = Unit {0}
IsCheckerFailure errors.CounterEnd = Unit {0}
IsCheckerFailure (errors.ProofProcessorError cause) = Unit {0}
IsCheckerFailure errors.CheckFailed = ⊥
IsCheckerFailure errors.HasFailed = ⊥
IsCheckerFailure errors.ProofIncomplete = ⊥
IsCheckerFailure errors.IoError = ⊥
IsCheckerFailure errors.ParseError = ⊥

-- the fault that the solver reports for an error of its checker: `CounterEnd` and a processor's error as they are, any
-- other as `OutOfMemory`
abbrev pub fault_of_failure : CheckerError → CheckFault
fault_of_failure errors.CounterEnd = checks.CounterEnd
fault_of_failure (errors.ProofProcessorError cause) = checks.Processor cause
fault_of_failure e = checks.OutOfMemory

-- `OkOrCheckerFailure result Fed FailsWhileHeard` holds if `result` is `Ok` and `Fed` holds, or it is an error that
-- doesn't reject a step (memory, counters, a listener) and `FailsWhileHeard` holds for the fault that is reported for
-- it
abbrev pub OkOrCheckerFailure : Result (Unit {0}) CheckerError → Type 0 → (CheckFault → Type 0) → Type 0
OkOrCheckerFailure (Ok x) Fed FailsWhileHeard = Fed
OkOrCheckerFailure (Err e) Fed FailsWhileHeard = IsCheckerFailure e × FailsWhileHeard (fault_of_failure e)

module _ {L : Type 0} (takes : L → Notice → Result Unit Error → L → Type 0) where
  -- `IsFedBy Given own added` holds if the checker `own` has accepted all that it received, hasn't failed, and has
  -- notified the processors `added` of it; `Given written width` holds for what it received and its last width
  pub record IsFedBy (Given : List Step → ℕ → Type 0) (own : Checked L) (added : List L) : Type 0 where
    pub written : List Step
    pub cut : Given written own.bits
    pub begun : Processing L Nobody
    pub were : AreJustListeners added begun
    pub valid : HasAccepted (Receives takes) [] begun (view_of own.checker) written
    pub going : kernel_has_failed (kernel_of own.checker) ≡ false

  -- `IsFed own added steps` holds if the checker `own` has received and accepted `steps`, each at the width at which it
  -- was written, has not failed, and has notified the processors `added` of them
  abbrev pub IsFed : Checked L → List L → List Step → Type 0
  IsFed own added steps = IsFedBy (CheckerReceives steps) own added

  -- `ProcessorsHeard added now steps` holds if the processors `added` are now in the state `now`, after they heard what
  -- the checker announced of the accepted ones of `steps`, all of it or up to a fault; some newest ones may not be
  -- accepted
  abbrev pub ProcessorsHeard : (added : List L) (now : Listeners L Nobody) → List Step → Type 0
  ProcessorsHeard added now steps = Listened added steps (λ begun written in_hand. (end : Processing L Nobody) × (listeners_of end ≡ now) × HasHeard takes begun end written)

  -- `ProcessorsHeardAll added now steps` holds if the checker has accepted all of `steps`, and the processors `added`
  -- are now in the state `now`, after they heard every announcement of these steps; a unit conflict may still be
  -- pending
  abbrev pub ProcessorsHeardAll : (added : List L) (now : Listeners L Nobody) → List Step → Type 0
  ProcessorsHeardAll added now steps = (h : Listened added steps (λ begun written in_hand. (end : Processing L Nobody) × (listeners_of end ≡ now) × HeardAll takes begun end written)) × (h.later ≡ [])

  -- `FailsWhileHeard added now steps fault` holds if the checker failed with `fault` at the oldest of `steps` that it
  -- has not accepted or, if it has accepted all, at a pending unit conflict; the processors `added`, which heard what
  -- it announced, are now in the state `now`
  abbrev pub FailsWhileHeard : (added : List L) (now : Listeners L Nobody) → List Step → CheckFault → Type 0
  FailsWhileHeard added now steps fault = Listened added steps (λ begun written in_hand. (end : Processing L Nobody) × (listeners_of end ≡ now) × CheckerFailedBecause takes begun end written in_hand fault)

  -- `AcceptsStepOrFails result old step new` holds if the checker, after any allowed steps that it has accepted,
  -- accepts `step` too if that is allowed, or fails for lack of memory, a counter or a listener; `result` is never an
  -- error because the step is wrong
  abbrev pub AcceptsStepOrFails : Result (Unit {0}) CheckerError → Checked L → Step → Checked L → Type 0
  AcceptsStepOrFails result old step new = (added : List L) (steps : List Step) → AreAllowedSteps (step ∷ steps) → IsFed old added steps
      → OkOrCheckerFailure result (IsFed new added (step ∷ steps)) (FailsWhileHeard added (listeners_of (listeners_of_checked new)) (step ∷ steps))

  -- `ReceivesWidthOrFails result old new` holds if the checker, after any allowed steps that it has accepted, receives
  -- the width of the next step, or fails for lack of memory, a counter or a listener
  abbrev pub ReceivesWidthOrFails : Result (Unit {0}) CheckerError → Checked L → Checked L → Type 0
  ReceivesWidthOrFails result old new = (added : List L) (steps : List Step) → AreAllowedSteps steps → IsFed old added steps → OkOrCheckerFailure result (IsFedBy (CheckerReceivesWidth steps) new added) (FailsWhileHeard added (listeners_of (listeners_of_checked new)) steps)

  -- `SettlesOrFails result old new` holds if, when `result` is `Ok`, the checker has announced a pending unit conflict,
  -- if any; on an error it failed for lack of memory, a counter or a listener
  abbrev pub SettlesOrFails : Result (Unit {0}) CheckerError → Checked L → Checked L → Type 0
  SettlesOrFails result old new = (added : List L) (steps : List Step) → IsFed old added steps
      → OkOrCheckerFailure result (IsFed new added steps × KernelHasNoPendingConflict (kernel_of new.checker)) (FailsWhileHeard added (listeners_of (listeners_of_checked new)) steps)

  -- `FeedsOwnChecker result old step new` holds if the checker, after any accepted steps, accepts `step` whenever it is
  -- allowed, or fails at it or just after it for lack of memory, a counter or a listener
  abbrev pub FeedsOwnChecker : Result (Unit {0}) CheckerError → CheckerView (Processing L Nobody) → Step → CheckerView (Processing L Nobody) → Type 0
  FeedsOwnChecker result old step new =
      (begun : Processing L Nobody) (written : List Step) → HasAccepted (Receives takes) [] begun old written → kernel_has_failed old.kernel ≡ false → AreAllowedSteps (step ∷ written)
      → OkOrCheckerFailure result (HasAccepted (Receives takes) [] begun new (step ∷ written) × (kernel_has_failed new.kernel ≡ false)) (λ fault. CheckerFailedBecause takes begun new.listeners written (Some step) fault ⊎ CheckerFailedBecause takes begun new.listeners (step ∷ written) None fault)

  -- `FedUnless lost own added steps` holds if the own checker, unless it has missed a step (`lost`), has accepted all
  -- of `steps`, and in any case the processors `added` have heard what it announced. Without a checker, `added` is
  -- empty.
  abbrev pub FedUnless : Bool → Option (Checked L) → (added : List L) → List Step → Type 0
  FedUnless lost None added steps = added ≡ []
  FedUnless lost (Some own) added steps = (lost ≡ false → IsFed own added steps) × ProcessorsHeard added (listeners_of (listeners_of_checked own)) steps

  -- `NeverFailsWithoutListeners` holds if a checker without listeners never fails with a processor's error
  abbrev pub NeverFailsWithoutListeners : Type 0
  NeverFailsWithoutListeners = (now : Listeners L Nobody) (steps : List Step) (cause : Error) → FailsWhileHeard [] now steps (checks.Processor cause) → ⊥

  -- `AddsOwnListener result old processor new` holds if `processor` is added after the earlier listeners of a checker
  -- that has received only ends of proofs; or memory runs out, and the earlier listeners remain
  abbrev pub AddsOwnListener : Result (Unit {0}) CheckerError → Checked L → L → Checked L → Type 0
  AddsOwnListener result old processor new = (added : List L) (steps : List Step) → has_begun steps ≡ false → IsFed old added steps
      → OkOrCheckerFailure result (IsFed new (added ++ processor ∷ []) steps) (λ fault. (fault ≡ checks.OutOfMemory) × ProcessorsHeard added (listeners_of (listeners_of_checked new)) steps)

  -- `CheckerRestarts old new added` holds if the new checker has received no step, and its listeners are the processors
  -- `added`, in the state in which the old checker has them now
  pub record CheckerRestarts (old new : Checked L) (added : List L) : Type 0 where
    pub listed : added ≡ (listeners_of (listeners_of_checked old)).processors
    pub fed : IsFed new added []
