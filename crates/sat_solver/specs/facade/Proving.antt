-- Opening and closing the proof of a solver, and its own checker.
use Rattle.std.specs.Prelude.{◌≡◌, ◌⊎◌, true, false, Option, None, Some, List, [], ◌∷◌, ◌++◌, Result, Ok, Err}
use Rattle.sat_base.specs.device.Device.{Writer}
use Rattle.sat_base.specs.device.Sink.{empty_sink}
use Rattle.sat_base.specs.steps.Steps.{Step, End}
use Rattle.sat_checker.specs.matching.Expected.{Finish}
use Rattle.sat_solver.specs.declared.error.SolverError.{SolverError}
use Rattle.sat_solver.specs.declared.error.SolverError.TheVariants as errors
use Rattle.sat_solver.specs.declared.proof.format.ProofFormat.{ProofFormat}
use Rattle.sat_solver.specs.declared.state.SatState.TheVariants as states
use Rattle.sat_solver.specs.proof.Checked.{has_begun}
use Rattle.sat_solver.specs.proof.Counting.{nothing_counted}
use Rattle.sat_solver.specs.proof.Drat.{IsDratDerivation, RefutesByUnits, present_clauses}
use Rattle.sat_solver.specs.proof.Prefixes.{PrefixSince}
use Rattle.sat_solver.specs.proof.ProofTexts.{ReceivedAcceptedSteps}
use Rattle.sat_solver.specs.proof.ProofView.{TargetClosesAfter, Open, TargetReceivesAll, TargetReceives, is_open}
use Rattle.sat_solver.specs.facade.View.{SolverView}
use Rattle.sat_solver.specs.facade.Calls.{FailsAfterSteps, MakesOrdered, ReachesBySteps, Refuses}

-- the view of the solver after `target` was opened in this format: nothing is counted or pending, and no ask has begun
abbrev pub with_target : {L : Type 0} → ProofFormat → Writer → SolverView L → SolverView L
with_target format target v = record v { target = Open format nothing_counted (empty_sink target); asked = false }

-- `Opened format target old new` holds if `target` was opened by an unused solver that had no open proof; nothing else
-- that callers see changed, except perhaps the width of hashes and the own checker
pub record Opened {L : Type 0} (format : ProofFormat) (target : Writer) (old new : SolverView L) : Type 0 where
  pub going : old.failed ≡ false
  pub first : old.used ≡ false
  pub shut : is_open old.target ≡ false
  pub same : new ≡ record (with_target format target old) { checking = new.checking }

-- `OpensProof r format target old new` holds if `r` is the result of opening a proof: opened, or refused after an
-- earlier failure, or refused as `TooLate` if the solver is used or a proof is open
abbrev pub OpensProof : {L : Type 0} → Result (Unit {0}) SolverError → ProofFormat → Writer → SolverView L → SolverView L → Type 0
OpensProof (Ok x) format target old new = Opened format target old new
OpensProof (Err errors.HasFailed) format target old new = Refuses old new (old.failed ≡ true)
OpensProof (Err errors.TooLate) format target old new = Refuses old new ((old.failed ≡ false) × ((old.used ≡ true) ⊎ (is_open old.target ≡ true)))
OpensProof (Err e) format target old new = ⊥

-- the listeners of the own checker, each as it was added; the empty list without a checker
abbrev pub own_listeners : {L : Type 0} → Option (List L) → List L
own_listeners None = []
own_listeners (Some added) = added

-- the view of the solver with an own checker, which has the listeners `more` after the earlier ones
abbrev pub with_listeners : {L : Type 0} → List L → SolverView L → SolverView L
with_listeners more v = record v { listeners = Some (own_listeners v.listeners ++ more) }

-- `StartsChecking more old new` holds if an unused solver now has an own checker, with the listeners `more` after the
-- earlier ones; all steps before are ends of proofs, and no call failed
pub record StartsChecking {L : Type 0} (more : List L) (old new : SolverView L) : Type 0 where
  pub going : old.failed ≡ false
  pub first : old.used ≡ false
  pub begun : has_begun old.steps ≡ false
  pub same : new ≡ record (with_listeners more old) { checking = new.checking }

-- `EnablesChecking r old new` holds if `r` is the result of enabling the own checker: enabled, or refused after an
-- earlier failure, or refused as `TooLate` if the solver is used or a step other than the end of a proof was made (a
-- call that makes such a step and does not fail also marks the solver as used)
abbrev pub EnablesChecking : {L : Type 0} → Result (Unit {0}) SolverError → SolverView L → SolverView L → Type 0
EnablesChecking (Ok x) old new = StartsChecking [] old new
EnablesChecking (Err errors.HasFailed) old new = Refuses old new (old.failed ≡ true)
EnablesChecking (Err errors.TooLate) old new = Refuses old new ((old.failed ≡ false) × ((old.used ≡ true) ⊎ (has_begun old.steps ≡ true)))
EnablesChecking (Err e) old new = ⊥

-- `AddListenerOutOfMemory old new` holds if memory ran out while a listener was added: it isn't in the list, the call
-- failed and every later call does, but there is an own checker now; steps and target are unchanged
pub record AddListenerOutOfMemory {L : Type 0} (old new : SolverView L) : Type 0 where
  pub going : old.failed ≡ false
  pub first : old.used ≡ false
  pub begun : has_begun old.steps ≡ false
  pub failed : new.failed ≡ true
  pub steps : new.steps ≡ old.steps
  pub target : new.target ≡ old.target
  pub listeners : new.listeners ≡ Some (own_listeners old.listeners)
  pub clock : new.clock ≡ old.clock

-- `AddsProcessor r processor old new` holds if `r` is the result of adding the listener `processor`: added last, to an
-- own checker; or refused after a failure or as `TooLate` (see `EnablesChecking`); or memory ran out
abbrev pub AddsProcessor : {L : Type 0} → Result (Unit {0}) SolverError → L → SolverView L → SolverView L → Type 0
AddsProcessor (Ok x) processor old new = StartsChecking (processor ∷ []) old new
AddsProcessor (Err errors.HasFailed) processor old new = Refuses old new (old.failed ≡ true)
AddsProcessor (Err errors.TooLate) processor old new = Refuses old new ((old.failed ≡ false) × ((old.used ≡ true) ⊎ (has_begun old.steps ≡ true)))
AddsProcessor (Err errors.OutOfMemory) processor old new = AddListenerOutOfMemory old new
AddsProcessor (Err e) processor old new = ⊥

-- `WroteSince f from before v` holds if a target with the writer `from` was opened in the format `f` when exactly the
-- steps `before` were made, and is open still: it has received the text of all later steps, or has it pending
pub record WroteSince {L : Type 0} (f : ProofFormat) (from : Writer) (before : List Step) (v : SolverView L) : Type 0 where
  pub steps : List Step
  pub following : v.steps ≡ steps ++ before
  pub target : TargetReceives (Open f nothing_counted (empty_sink from)) steps v.target

-- `CloseReturnsTarget old new` holds if an open target was closed and is returned, after the step `End`; otherwise at
-- most the width of hashes and the own checker changed
pub record CloseReturnsTarget {L : Type 0} (old new : SolverView L) : Type 0 where
  pub going : old.failed ≡ false
  pub target : TargetClosesAfter old.target (End ∷ []) new.target
  pub same : new ≡ record old { steps = End ∷ old.steps; target = new.target; checking = new.checking }

-- `MakesLast old new` holds if the only ordered step that the call made is the last one, which ends the proof
abbrev pub MakesLast : {L : Type 0} → SolverView L → SolverView L → Type 0
MakesLast old new = MakesOrdered old new (Finish ∷ [])

-- `CloseWithoutTarget old new` holds if no target was open when a proof was to be closed; no step was made, and at most
-- the width of hashes and the own checker changed
pub record CloseWithoutTarget {L : Type 0} (old new : SolverView L) : Type 0 where
  pub going : old.failed ≡ false
  pub shut : is_open old.target ≡ false
  pub same : new ≡ record old { checking = new.checking }

-- `CloseFails old new` holds if closing a proof failed, and so does every later call; the schedule is unchanged
pub record CloseFails {L : Type 0} (old new : SolverView L) : Type 0 where
  pub going : old.failed ≡ false
  pub failed : new.failed ≡ true
  pub clock : new.clock ≡ old.clock

-- `ClosesProof r old new` holds if `r` is the result of closing a proof: the target is returned, or none was open, or
-- the call was refused after an earlier failure, or it failed now
abbrev pub ClosesProof : {L : Type 0} → Result (Option Writer) SolverError → SolverView L → SolverView L → Type 0
ClosesProof (Ok None) old new = CloseWithoutTarget old new
ClosesProof (Ok (Some given)) old new = CloseReturnsTarget old new
ClosesProof (Err errors.HasFailed) old new = Refuses old new (old.failed ≡ true)
ClosesProof (Err (errors.ProofIoError cause)) old new = CloseFails old new
ClosesProof (Err errors.OutOfMemory) old new = CloseFails old new
ClosesProof (Err errors.CounterEnd) old new = CloseFails old new
ClosesProof (Err (errors.ProofProcessorError cause)) old new = CloseFails old new
ClosesProof (Err e) old new = ⊥

-- `AreLastSteps e steps` holds if `steps` are what closing a proof made before it failed with `e`: exactly `End`, or
-- none if refused; if memory ran out, either
abbrev pub AreLastSteps : SolverError → List Step → Type 0
AreLastSteps errors.HasFailed steps = steps ≡ []
AreLastSteps errors.OutOfMemory steps = (steps ≡ []) ⊎ (steps ≡ End ∷ [])
AreLastSteps e steps = steps ≡ End ∷ []

-- `FailsAtEnd e old new` holds if closing a proof failed with `e` after it made the step `End` or none; if the target
-- failed, it received a prefix of the text
pub record FailsAtEnd {L : Type 0} (e : SolverError) (old new : SolverView L) : Type 0 where
  pub breaks : FailsAfterSteps e old new
  pub last : AreLastSteps e breaks.steps

-- `ClosesText r old new` holds if the returned target received all that was pending and the step `End`, and was
-- flushed; or if the call failed, the target received a prefix of that
abbrev pub ClosesText : {L : Type 0} → Result (Option Writer) SolverError → SolverView L → SolverView L → Type 0
ClosesText (Ok None) old new = Unit {0}
ClosesText (Ok (Some given)) old new = TargetReceivesAll old.target (End ∷ []) given
ClosesText (Err e) old new = FailsAtEnd e old new

-- the result of closing a proof, with the writer replaced by what `seen` says callers see of it
abbrev pub writer_given : {W : Type 0} → (W → Writer) → Result (Option W) SolverError → Result (Option Writer) SolverError
writer_given seen (Ok None) = Ok None
writer_given seen (Ok (Some w)) = Ok (Some (seen w))
writer_given seen (Err e) = Err e

-- `IsCertificate given old new` holds if the returned target `given` has received, complete and flushed, the text of
-- all steps made since it was opened, and a checker accepts them, provided that only ends of proofs came before. This
-- is always so, since `write_proof` refuses a solver that has been used.
abbrev pub IsCertificate : {L : Type 0} → Writer → SolverView L → SolverView L → Type 0
IsCertificate given old new = (f : ProofFormat) (from : Writer) (before : List Step) → has_begun before ≡ false → WroteSince f from before old → ReceivedAcceptedSteps f from given before new.steps

-- `IsDratRefutation old new` holds if the DRAT lines of all steps of `new` are a correct derivation from the added
-- clauses, and unit propagation refutes the clauses left if the answer before was `Unsat`
pub record IsDratRefutation {L : Type 0} (old new : SolverView L) : Type 0 where
  pub derives : IsDratDerivation new.steps
  pub refutes : old.answer ≡ states.Unsat → RefutesByUnits (present_clauses new.steps) []

-- `ReturnsAcceptedPrefix returned v` holds if the target `returned` has received a prefix of the text of steps that a
-- checker accepts, even if a call has failed since, provided that only ends of proofs came before it was opened (which
-- is always so, as in `IsCertificate`)
abbrev pub ReturnsAcceptedPrefix : {L : Type 0} → Option Writer → SolverView L → Type 0
ReturnsAcceptedPrefix {L} returned v = (opened : SolverView L) (f : ProofFormat) (from given : Writer) → returned ≡ Some given
    → opened.target ≡ Open f nothing_counted (empty_sink from) → has_begun opened.steps ≡ false → ReachesBySteps opened v
    → ∥ PrefixSince f from given opened.steps v.steps ∥₁
