-- What contracts say about a proof that a solver writes: its steps, and where their text is written. Lists of steps
-- have the newest first.
use Rattle.std.specs.Prelude.{◌≡◌, ◌⊎◌, Bool, true, false, Option, None, Some, List, [], ◌∷◌, ◌++◌, Result, Ok, Err}
use Rattle.sat_base.specs.device.Device.{Writer, WriterAccepts, WriterFails}
use Rattle.sat_base.specs.device.Sink.{Sink, SinkIsFlushed}
use Rattle.sat_base.specs.steps.Steps.{Step, End}
use Rattle.sat_checker.specs.declared.processing.ProofProcessor.{Ghosts}
use Rattle.sat_solver.specs.proof.Counting.{TruncatesHashes, CountsSteps}
use Rattle.sat_solver.specs.proof.ListenerErrors.{IsListenerError}
use Rattle.sat_solver.specs.proof.EmittedView as mades
use Rattle.sat_solver.specs.proof.OutputView.{is_drat_format, text_in, AreSpeltInFormat, SinkReceivesSteps, output_format, output_sink}
use Rattle.sat_solver.specs.session.Session.{Session, AreAllowedSteps, session_after}
use Rattle.sat_solver.specs.declared.proof.emitted.CheckFault.{CheckFault}
use Rattle.sat_solver.specs.declared.proof.emitted.CheckFault.TheVariants as checks
use Rattle.sat_solver.specs.declared.proof.hash_bits.Counting.{Counting}
use Rattle.sat_solver.specs.declared.proof.format.ProofFormat.{ProofFormat}
use Rattle.sat_solver.specs.declared.proof.output.ProofOutput.{ProofOutput}
use Rattle.sat_solver.specs.declared.proof.Proof.{Proof}
use Rattle.sat_solver.specs.declared.proof.ProofError.{ProofError}
use Rattle.sat_solver.specs.declared.proof.ProofError.TheVariants.{Write, OutOfMemory, Check}

-- where the text of the steps is written, and the counts that determine the width of the next step's hashes
pub data Target : Type 0 where
  Closed : Counting → Target  -- nowhere; the counts are those that a target would have
  Open : ProofFormat → Counting → Sink → Target
  Broken : Writer → Target  -- a call of it failed, and it is not used again

-- `open_or_broken broken f c s` is an open target or, if a call of it failed, a broken one, of which only the writer is
-- left
abbrev pub open_or_broken : Bool → ProofFormat → Counting → Sink → Target
open_or_broken false f c s = Open f c s
open_or_broken true f c s = Broken s.writer

-- `target_of_output seen output broken c` is the target of an output: closed if there is none, broken if a call of it
-- failed (`broken`), otherwise open, with the counts `c`; `seen` says which `Writer` its writer counts as
abbrev pub target_of_output : {W : Type 0} → (W → Writer) → Option (ProofOutput W) → Bool → Counting → Target
target_of_output seen None broken c = Closed c
target_of_output seen (Some o) broken c = open_or_broken broken (output_format o) c (output_sink seen o)

-- where the text of the proof's steps is written: nowhere, an open target with its pending bytes, or a broken one;
-- `seen` says which `Writer` the target's writer counts as
abbrev pub target_of : {W L : Type 0} {G : Ghosts L} → (W → Writer) → Proof W L G → Target
target_of seen p = target_of_output seen p.output p.broken p.counting

-- `is_open target` is true if the target is open: steps are written to it
abbrev pub is_open : Target → Bool
is_open (Closed c) = false
is_open (Open f c s) = true
is_open (Broken w) = false

-- `is_drat target` is true if the target is open and steps are written to it as DRAT lines
abbrev pub is_drat : Target → Bool
is_drat (Closed c) = false
is_drat (Open f c s) = is_drat_format f
is_drat (Broken w) = false

-- `has_asked p` is true if an ask has begun since the proof was opened; from then on, the width of hashes may shrink
abbrev pub has_asked : {W L : Type 0} {G : Ghosts L} → Proof W L G → Bool
has_asked p = p.counting.solving

-- the proof after an ask has begun: from the next step on, hashes may be shorter; nothing else changes
abbrev pub with_ask_begun : {W L : Type 0} {G : Ghosts L} → Proof W L G → Proof W L G
with_ask_begun p = record p { counting = record p.counting { solving = true } }

-- all steps that were made, the newest first
abbrev pub steps_of : {W L : Type 0} {G : Ghosts L} → Proof W L G → List Step
steps_of p = p.made.history.steps

-- `is_checked p` is true if the solver has its own checker
abbrev pub is_checked : {W L : Type 0} {G : Ghosts L} → Proof W L G → Bool
is_checked p = mades.emitted_is_checked p.made

-- the listeners of the solver's own checker, each as it was added, in order; `None` without a checker
abbrev pub proof_listeners : {W L : Type 0} {G : Ghosts L} → Proof W L G → Option (List L)
proof_listeners p = mades.emitted_listeners p.made

-- `has_missed_step p` is true if a step was made that the solver's own checker has not received
abbrev pub has_missed_step : {W L : Type 0} {G : Ghosts L} → Proof W L G → Bool
has_missed_step p = mades.emitted_has_missed_step p.made

-- `AllStepsReported p` holds if the solver's own checker, if there is one, has received every step, and no unit
-- conflict is pending in it
abbrev pub AllStepsReported : {W L : Type 0} {G : Ghosts L} → Proof W L G → Type 0
AllStepsReported p = mades.EmittedIsReported p.made

-- `IsAtWidth p` holds if the solver has no checker, or its checker has missed a step, or was last set to the width of
-- hashes in the target's text
abbrev pub IsAtWidth : {W L : Type 0} {G : Ghosts L} → Proof W L G → Type 0
IsAtWidth p = mades.LastWidthIs p.counting.bits p.made

-- `CheckerFailed fault p` holds if the solver's own checker failed with `fault` at one of the steps made or at a
-- pending unit conflict; a listener's fault was returned by one of the listeners
abbrev pub CheckerFailed : {W L : Type 0} {G : Ghosts L} → CheckFault → Proof W L G → Type 0
CheckerFailed fault p = mades.EmittedCheckerFailed fault p.made

-- `HasCause e p` holds if `e` doesn't report a failed call of the target, or the proof stores the error that the call
-- returned
abbrev pub HasCause : {W L : Type 0} {G : Ghosts L} → ProofError → Proof W L G → Type 0
HasCause (Write cause) p = p.cause ≡ Some cause
HasCause OutOfMemory p = Unit {0}
HasCause (Check fault) p = Unit {0}

-- the proof without the stored error of a listener, as it is after that error was reported
abbrev pub without_listener_error : {W L : Type 0} {G : Ghosts L} → Proof W L G → Proof W L G
without_listener_error p = record p { made = mades.emitted_without_listener_error p.made }

-- `ReturnsListeners p given` holds if `given` are the listeners of the solver's own checker, in order, each in its
-- state after a prefix of the announcements, possibly not all; none without a checker
abbrev pub ReturnsListeners : {W L : Type 0} {G : Ghosts L} → Proof W L G → (given : List L) → Type 0
ReturnsListeners p given = mades.EmittedReturnsListeners p.made given

-- `ReturnsNotifiedListeners p given` holds if the checker has missed a step, or `given` are its listeners, in order,
-- each in its state after every announcement of the steps; none without a checker
abbrev pub ReturnsNotifiedListeners : {W L : Type 0} {G : Ghosts L} → Proof W L G → (given : List L) → Type 0
ReturnsNotifiedListeners p given = mades.EmittedReturnsNotifiedListeners p.made given

-- `StartsChecker old new` holds if the new proof has a checker that has missed no step, with the earlier listeners; no
-- step was made
abbrev pub StartsChecker : {W L : Type 0} {G : Ghosts L} → Proof W L G → Proof W L G → Type 0
StartsChecker old new = mades.EmittedStartsChecker old.made new.made

-- `ListenersAtRestart p begun` holds if `begun` are the listeners with which checking of `p` begins anew: none without
-- a checker before, the earlier ones as they were added or, if a step was missed, in the state that they now have
abbrev pub ListenersAtRestart : {W L : Type 0} {G : Ghosts L} → Proof W L G → List L → Type 0
ListenersAtRestart p begun = mades.EmittedListenersAtRestart (has_missed_step p) p.made (proof_listeners p) begun

-- the session after all steps of the proof
abbrev pub session_of : {W L : Type 0} {G : Ghosts L} → Proof W L G → Session
session_of p = session_after (steps_of p)

-- `HasAllowedSteps p` holds if every step of the proof was allowed when it was made
abbrev pub HasAllowedSteps : {W L : Type 0} {G : Ghosts L} → Proof W L G → Type 0
HasAllowedSteps p = AreAllowedSteps (steps_of p)

-- `SinkReceivesWritten f c s steps d t` holds if the text of `steps`, with hashes cut to the current widths, was added
-- to the sink `s` after what was pending, which gives `t`; some may still be pending. The counts changed from `c` to
-- `d`.
pub record SinkReceivesWritten (f : ProofFormat) (c : Counting) (s : Sink) (steps : List Step) (d : Counting) (t : Sink) : Type 0 where
  pub written : List Step
  pub cuts : TruncatesHashes c steps written d
  pub wrote : SinkReceivesSteps f written s t

-- `TargetReceives target steps new` holds if the text of `steps` (newest first) was written to an open target or is
-- pending in it; without a target, the steps are only counted; a broken target is unchanged
abbrev pub TargetReceives : Target → List Step → Target → Type 0
TargetReceives (Closed c) steps new = (d : Counting) × (new ≡ Closed d) × CountsSteps c steps d
TargetReceives (Open f c s) steps new = (d : Counting) × (t : Sink) × (new ≡ Open f d t) × SinkReceivesWritten f c s steps d t
TargetReceives (Broken w) steps new = new ≡ Broken w

-- `SinkFailsAt f c s steps w` holds if a call of the target failed while the text of `steps` was written, and no call
-- followed. Its writer `w` has received a prefix of the pending bytes and this text.
pub record SinkFailsAt (f : ProofFormat) (c : Counting) (s : Sink) (steps : List Step) (w : Writer) : Type 0 where
  pub written : List Step
  pub counting : Counting
  pub cuts : TruncatesHashes c steps written counting
  pub breaks : WriterFails s.writer w (s.waiting ++ text_in f written)

-- `TargetFails target steps new` holds if the target was open and a call of it failed while the text of `steps` was
-- written, so that it is broken now, after a prefix of the pending bytes and this text
abbrev pub TargetFails : Target → List Step → Target → Type 0
TargetFails (Closed c) steps new = ⊥
TargetFails (Open f c s) steps new = (w : Writer) × (new ≡ Broken w) × SinkFailsAt f c s steps w
TargetFails (Broken w) steps new = ⊥

-- `EmitsExactly seen steps old new` holds if exactly `steps` (newest first) were made, and their text is written to an
-- open target or pending in it; the list of listeners is unchanged. Whether the checker received them isn't said.
pub record EmitsExactly {W L : Type 0} {G : Ghosts L} (seen : W → Writer) (steps : List Step) (old new : Proof W L G) : Type 0 where
  pub history : steps_of new ≡ steps ++ steps_of old
  pub listening : proof_listeners new ≡ proof_listeners old
  pub target : TargetReceives (target_of seen old) steps (target_of seen new)

-- `FailsToEmit seen steps old new` holds if exactly `steps` (newest first) were made, and a call of the open target
-- failed while their text was written, so that it is broken now; the list of listeners is unchanged
pub record FailsToEmit {W L : Type 0} {G : Ghosts L} (seen : W → Writer) (steps : List Step) (old new : Proof W L G) : Type 0 where
  pub history : steps_of new ≡ steps ++ steps_of old
  pub listening : proof_listeners new ≡ proof_listeners old
  pub target : TargetFails (target_of seen old) steps (target_of seen new)

-- `FailsCheck seen fault steps old new` holds if exactly `steps` (newest first) were made, their text is written to an
-- open target or pending in it, and then the solver's own checker failed with `fault`
pub record FailsCheck {W L : Type 0} {G : Ghosts L} (seen : W → Writer) (fault : CheckFault) (steps : List Step) (old new : Proof W L G) : Type 0 where
  pub adds : EmitsExactly seen steps old new
  pub why : CheckerFailed fault new

-- `EmitsChecked seen steps old new` holds if exactly `steps` (newest first) were made, and their text is written or
-- pending. The own checker received them unless it had missed a step before; if there was one, it is at the text's
-- width. No ask began.
pub record EmitsChecked {W L : Type 0} {G : Ghosts L} (seen : W → Writer) (steps : List Step) (old new : Proof W L G) : Type 0 where
  pub history : steps_of new ≡ steps ++ steps_of old
  pub listening : proof_listeners new ≡ proof_listeners old
  pub taking : has_missed_step new ≡ has_missed_step old
  pub asked : has_asked new ≡ has_asked old
  pub width : IsAtWidth old ⊎ (steps ≡ [] → ⊥) → IsAtWidth new
  pub target : TargetReceives (target_of seen old) steps (target_of seen new)

-- `WritesToTarget result steps old new` holds if `result` is that of writing the text of `steps` to the target: all is
-- written or pending; or a call of it failed after a prefix; or memory ran out, and nothing is written
abbrev pub WritesToTarget : Result (Unit {0}) ProofError → List Step → Target → Target → Type 0
WritesToTarget (Ok x) steps old new = TargetReceives old steps new
WritesToTarget (Err (Write e)) steps old new = TargetFails old steps new
WritesToTarget (Err OutOfMemory) steps old new = TargetReceives old [] new
WritesToTarget (Err (Check fault)) steps old new = ⊥

-- `FailsOnlyInChecker result new` holds if `result` is `Ok`, or a fault with which the solver's own checker failed;
-- then a listener's error, if it is one, is stored
abbrev pub FailsOnlyInChecker : {W L : Type 0} {G : Ghosts L} → Result (Unit {0}) ProofError → Proof W L G → Type 0
FailsOnlyInChecker (Ok x) new = Unit {0}
FailsOnlyInChecker (Err (Write e)) new = ⊥
FailsOnlyInChecker (Err OutOfMemory) new = ⊥
FailsOnlyInChecker (Err (Check fault)) new = CheckerFailed fault new × IsListenerError fault new.made.complaint

-- `FailsOnlyInCheckerAfterMissedStep lost result new` holds if `result` is `Ok`, or a fault with which the own checker
-- failed (a listener's error is stored), or out of memory if the checker had missed a step (`lost`)
abbrev pub FailsOnlyInCheckerAfterMissedStep : {W L : Type 0} {G : Ghosts L} → (lost : Bool) → Result (Unit {0}) ProofError → Proof W L G → Type 0
FailsOnlyInCheckerAfterMissedStep lost (Ok x) new = Unit {0}
FailsOnlyInCheckerAfterMissedStep lost (Err (Write e)) new = ⊥
FailsOnlyInCheckerAfterMissedStep lost (Err OutOfMemory) new = ⊥
FailsOnlyInCheckerAfterMissedStep lost (Err (Check fault)) new = mades.CheckerErrorAfterMissedStep lost fault new.made

-- `EmitResult seen result steps old new` holds if `result` is that of making `steps` (newest first): they are made; or
-- made, but the target or then the checker failed, and its error is stored; or memory ran out and no step was made
abbrev pub EmitResult : {T W L : Type 0} {G : Ghosts L} → (W → Writer) → Result T ProofError → List Step → Proof W L G → Proof W L G → Type 0
EmitResult seen (Ok x) steps old new = EmitsChecked seen steps old new
EmitResult seen (Err (Write e)) steps old new = FailsToEmit seen steps old new × (new.cause ≡ Some e)
EmitResult seen (Err OutOfMemory) steps old new = EmitsChecked seen [] old new
EmitResult seen (Err (Check fault)) steps old new = FailsCheck seen fault steps old new × IsListenerError fault new.made.complaint

-- `TargetFlushed target new` holds if an open target has received all pending bytes and was flushed; a closed or broken
-- target is unchanged
abbrev pub TargetFlushed : Target → Target → Type 0
TargetFlushed (Closed c) new = new ≡ Closed c
TargetFlushed (Open f c s) new = (t : Sink) × (new ≡ Open f c t) × SinkIsFlushed s t
TargetFlushed (Broken w) new = new ≡ Broken w

-- `FlushesOnlyTarget seen old new` holds if an open target was flushed, no step was made, and the list of listeners is
-- unchanged
pub record FlushesOnlyTarget {W L : Type 0} {G : Ghosts L} (seen : W → Writer) (old new : Proof W L G) : Type 0 where
  pub history : steps_of new ≡ steps_of old
  pub listening : proof_listeners new ≡ proof_listeners old
  pub target : TargetFlushed (target_of seen old) (target_of seen new)

-- `FlushesAndNotifies seen old new` holds if an open target was flushed, no step was made, and the own checker, if any,
-- has received every step and has announced a pending unit conflict
pub record FlushesAndNotifies {W L : Type 0} {G : Ghosts L} (seen : W → Writer) (old new : Proof W L G) : Type 0 where
  pub history : steps_of new ≡ steps_of old
  pub listening : proof_listeners new ≡ proof_listeners old
  pub taking : has_missed_step new ≡ has_missed_step old
  pub asked : has_asked new ≡ has_asked old
  pub width : IsAtWidth old → IsAtWidth new
  pub target : TargetFlushed (target_of seen old) (target_of seen new)
  pub reported : AllStepsReported new

-- `FlushesTarget seen result old new` holds if `result` is that of flushing an open target, without its checker:
-- flushed, or a call of it failed and its error is stored; no step was made
abbrev pub FlushesTarget : {W L : Type 0} {G : Ghosts L} → (W → Writer) → Result (Unit {0}) ProofError → Proof W L G → Proof W L G → Type 0
FlushesTarget seen (Ok x) old new = FlushesOnlyTarget seen old new
FlushesTarget seen (Err (Write e)) old new = FailsToEmit seen [] old new × (new.cause ≡ Some e)
FlushesTarget seen (Err OutOfMemory) old new = ⊥
FlushesTarget seen (Err (Check fault)) old new = ⊥

-- `FlushesOrFails seen result old new` holds if `result` is that of flushing the target and then announcing a unit
-- conflict pending in the own checker: done, or the target failed, or the checker failed after the flush; no step was
-- made
abbrev pub FlushesOrFails : {W L : Type 0} {G : Ghosts L} → (W → Writer) → Result (Unit {0}) ProofError → Proof W L G → Proof W L G → Type 0
FlushesOrFails seen (Ok x) old new = FlushesAndNotifies seen old new
FlushesOrFails seen (Err (Write e)) old new = FailsToEmit seen [] old new × (new.cause ≡ Some e)
FlushesOrFails seen (Err OutOfMemory) old new = ⊥
FlushesOrFails seen (Err (Check fault)) old new = FlushesOnlyTarget seen old new × mades.CheckerErrorAfterMissedStep (has_missed_step old) fault new.made

-- `SinkReceivedAll f c s steps given` holds if the writer of the sink `s` received what was pending and the text of
-- `steps`, written from the counts `c` on in the format `f`, and was flushed; then it is `given`
pub record SinkReceivedAll (f : ProofFormat) (c : Counting) (s : Sink) (steps : List Step) (given : Writer) : Type 0 where
  pub written : List Step
  pub counting : Counting
  pub cuts : TruncatesHashes c steps written counting
  pub spelt : AreSpeltInFormat f written
  pub takes : WriterAccepts s.writer given (s.waiting ++ text_in f written)
  pub flushed : given.flushed ≡ true

-- `TargetReceivesAll target steps given` holds if the target was open, and its writer, after what was pending and the
-- text of `steps` (newest first) were written and flushed, is `given`
abbrev pub TargetReceivesAll : Target → List Step → Writer → Type 0
TargetReceivesAll (Closed c) steps given = ⊥
TargetReceivesAll (Open f c s) steps given = SinkReceivedAll f c s steps given
TargetReceivesAll (Broken w) steps given = ⊥

-- `TargetClosesAfter target steps new` holds if the target was open, and is closed after `steps` (newest first) were
-- made and counted
abbrev pub TargetClosesAfter : Target → List Step → Target → Type 0
TargetClosesAfter (Closed c) steps new = ⊥
TargetClosesAfter (Open f c s) steps new = (d : Counting) × (new ≡ Closed d) × CountsSteps c steps d
TargetClosesAfter (Broken w) steps new = ⊥

-- `ClosesNoTarget seen old new` holds if no target was open when a proof was to be closed: no step was made, and target
-- and listeners are unchanged
pub record ClosesNoTarget {W L : Type 0} {G : Ghosts L} (seen : W → Writer) (old new : Proof W L G) : Type 0 where
  pub history : steps_of new ≡ steps_of old
  pub listening : proof_listeners new ≡ proof_listeners old
  pub taking : has_missed_step new ≡ has_missed_step old
  pub asked : has_asked new ≡ has_asked old
  pub shut : is_open (target_of seen old) ≡ false
  pub target : target_of seen new ≡ target_of seen old

-- `ClosesOpenTarget seen given old new` holds if the step `End` was made, and the open target, returned as `given`, has
-- received all of its text and was flushed. The own checker, if any, has received every step and announced everything.
pub record ClosesOpenTarget {W L : Type 0} {G : Ghosts L} (seen : W → Writer) (given : W) (old new : Proof W L G) : Type 0 where
  pub history : steps_of new ≡ End ∷ steps_of old
  pub listening : proof_listeners new ≡ proof_listeners old
  pub taking : has_missed_step new ≡ has_missed_step old
  pub asked : has_asked new ≡ has_asked old
  pub takes : TargetReceivesAll (target_of seen old) (End ∷ []) (seen given)
  pub target : TargetClosesAfter (target_of seen old) (End ∷ []) (target_of seen new)
  pub reported : AllStepsReported new

-- `ClosesTarget seen result old new` holds if `result` is that of closing a proof: `None` if no target was open, the
-- open target after the step `End`, or an error of the target, of memory (no step made) or of the checker (after `End`)
abbrev pub ClosesTarget : {W L : Type 0} {G : Ghosts L} → (W → Writer) → Result (Option W) ProofError → Proof W L G → Proof W L G → Type 0
ClosesTarget seen (Ok None) old new = ClosesNoTarget seen old new
ClosesTarget seen (Ok (Some given)) old new = ClosesOpenTarget seen given old new
ClosesTarget seen (Err (Write e)) old new = FailsToEmit seen (End ∷ []) old new × (new.cause ≡ Some e)
ClosesTarget seen (Err OutOfMemory) old new = EmitsChecked seen [] old new
ClosesTarget seen (Err (Check fault)) old new = EmitsExactly seen (End ∷ []) old new × mades.CheckerErrorAfterMissedStep (has_missed_step old) fault new.made

-- `ReturnsWriter target given` holds if `given` is the writer of an open or broken target, without its pending bytes,
-- or `None` for a closed one
abbrev pub ReturnsWriter : Target → Option Writer → Type 0
ReturnsWriter (Closed c) given = given ≡ None
ReturnsWriter (Open f c s) given = given ≡ Some s.writer
ReturnsWriter (Broken w) given = given ≡ Some w

-- the returned writer as `seen` shows it, or `None`
abbrev pub returned_writer : {W : Type 0} → (W → Writer) → Option W → Option Writer
returned_writer seen None = None
returned_writer seen (Some w) = Some (seen w)

-- `TargetIsRemoved target new` holds if the target is closed now; the counts have not changed, unless the target was
-- broken
abbrev pub TargetIsRemoved : Target → Target → Type 0
TargetIsRemoved (Closed c) new = new ≡ Closed c
TargetIsRemoved (Open f c s) new = new ≡ Closed c
TargetIsRemoved (Broken w) new = (c : Counting) × (new ≡ Closed c)

-- `ReturnsTarget seen given old new` holds if the target, open or broken, is returned as `given` (`None` if closed) and
-- is closed now; no step was made, and pending bytes are lost
pub record ReturnsTarget {W L : Type 0} {G : Ghosts L} (seen : W → Writer) (given : Option W) (old new : Proof W L G) : Type 0 where
  pub history : steps_of new ≡ steps_of old
  pub made : new.made ≡ old.made
  pub asked : has_asked new ≡ has_asked old
  pub gives : ReturnsWriter (target_of seen old) (returned_writer seen given)
  pub target : TargetIsRemoved (target_of seen old) (target_of seen new)

-- `HasOneMoreListener processor old new` holds if there was a checker, and it now has the listener `processor` after
-- the earlier ones, and has missed no step
pub record HasOneMoreListener {W L : Type 0} {G : Ghosts L} (processor : L) (old new : Proof W L G) : Type 0 where
  pub before : List L
  pub listened : proof_listeners old ≡ Some before
  pub listening : proof_listeners new ≡ Some (before ++ processor ∷ [])
  pub taking : has_missed_step new ≡ false

-- `AddListenerResult result processor old new` holds if `result` is that of adding the listener `processor`: it is
-- added last; or memory ran out, and the listeners are unchanged
abbrev pub AddListenerResult : {W L : Type 0} {G : Ghosts L} → Result (Unit {0}) ProofError → L → Proof W L G → Proof W L G → Type 0
AddListenerResult (Ok x) processor old new = HasOneMoreListener processor old new
AddListenerResult (Err (Write e)) processor old new = ⊥
AddListenerResult (Err OutOfMemory) processor old new = ⊥
AddListenerResult (Err (Check fault)) processor old new = (fault ≡ checks.OutOfMemory) × (proof_listeners new ≡ proof_listeners old)

-- `AddListenerEffect seen result processor old new` holds if `result` is that of adding the listener `processor` (added
-- last, or out of memory and none added); no step was made, and the target is unchanged
pub record AddListenerEffect {W L : Type 0} {G : Ghosts L} (seen : W → Writer) (result : Result (Unit {0}) ProofError) (processor : L) (old new : Proof W L G) : Type 0 where
  pub history : steps_of new ≡ steps_of old
  pub asked : has_asked new ≡ has_asked old
  pub target : target_of seen new ≡ target_of seen old
  pub takes : AddListenerResult result processor old new
