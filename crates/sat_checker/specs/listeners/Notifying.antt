-- Which listeners were notified, and up to which fault.
use Rattle.std.specs.Prelude.{◌≡◌, ◌<◌, ◌⊎◌, List, ◌∷◌, ◌++◌, length, Option, None, Some, Result, Ok, Err}
use Rattle.std.specs.List.{AllZip}
use Rattle.anyhow.specs.declared.error.Error.{Error}
use Rattle.sat_checker.specs.announcements.Transcripts.{Transcribed}
use Rattle.sat_checker.specs.declared.processing.ProcessingError.{ProcessingError}
use Rattle.sat_checker.specs.declared.processing.ProcessingError.TheVariants.{OutOfMemory, ProofProcessorError}

-- `AllNotified Called before after` holds if all listeners were called once, and none returned a fault.
pub record AllNotified {B : Type 0} (Called : Result Unit Error → B → B → Type 0) (before after : List B) : Type 0 where
  pub each : AllZip (Called (Ok tt)) before after

-- `NotifiedUpToFault Called cause before after` holds if one listener returned the fault `cause`. Those before it in
-- the list were called once, without a fault, and those after it were not called.
pub record NotifiedUpToFault {B : Type 0} (Called : Result Unit Error → B → B → Type 0) (cause : Error) (before after : List B) : Type 0 where
  pub notified_before : List B
  pub notified_after : List B
  pub failed_before : B
  pub failed_after : B
  pub rest : List B
  pub were : before ≡ notified_before ++ failed_before ∷ rest
  pub are : after ≡ notified_after ++ failed_after ∷ rest
  pub notified : AllNotified Called notified_before notified_after
  pub failed : Called (Err cause) failed_before failed_after

-- The processors and the transcripts of a checker, each in the order in which they were added.
pub record Listeners (B C : Type 0) : Type 0 where
  pub processors : List B
  pub transcripts : List C

-- `AllTranscribed Reads said before after` holds if every transcript received the step `said` without a fault, or there
-- is no such step and no transcript changed.
abbrev pub AllTranscribed : {C : Type 0} → (Transcribed → Result Unit Error → C → C → Type 0) → Option Transcribed → List C → List C → Type 0
AllTranscribed Reads None before after = after ≡ before
AllTranscribed Reads (Some step) before after = AllNotified (Reads step) before after

-- `TranscribedUpToFault Reads said cause before after` holds if the transcripts received the step `said`, in order, up
-- to one that returned the fault `cause`. It is false if `said` is `None`.
abbrev pub TranscribedUpToFault : {C : Type 0} → (Transcribed → Result Unit Error → C → C → Type 0) → Option Transcribed → Error → List C → List C → Type 0
TranscribedUpToFault Reads None cause before after = ⊥
TranscribedUpToFault Reads (Some step) cause before after = NotifiedUpToFault (Reads step) cause before after

-- `Transcribes Reads said result before after` holds if the result is correct for the transcripts, which receive the
-- step `said`, if any, up to the first fault. Memory runs out only if there is a transcript, and then none changes.
abbrev pub Transcribes : {C : Type 0} → (Transcribed → Result Unit Error → C → C → Type 0) → Option Transcribed → Result Unit ProcessingError → List C → List C → Type 0
Transcribes Reads said (Ok x) before after = AllTranscribed Reads said before after
Transcribes Reads said (Err OutOfMemory) before after = (0 < length before) × (after ≡ before)
Transcribes Reads said (Err (ProofProcessorError cause)) before after = TranscribedUpToFault Reads said cause before after

-- `Notifies Takes Reads said result old new` holds if the processors were notified, then the transcripts of the step
-- `said`, up to the first fault, and `result` reports that fault, if any.
pub data Notifies {B C : Type 0} (Takes : Result Unit Error → B → B → Type 0) (Reads : Transcribed → Result Unit Error → C → C → Type 0) (said : Option Transcribed) (result : Result Unit ProcessingError) (old new : Listeners B C) : Type 0 where
  all_processors : AllNotified Takes old.processors new.processors → Transcribes Reads said result old.transcripts new.transcripts → Notifies Takes Reads said result old new
  some_processors : (cause : Error) → result ≡ Err (ProofProcessorError cause) → NotifiedUpToFault Takes cause old.processors new.processors → new.transcripts ≡ old.transcripts → Notifies Takes Reads said result old new

-- `OwnListenerFails Called result own old new` holds if the listener `own`, which is notified first, returned a fault,
-- `result` reports it, and the other listeners did not change.
pub record OwnListenerFails {V L : Type 0} (Called : Result Unit Error → V → Type 0) (result : Result Unit ProcessingError) (own : V) (old new : L) : Type 0 where
  pub cause : Error
  pub answered : result ≡ Err (ProofProcessorError cause)
  pub failed : Called (Err cause) own
  pub others : new ≡ old

-- `NotifiesOwnFirst Called Others result own old new` holds if the listener `own` was notified first (`Called`) without
-- a fault, and then the others (`Others`), or if `own` returned a fault and the others did not change.
abbrev pub NotifiesOwnFirst : {V L : Type 0} → (Result Unit Error → V → Type 0) → Type 0 → Result Unit ProcessingError → V → L → L → Type 0
NotifiesOwnFirst Called Others result own old new = (Called (Ok tt) own × Others) ⊎ OwnListenerFails Called result own old new
