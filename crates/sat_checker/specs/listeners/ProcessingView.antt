-- The listeners of a checker.
use Rattle.std.specs.Prelude.{◌≡◌, List, [], Result}
use Rattle.anyhow.specs.declared.error.Error.{Error}
use Rattle.sat_checker.specs.announcements.Announcements.{Notice}
use Rattle.sat_checker.specs.announcements.Transcripts.{Transcribed, transcript}
use Rattle.sat_checker.specs.listeners.Receiving.{ReceivesUpToFault}
use Rattle.sat_checker.specs.listeners.Notifying.{Listeners, Notifies}
use Rattle.sat_checker.specs.declared.error.CheckerError.{CheckerError}
use Rattle.sat_checker.specs.declared.error.CheckerError.TheVariants as errors
use Rattle.sat_checker.specs.declared.processing.Processing.{Processing}
use Rattle.sat_checker.specs.declared.processing.ProcessingError.{ProcessingError}

-- The processors and the transcripts that were added, as the code represents them.
abbrev pub listeners_of : {P T : Type 0} → Processing P T → Listeners P T
listeners_of p = record { processors = p.processors.items; transcripts = p.transcripts.items }

-- `EachListenerReceives Takes Reads old t result new` holds if every processor receives the notice `t`, and every
-- transcript its transcript step, up to the first fault.
abbrev pub EachListenerReceives : {P T : Type 0} → (P → Notice → Result Unit Error → P → Type 0) → (T → Transcribed → Result Unit Error → T → Type 0) → Processing P T → Notice → Result Unit ProcessingError → Processing P T → Type 0
EachListenerReceives Takes Reads old t result new = Notifies (λ r b d. Takes b t r d) (λ said r b d. Reads b said r d) (transcript t.variables t.announcement) result (listeners_of old) (listeners_of new)

-- `NoListenerNoFault Takes Reads` holds if announcements cause no fault when there are no listeners.
abbrev pub NoListenerNoFault : {P T : Type 0} → (P → Notice → Result Unit Error → P → Type 0) → (T → Transcribed → Result Unit Error → T → Type 0) → Type 0
NoListenerNoFault {P = P} {T = T} Takes Reads = (e : ProcessingError) (reported : List Notice) (old new : Processing P T) → listeners_of old ≡ record { processors = []; transcripts = [] } → ReceivesUpToFault (EachListenerReceives Takes Reads) e reported old new → ⊥

-- `ErrorNeedsListener old error` holds if the error is a fault of a listener (`ProofProcessorError`) only if `old` has
-- a processor or a transcript.
abbrev pub ErrorNeedsListener : {P T : Type 0} → Processing P T → CheckerError → Type 0
ErrorNeedsListener old (errors.ProofProcessorError cause) = listeners_of old ≡ record { processors = []; transcripts = [] } → ⊥
ErrorNeedsListener old error = Unit {0}
