-- What the result of converting a certificate into a hint text means.
use Rattle.std.specs.Prelude.{ℕ, ◌≡◌, ◌≢◌, ◌⊎◌, List, [], ◌∷◌, ◌++◌, Result, Ok, Err}
use Rattle.std.specs.List.{AllByRecursion}
use Rattle.sat_base.specs.device.Device.{Reader, Writer, HasFoundEnd, ReadFails, WriterAccepts, WriterFails}
use Rattle.sat_base.specs.steps.Formats.{IsProperPrefix, HasBadByte}
use Rattle.sat_base.specs.steps.Steps.{Step, End}
use Rattle.sat_base.specs.steps.StepText.{SpellsStep}
use Rattle.sat_checker.specs.Accepts.{Accepts, AcceptsAll, ready_after}
use Rattle.sat_checker.specs.ProofView.{GaveSteps, StopsWithinStep, steps_after, NoReadFailed, FoundNoEnd}
use Rattle.sat_checker.specs.declared.error.CheckerError.{CheckerError}
use Rattle.sat_checker.specs.declared.error.CheckerError.TheVariants as errors
use Rattle.sat_hints.specs.Conversion.{hint_text, hint_verdict}
use Rattle.sat_hints.specs.Checks.{VerdictHolds}
use Rattle.sat_hints.specs.declared.error.HintError.{HintError}
use Rattle.sat_hints.specs.declared.error.HintError.TheVariants.{Refused, HasDeleteVar, Read, Write, OutOfMemory}

-- `GaveAcceptedSteps from to passed last rest` holds if the reader gave the text of the steps `passed` and `last`, the
-- oldest first, and then the bytes `rest`. The steps `passed`, none of them an end, are accepted from the start of a
-- proof.
pub record GaveAcceptedSteps (from to : Reader) (passed last : List Step) (rest : List ℕ) : Type 0 where
  pub steps : GaveSteps from to (passed ++ last) rest
  pub unended : AllByRecursion (λ step. step ≢ End) passed
  pub accepted : AcceptsAll (steps_after passed [])

-- `WritesPrefixOf old new text` holds if the writer accepted some prefix of the text, possibly all of it, and no call
-- failed.
pub record WritesPrefixOf (old new : Writer) (text : List ℕ) : Type 0 where
  pub front : List ℕ
  pub following : List ℕ
  pub whole : text ≡ front ++ following
  pub takes : WriterAccepts old new front

-- `WriteFailsAfter old new step steps` holds if the last call of the writer failed, and no other, after a prefix of the
-- hint text of the accepted steps, the newest first, or of these and `step`, if it is accepted.
abbrev pub WriteFailsAfter : Writer → Writer → Step → List Step → Type 0
WriteFailsAfter old new step steps = WriterFails old new (hint_text steps) ⊎ (Accepts (ready_after steps) step × WriterFails old new (hint_text (step ∷ steps)))

-- `GaveAcceptedAndNext from to passed rest` holds if the reader gave the text of the accepted steps `passed`, and then
-- a proper prefix of a step, of at least one byte, and nothing else; or then one more step, which is accepted, and the
-- bytes `rest`.
abbrev pub GaveAcceptedAndNext : Reader → Reader → List Step → List ℕ → Type 0
GaveAcceptedAndNext from to passed rest = (GaveAcceptedSteps from to passed [] rest × StopsWithinStep rest)
    ⊎ ((step : Step) × GaveAcceptedSteps from to passed (step ∷ []) rest × Accepts (ready_after (steps_after passed [])) step)

-- `GaveAcceptedProof from to passed rest` holds if the reader gave the accepted steps `passed` and an end, which is
-- accepted too, and then the bytes `rest`, and no read failed.
pub record GaveAcceptedProof (from to : Reader) (passed : List Step) (rest : List ℕ) : Type 0 where
  pub gave : GaveAcceptedSteps from to passed (End ∷ []) rest
  pub none_failed : NoReadFailed from to
  pub ends : Accepts (ready_after (steps_after passed [])) End

-- `RefusesCertificateBy e from to passed` holds if `e` is the certificate's fault right after the accepted steps
-- `passed`: the next step is not accepted (`CheckFailed`), the text has ended before an end (`ProofIncomplete`), or no
-- step can continue after a byte (`ParseError`).
abbrev pub RefusesCertificateBy : CheckerError → Reader → Reader → List Step → Type 0
-- the next step is not accepted
RefusesCertificateBy errors.CheckFailed from to passed = (step : Step) × (rest : List ℕ) × GaveAcceptedSteps from to passed (step ∷ []) rest × (Accepts (ready_after (steps_after passed [])) step → ⊥)
-- the text has ended before an `End` step
RefusesCertificateBy errors.ProofIncomplete from to passed = (rest : List ℕ) × GaveAcceptedSteps from to passed [] rest × HasFoundEnd to × IsProperPrefix SpellsStep rest
-- a byte was read after which no step can continue
RefusesCertificateBy errors.ParseError from to passed = (rest : List ℕ) × GaveAcceptedSteps from to passed [] rest × HasBadByte SpellsStep rest
-- no other error is a rejection; the bytes that a reader gives can't exhaust ids or counts
RefusesCertificateBy errors.CounterEnd from to passed = ⊥
RefusesCertificateBy errors.IoError from to passed = ⊥
RefusesCertificateBy errors.OutOfMemory from to passed = ⊥
RefusesCertificateBy errors.HasFailed from to passed = ⊥
RefusesCertificateBy (errors.ProofProcessorError cause) from to passed = ⊥

-- `Converts result from to old new` holds if the result of writing the hint text of a certificate is correct, with its
-- reader (`from`, `to`) and the text's writer (`old`, `new`) before and after. After `Ok`, the certificate is accepted,
-- and its hint text completely written.
abbrev pub Converts : Result (Unit {0}) HintError → Reader → Reader → Writer → Writer → Type 0
-- all steps are accepted up to an end, and their hint text is proved and completely written
Converts (Ok x) from to old new = (passed : List Step) × (rest : List ℕ) × GaveAcceptedProof from to passed rest
    × VerdictHolds (hint_verdict (End ∷ steps_after passed [])) (hint_text (End ∷ steps_after passed []))
    × WriterAccepts old new (hint_text (End ∷ steps_after passed []))
-- this error is never returned
Converts (Err HasDeleteVar) from to old new = ⊥
-- the checker rejects a step, a byte or the end of the text, after a prefix of the text was written
Converts (Err (Refused e)) from to old new = (passed : List Step) × NoReadFailed from to × RefusesCertificateBy e from to passed
    × WritesPrefixOf old new (hint_text (steps_after passed []))
-- exactly one read failed, the last, or 2^48 reads were made and none failed
Converts (Err Read) from to old new = (passed : List Step) × (rest : List ℕ) × ReadFails from to × GaveAcceptedSteps from to passed [] rest × IsProperPrefix SpellsStep rest
    × WritesPrefixOf old new (hint_text (steps_after passed []))
-- only the last write failed, after one more step was read and a prefix of the lines of accepted steps was written
Converts (Err Write) from to old new = (passed : List Step) × (step : Step) × (rest : List ℕ) × NoReadFailed from to × GaveAcceptedSteps from to passed (step ∷ []) rest
    × WriteFailsAfter old new step (steps_after passed [])
-- memory ran out within a step, or while an accepted step was checked or announced; no read failed or found
-- the end
Converts (Err OutOfMemory) from to old new = (passed : List Step) × (rest : List ℕ) × NoReadFailed from to × FoundNoEnd from to × GaveAcceptedAndNext from to passed rest
    × WritesPrefixOf old new (hint_text (steps_after passed []))
