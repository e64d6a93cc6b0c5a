-- What contracts see of a proof that is read and checked: which steps were read, and what the result means.
use Rattle.std.specs.Prelude.{ℕ, ◌≡◌, ◌≢◌, ◌+◌, ◌*◌, ◌≤◌, ◌<◌, ◌⊎◌, false, true, List, [], ◌∷◌, ◌++◌, length, Result, Ok, Err}
use Rattle.std.specs.List.{AllByRecursion}
use Rattle.sat_base.specs.device.Device.{Reader, GavePrefix, FewReads, HasFoundEnd, ReadFails, max_reads, max_read_size}
use Rattle.sat_base.specs.steps.Formats.{IsProperPrefix, HasBadByte}
use Rattle.sat_base.specs.steps.Steps.{Step, End}
use Rattle.sat_base.specs.steps.StepText.{SpellsStep, SpellsSteps}
use Rattle.sat_checker.specs.Accepts.{Accepts, stored_after, ready_after}
use Rattle.sat_checker.specs.Looks.{most_looks}
use Rattle.sat_checker.specs.CheckerView.{CheckerView, checker_has_failed, looks_of, HasNoPendingConflict, HasAccepted, FailsByRefusal, FailsBeforeStep, ListenerFailsAtStep, RunsOutOfMemoryAt}
use Rattle.sat_checker.specs.announcements.Announcements.{Notice}
use Rattle.sat_checker.specs.Counters.{ExhaustsCounters}
use Rattle.sat_checker.specs.declared.error.CheckerError.{CheckerError}
use Rattle.sat_checker.specs.declared.error.CheckerError.TheVariants as errors
use Rattle.sat_checker.specs.declared.processing.ProcessingError.{ProcessingError}
use Rattle.sat_checker.specs.declared.processing.ProcessingError.TheVariants as faults

-- All accepted steps, the newest first, once the new steps, given the oldest first, follow `earlier`, given the newest
-- first.
abbrev pub steps_after : List Step → List Step → List Step
steps_after [] earlier = earlier
steps_after (step ∷ steps) earlier = steps_after steps (step ∷ earlier)

-- The bound on the looks of these steps together, given the oldest first, when they follow `earlier`, given the newest
-- first.
abbrev pub most_looks_after : List Step → List Step → ℕ
most_looks_after [] earlier = 0
most_looks_after (step ∷ steps) earlier = most_looks (ready_after earlier) step + most_looks_after steps (step ∷ earlier)

-- The largest number of bytes that the allowed reads can give: 2^60.
abbrev pub most_bytes : ℕ
most_bytes = max_read_size * max_reads

-- `GaveSteps old new steps rest` holds if a reader gave the text of these steps, the oldest first, and then the bytes
-- `rest`, between `old` and `new`. It made at most 2^48 reads, and gave at most 2^60 bytes.
pub record GaveSteps (old new : Reader) (steps : List Step) (rest : List ℕ) : Type 0 where
  pub text : List ℕ
  pub spelt : SpellsSteps steps text
  pub front : GavePrefix old new (text ++ rest)
  pub few : FewReads old new
  pub reads : new.calls ≤ old.calls + max_reads
  pub bytes : length (text ++ rest) ≤ most_bytes

-- `StopsWithinStep bytes` holds if the bytes, at least one, are a proper prefix of a step.
pub record StopsWithinStep (bytes : List ℕ) : Type 0 where
  pub some : 0 < length bytes
  pub front : IsProperPrefix SpellsStep bytes

-- `ReadsProofPart old new from to earlier passed last rest` holds if a checker that had not failed read the steps
-- `passed`, none of them an `End`, then the steps `last`, then the bytes `rest`. After the steps `earlier`, its looks
-- rose at most by the bound for these steps.
pub record ReadsProofPart {L : Type 0} (old new : CheckerView L) (from to : Reader) (earlier passed last : List Step) (rest : List ℕ) : Type 0 where
  pub well : checker_has_failed old ≡ false
  pub steps : GaveSteps from to (passed ++ last) rest
  pub unended : AllByRecursion (λ step. step ≢ End) passed
  pub looks : looks_of new ≤ looks_of old + most_looks_after (passed ++ last) earlier

-- `NoReadFailed from to` holds if no read between `from` and `to` failed.
abbrev pub NoReadFailed : Reader → Reader → Type 0
NoReadFailed from to = to.failures ≡ from.failures

-- `FoundNoEnd from to` holds if no read was made between `from` and `to`, or the last one did not find the end.
abbrev pub FoundNoEnd : Reader → Reader → Type 0
FoundNoEnd from to = from.calls < to.calls → to.ended ≡ true → ⊥

module _ {L : Type 0} (Receives : L → Notice → Result Unit ProcessingError → L → Type 0) (before : List Notice) (begun : L) where
  -- `HasAcceptedUnfailed Receives before begun new steps` holds if the checker has accepted these steps and has not
  -- failed.
  abbrev pub HasAcceptedUnfailed : CheckerView L → List Step → Type 0
  HasAcceptedUnfailed new steps = HasAccepted Receives before begun new steps × (checker_has_failed new ≡ false)

  -- `ProofResultAfter Receives before begun result old new from to earlier` holds if the result for a proof is correct,
  -- when the steps `earlier` were accepted before. `Ok` means that the steps up to the first `End` were accepted. Bytes
  -- after it do not matter.
  abbrev pub ProofResultAfter : Result Unit CheckerError → CheckerView L → CheckerView L → Reader → Reader → List Step → Type 0
  ProofResultAfter (Ok x) old new from to earlier =
      (passed : List Step) × (rest : List ℕ) × ReadsProofPart old new from to earlier passed (End ∷ []) rest × NoReadFailed from to × HasAcceptedUnfailed new (End ∷ steps_after passed earlier) × HasNoPendingConflict new
  -- the last step read is refused
  ProofResultAfter (Err errors.CheckFailed) old new from to earlier =
      (passed : List Step) × (step : Step) × (rest : List ℕ) × ReadsProofPart old new from to earlier passed (step ∷ []) rest × NoReadFailed from to
      × (Accepts (ready_after (steps_after passed earlier)) step → ⊥) × FailsByRefusal Receives before begun new (steps_after passed earlier)
  -- the text ended before an `End` step, between steps or within one
  ProofResultAfter (Err errors.ProofIncomplete) old new from to earlier =
      (passed : List Step) × (rest : List ℕ) × ReadsProofPart old new from to earlier passed [] rest × NoReadFailed from to
      × HasFoundEnd to × IsProperPrefix SpellsStep rest × HasAcceptedUnfailed new (steps_after passed earlier)
  -- a byte was read after which no step can continue
  ProofResultAfter (Err errors.ParseError) old new from to earlier =
      (passed : List Step) × (rest : List ℕ) × ReadsProofPart old new from to earlier passed [] rest × NoReadFailed from to
      × HasBadByte SpellsStep rest × HasAcceptedUnfailed new (steps_after passed earlier)
  -- only the last read failed, or none failed and the limit of reads was reached
  ProofResultAfter (Err errors.IoError) old new from to earlier =
      (passed : List Step) × (rest : List ℕ) × ReadsProofPart old new from to earlier passed [] rest × ReadFails from to
      × IsProperPrefix SpellsStep rest × HasAcceptedUnfailed new (steps_after passed earlier)
  -- memory ran out within a step, after at least one byte of it, or while the step was checked or announced
  ProofResultAfter (Err errors.OutOfMemory) old new from to earlier =
      (passed : List Step) × (rest : List ℕ) × NoReadFailed from to
      × ((ReadsProofPart old new from to earlier passed [] rest × StopsWithinStep rest × FailsBeforeStep Receives before begun new (steps_after passed earlier))
      ⊎ ((step : Step) × ReadsProofPart old new from to earlier passed (step ∷ []) rest × RunsOutOfMemoryAt Receives before begun new step (steps_after passed earlier)))
  -- an id or a count does not fit in 64 bits
  ProofResultAfter (Err errors.CounterEnd) old new from to earlier =
      (passed : List Step) × (step : Step) × (rest : List ℕ) × ReadsProofPart old new from to earlier passed (step ∷ []) rest × NoReadFailed from to
      × ExhaustsCounters step (stored_after (steps_after passed earlier)) × FailsBeforeStep Receives before begun new (steps_after passed earlier)
  -- a listener returned a fault
  ProofResultAfter (Err (errors.ProofProcessorError cause)) old new from to earlier =
      (passed : List Step) × (step : Step) × (rest : List ℕ) × ReadsProofPart old new from to earlier passed (step ∷ []) rest × NoReadFailed from to
      × ListenerFailsAtStep Receives before begun (faults.ProofProcessorError cause) new step (steps_after passed earlier)
  ProofResultAfter (Err errors.HasFailed) old new from to earlier = (checker_has_failed old ≡ true) × (to ≡ from) × (new ≡ old)

module _ {L : Type 0} (Receives : L → Notice → Result Unit ProcessingError → L → Type 0) where
  -- `ProofResult Receives result old new from to` holds if the result for a proof is correct after whatever steps `old`
  -- has accepted. `Ok` means that the steps up to the first `End` were accepted, and no read failed. An error says why
  -- reading stopped.
  abbrev pub ProofResult : Result Unit CheckerError → CheckerView L → CheckerView L → Reader → Reader → Type 0
  ProofResult result old new from to = (before : List Notice) (begun : L) (steps : List Step) → HasAccepted Receives before begun old steps → ProofResultAfter Receives before begun result old new from to steps
