-- One step of a proof that is read and checked.
use Rattle.std.specs.Prelude.{ℕ, ◌≡◌, ◌≢◌, ◌+◌, ◌-◌, ◌*◌, ◌≤◌, ◌⊎◌, Bool, true, false, length, List, [], ◌∷◌, ◌++◌, Result, Ok, Err}
use Rattle.std.specs.Bool.{MatchBool}
use Rattle.std.specs.List.{AllByRecursion}
use Rattle.sat_base.specs.declared.steps.error.StepError.{StepError}
use Rattle.sat_base.specs.declared.steps.error.StepError.TheVariants as unread
use Rattle.sat_base.specs.device.Device.{max_reads, max_read_size}
use Rattle.sat_base.specs.device.Reading.{Source, ConsumesBytes, ConsumesToEnd, ConsumesAndFails}
use Rattle.sat_base.specs.steps.Formats.{IsProperPrefix, IsPrefixOfText}
use Rattle.sat_base.specs.steps.Steps.{Step, End}
use Rattle.sat_base.specs.steps.StepText.{SpellsStep, SpellsSteps}
use Rattle.sat_checker.specs.Accepts.{Accepts, stored_after, ready_after}
use Rattle.sat_checker.specs.Looks.{most_looks}
use Rattle.sat_checker.specs.CheckerView.{CheckerView, looks_of, HasAccepted, FailsByRefusal, FailsBeforeStep, ListenerFailsAtStep, RunsOutOfMemoryAt}
use Rattle.sat_checker.specs.announcements.Announcements.{Notice}
use Rattle.sat_checker.specs.ProofView.{steps_after, most_looks_after, HasAcceptedUnfailed}
use Rattle.sat_checker.specs.Counters.{ExhaustsCounters}
use Rattle.sat_checker.specs.declared.error.CheckerError.{CheckerError}
use Rattle.sat_checker.specs.declared.error.CheckerError.TheVariants as errors
use Rattle.sat_checker.specs.declared.processing.ProcessingError.{ProcessingError}
use Rattle.sat_checker.specs.declared.processing.ProcessingError.TheVariants as faults

-- The checker's error if no step was read.
abbrev pub read_error : StepError → CheckerError
read_error unread.Ends = errors.ProofIncomplete
read_error unread.Cut = errors.ProofIncomplete
read_error unread.BadByte = errors.ParseError
read_error unread.Read = errors.IoError
read_error unread.OutOfMemory = errors.OutOfMemory
read_error unread.HasFailed = errors.HasFailed

-- `is_step_out_of_memory error` is true if the error is an allocation failure, after which the checker has failed.
abbrev pub is_step_out_of_memory : StepError → Bool
is_step_out_of_memory unread.Ends = false
is_step_out_of_memory unread.Cut = false
is_step_out_of_memory unread.BadByte = false
is_step_out_of_memory unread.Read = false
is_step_out_of_memory unread.OutOfMemory = true
is_step_out_of_memory unread.HasFailed = false

-- The largest number of bytes that can still come from a source: those pending, and those of the reads that are left.
abbrev pub bytes_left : Source → ℕ
bytes_left s = max_read_size * (max_reads - s.reads) + length s.waiting

-- `CountsReads old new` holds if the calls of the reader and the reads that the source counts rose by the same number.
abbrev pub CountsReads : Source → Source → Type 0
CountsReads old new = new.reader.calls + old.reads ≡ old.reader.calls + new.reads

-- A checker, and the source of its steps.
pub record CheckerAtSource (L : Type 0) : Type 0 where
  pub checker : CheckerView L
  pub source : Source

-- The checker at this source of its steps.
abbrev pub at_source : {L : Type 0} → CheckerView L → Source → CheckerAtSource L
at_source c s = record { checker = c; source = s }

-- `ConsumesStep a b earlier step` holds if the bytes of the step were consumed, and the number of looks rose at most by
-- the bound for the step after the earlier ones.
pub record ConsumesStep {L : Type 0} (a b : CheckerAtSource L) (earlier : List Step) (step : Step) : Type 0 where
  pub text : List ℕ
  pub passes : ConsumesBytes a.source b.source text
  pub spelt : SpellsStep step text
  pub looks : looks_of b.checker ≤ looks_of a.checker + most_looks (ready_after earlier) step

-- `ConsumesPartOfStep a b` holds if a proper prefix of a step was consumed, of at least one byte, no other bytes are
-- pending, and no looks were added.
pub record ConsumesPartOfStep {L : Type 0} (a b : CheckerAtSource L) : Type 0 where
  pub tag : ℕ
  pub more : List ℕ
  pub passes : ConsumesBytes a.source b.source (tag ∷ more)
  pub none : b.source.waiting ≡ []
  pub begins : IsProperPrefix SpellsStep (tag ∷ more)
  pub looks : looks_of b.checker ≡ looks_of a.checker

module _ {L : Type 0} (Receives : L → Notice → Result Unit ProcessingError → L → Type 0) (before : List Notice) (begun : L) where
  -- `IsUnchangedUnfailed Receives before begun a b earlier` holds if the checker has accepted the earlier steps and no
  -- others, it has not failed, and no looks were added.
  pub record IsUnchangedUnfailed (a b : CheckerAtSource L) (earlier : List Step) : Type 0 where
    pub goes_on : HasAcceptedUnfailed Receives before begun b.checker earlier
    pub looks : looks_of b.checker ≡ looks_of a.checker

  -- `NextStepResultAfter Receives before begun result a b earlier` holds if reading and checking one step, after the
  -- accepted steps `earlier`, led from `a` to `b` with a correct result. `Ok(true)` means that the step is the end.
  abbrev pub NextStepResultAfter : Result Bool CheckerError → CheckerAtSource L → CheckerAtSource L → List Step → Type 0
  NextStepResultAfter (Ok ended) a b earlier = (step : Step) × ConsumesStep a b earlier step × MatchBool ended (step ≡ End) (step ≢ End) × HasAcceptedUnfailed Receives before begun b.checker (step ∷ earlier)
  NextStepResultAfter (Err errors.CheckFailed) a b earlier = (step : Step) × ConsumesStep a b earlier step × (Accepts (ready_after earlier) step → ⊥) × FailsByRefusal Receives before begun b.checker earlier
  NextStepResultAfter (Err errors.CounterEnd) a b earlier = (step : Step) × ConsumesStep a b earlier step × ExhaustsCounters step (stored_after earlier) × FailsBeforeStep Receives before begun b.checker earlier
  NextStepResultAfter (Err errors.OutOfMemory) a b earlier =
      (ConsumesPartOfStep a b × FailsBeforeStep Receives before begun b.checker earlier)
      ⊎ ((step : Step) × ConsumesStep a b earlier step × RunsOutOfMemoryAt Receives before begun b.checker step earlier)
  NextStepResultAfter (Err (errors.ProofProcessorError cause)) a b earlier = (step : Step) × ConsumesStep a b earlier step × ListenerFailsAtStep Receives before begun (faults.ProofProcessorError cause) b.checker step earlier
  NextStepResultAfter (Err errors.ProofIncomplete) a b earlier =
      (text : List ℕ) × ConsumesToEnd a.source b.source text × IsProperPrefix SpellsStep text × IsUnchangedUnfailed a b earlier
  NextStepResultAfter (Err errors.ParseError) a b earlier =
      (front : List ℕ) × (byte : ℕ) × ConsumesBytes a.source b.source (front ++ byte ∷ []) × IsProperPrefix SpellsStep front
      × (IsPrefixOfText SpellsStep (front ++ byte ∷ []) → ⊥) × IsUnchangedUnfailed a b earlier
  NextStepResultAfter (Err errors.IoError) a b earlier = (text : List ℕ) × ConsumesAndFails a.source b.source text × IsProperPrefix SpellsStep text × IsUnchangedUnfailed a b earlier
  NextStepResultAfter (Err errors.HasFailed) a b earlier = ⊥

  -- `AcceptsStepsBeforeEnd Receives before begun a b earlier passed` holds if the steps `passed`, none of them the end,
  -- were read and accepted after the earlier ones, and the number of looks rose at most by their bound.
  pub record AcceptsStepsBeforeEnd (a b : CheckerAtSource L) (earlier passed : List Step) : Type 0 where
    pub text : List ℕ
    pub passes : ConsumesBytes a.source b.source text
    pub spelt : SpellsSteps passed text
    pub unended : AllByRecursion (λ step. step ≢ End) passed
    pub goes_on : HasAcceptedUnfailed Receives before begun b.checker (steps_after passed earlier)
    pub looks : looks_of b.checker ≤ looks_of a.checker + most_looks_after passed earlier

module _ {L : Type 0} (Receives : L → Notice → Result Unit ProcessingError → L → Type 0) where
  -- `NextStepResult Receives result a b` holds if reading and checking one step led from `a` to `b` with a correct
  -- result, after whatever steps the checker of `a` has accepted. `Ok(true)` means that the step is the end.
  abbrev pub NextStepResult : Result Bool CheckerError → CheckerAtSource L → CheckerAtSource L → Type 0
  NextStepResult result a b = (before : List Notice) (begun : L) (earlier : List Step) → HasAccepted Receives before begun a.checker earlier → NextStepResultAfter Receives before begun result a b earlier
