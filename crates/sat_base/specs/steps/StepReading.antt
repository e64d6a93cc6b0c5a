-- The results of a reader of steps.
use Rattle.std.specs.Prelude.{◌≡◌, ◌≤◌, ℕ, Bool, true, false, Result, Ok, Err}
use Rattle.sat_base.specs.declared.steps.reader.StepReader.{StepReader}
use Rattle.sat_base.specs.declared.steps.reader.Buffers.{Buffers}
use Rattle.sat_base.specs.declared.steps.error.StepError.{StepError}
use Rattle.sat_base.specs.declared.steps.error.StepError.TheVariants as errors
use Rattle.sat_base.specs.device.Device.{Reader, max_reads}
use Rattle.sat_base.specs.device.Reading.{Source, AnswersStepRead, source}
use Rattle.sat_base.specs.steps.Steps.{Step}
use Rattle.sat_base.specs.steps.Kinds.{step_with}

-- the source of a reader of steps: the reader of its bytes, and the bytes read ahead
abbrev pub reader_source : {R : Type 0} → (R → Reader) → StepReader R Buffers → Source
reader_source seen s = source seen s.reader.now s.buffers.state.ahead

-- `has_reader_failed s` is true if the reader of steps returns only `HasFailed` from now on.
abbrev pub has_reader_failed : {R : Type 0} → StepReader R Buffers → Bool
has_reader_failed s = s.buffers.failed

-- the borrow through which the reader of steps holds the reader of its bytes
abbrev pub reader_borrow : {R : Type 0} → StepReader R Buffers → ℕ
reader_borrow s = s.reader.ghost_name

-- the last step that was read, put together from its kind and the lists in the buffers of the reader of steps
abbrev pub last_step_in : {R : Type 0} → StepReader R Buffers → Step
last_step_in s = step_with s.buffers.kind s.buffers.state.lists.literals.items s.buffers.state.lists.hashes.items s.buffers.state.lists.units.items

-- `is_stop e` is true if the error stops a reader of steps; every error except `Ends` does.
abbrev pub is_stop : StepError → Bool
is_stop errors.Ends = false
is_stop errors.Cut = true
is_stop errors.BadByte = true
is_stop errors.Read = true
is_stop errors.OutOfMemory = true
is_stop errors.HasFailed = true

-- `is_repeat e` is true if the error is `HasFailed`: an earlier error has stopped the reader of steps.
abbrev pub is_repeat : StepError → Bool
is_repeat errors.HasFailed = true
is_repeat errors.Ends = false
is_repeat errors.Cut = false
is_repeat errors.BadByte = false
is_repeat errors.Read = false
is_repeat errors.OutOfMemory = false

-- `is_stop_result result` is true if the result is an error, other than `Ends`, so that the reader of steps is stopped.
abbrev pub is_stop_result : Result Step StepError → Bool
is_stop_result (Ok step) = false
is_stop_result (Err e) = is_stop e

-- `is_repeat_result result` is true if the result is the error `HasFailed`: the reader of steps was stopped before.
abbrev pub is_repeat_result : Result Step StepError → Bool
is_repeat_result (Ok step) = false
is_repeat_result (Err e) = is_repeat e

-- `AnswersUnlessFailed result old new` holds if `result` is that of reading a step (`AnswersStepRead`), or it is
-- `HasFailed` and nothing has changed.
abbrev pub AnswersUnlessFailed : Result Step StepError → Source → Source → Type 0
AnswersUnlessFailed (Ok step) old new = AnswersStepRead (Ok step) old new
AnswersUnlessFailed (Err errors.Ends) old new = AnswersStepRead (Err errors.Ends) old new
AnswersUnlessFailed (Err errors.Cut) old new = AnswersStepRead (Err errors.Cut) old new
AnswersUnlessFailed (Err errors.BadByte) old new = AnswersStepRead (Err errors.BadByte) old new
AnswersUnlessFailed (Err errors.Read) old new = AnswersStepRead (Err errors.Read) old new
AnswersUnlessFailed (Err errors.OutOfMemory) old new = AnswersStepRead (Err errors.OutOfMemory) old new
AnswersUnlessFailed (Err errors.HasFailed) old new = new ≡ old

-- `AdvanceEffect seen old new result` holds if reading the next step with `result` has led the reader of steps from
-- `old` to `new`. It is `HasFailed` exactly if an earlier error stopped the reader, and any error except `Ends` stops
-- it. At most 2^48 reads were made in all.
pub record AdvanceEffect {R : Type 0} (seen : R → Reader) (old new : StepReader R Buffers) (result : Result Step StepError) : Type 0 where
  pub same : reader_borrow new ≡ reader_borrow old
  pub answer : AnswersUnlessFailed result (reader_source seen old) (reader_source seen new)
  pub was : has_reader_failed old ≡ is_repeat_result result
  pub is : has_reader_failed new ≡ is_stop_result result
  pub bound : (reader_source seen new).reads ≤ max_reads
