-- How one step is announced.
use Rattle.std.specs.Prelude.{ℕ, ◌≡◌, ◌==◌, true, false, if◌then◌else◌, List, map, Option, None, Some, Result, Ok, Err}
use Rattle.sat_base.specs.steps.Steps.{Step, UserVarName, DeleteVar, ChangeSamplingMode}
use Rattle.sat_checker.specs.Stored.{Variable}
use Rattle.sat_checker.specs.CheckerView.{CheckerView, checker_has_failed, looks_of}
use Rattle.sat_checker.specs.announcements.Announcements.{Announcement, Notice}
use Rattle.sat_checker.specs.inner.VariablesView.{variable_of_data}
use Rattle.sat_checker.specs.listeners.Receiving.{ReceivesAll, ReceivesUpToFault}
use Rattle.sat_checker.specs.declared.error.CheckerError.{CheckerError}
use Rattle.sat_checker.specs.declared.error.CheckerError.TheVariants as errors
use Rattle.sat_checker.specs.declared.processing.ProcessingError.{ProcessingError}
use Rattle.sat_checker.specs.declared.processing.ProcessingError.TheVariants as faults
use Rattle.sat_checker.specs.declared.state.status.Status.{Status}
use Rattle.sat_checker.specs.declared.state.status.Records.{Records}
use Rattle.sat_checker.specs.declared.store.StoreError.{StoreError}
use Rattle.sat_checker.specs.declared.store.StoreError.TheVariants as stores
use Rattle.sat_checker.specs.declared.announce.announcement.EarlierData.{EarlierData}

-- The announcements, each with the variables that may be looked up during it.
abbrev pub notices_with : (ℕ → Variable) → List Announcement → List Notice
notices_with variables = map (λ a. record { announcement = a; variables = variables })

-- The variable and its earlier data, if any, that the code's value represents.
abbrev pub earlier_data_of : Option EarlierData → Option (ℕ × Variable)
earlier_data_of None = None
earlier_data_of (Some was) = Some (was.var, variable_of_data was.data)

-- The variables, but with the earlier data that is given for one of them, if any.
abbrev pub with_earlier_data : Option (ℕ × Variable) → (ℕ → Variable) → ℕ → Variable
with_earlier_data None variables = variables
with_earlier_data (Some was) variables = λ v. if v == was.0 then was.1 else variables v

-- The variable that a step may rename, change the mode of or delete, with its data before the step; `None` for other
-- kinds of steps.
abbrev pub changed_by : (ℕ → Variable) → Step → Option (ℕ × Variable)
changed_by variables (UserVarName v name) = Some (v, variables v)
changed_by variables (DeleteVar v) = Some (v, variables v)
changed_by variables (ChangeSamplingMode v sample) = Some (v, variables v)
changed_by variables step = None

-- The checker's error for a fault of an announcement.
abbrev pub error_of_fault : ProcessingError → CheckerError
error_of_fault faults.OutOfMemory = errors.OutOfMemory
error_of_fault (faults.ProofProcessorError cause) = errors.ProofProcessorError cause

-- The checker's error if a step could not be stored.
abbrev pub error_of_store : StoreError → CheckerError
error_of_store stores.OutOfMemory = errors.OutOfMemory
error_of_store stores.CounterEnd = errors.CounterEnd

-- Whether the status records unsat, the end, and the deletion of a variable. These can still be returned after a later
-- step has failed.
abbrev pub records_of_status : Status → Records
records_of_status s = record { unsat = s.unsat; ended = s.ended; var_deleted = s.var_deleted }

-- `SameStateAndLooks old new` holds if the state and the number of looks are the same in both.
pub record SameStateAndLooks {L : Type 0} (old new : CheckerView L) : Type 0 where
  pub state : new.kernel.state ≡ old.kernel.state
  pub looks : looks_of new ≡ looks_of old

-- `AcceptsNoticesUnchanged Receives l` holds if the listener `l` can accept every announcement without a fault and
-- without a change.
abbrev pub AcceptsNoticesUnchanged : {L : Type 0} → (L → Notice → Result Unit ProcessingError → L → Type 0) → L → Type 0
AcceptsNoticesUnchanged Receives l = (t : Notice) → Receives l t (Ok tt) l

module _ {L : Type 0} (Receives : L → Notice → Result Unit ProcessingError → L → Type 0) (reported : List Notice) where
  -- `AnnouncesUpToFault Receives reported result old new` holds if all announcements `reported` were made and the
  -- checker has not failed (`Ok`), or if those up to a fault were made, `result` is its error, and the checker has
  -- failed. Its records are those of its state.
  abbrev pub AnnouncesUpToFault : Result Unit CheckerError → CheckerView L → CheckerView L → Type 0
  AnnouncesUpToFault (Ok x) old new = (checker_has_failed new ≡ false) × (new.kernel.records ≡ records_of_status new.kernel.state.formula.status) × ReceivesAll Receives reported old.listeners new.listeners
  AnnouncesUpToFault (Err e) old new = (checker_has_failed new ≡ true) × (new.kernel.records ≡ records_of_status new.kernel.state.formula.status) × (f : ProcessingError) × (e ≡ error_of_fault f) × ReceivesUpToFault Receives f reported old.listeners new.listeners

  -- `NotifiesAndKeepsState Receives reported result old new` holds if the announcements `reported` were made, up to a
  -- fault, as `AnnouncesUpToFault` says, and neither the kernel's state nor the number of looks changed.
  abbrev pub NotifiesAndKeepsState : Result Unit CheckerError → CheckerView L → CheckerView L → Type 0
  NotifiesAndKeepsState result old new = SameStateAndLooks old new × AnnouncesUpToFault result old new
