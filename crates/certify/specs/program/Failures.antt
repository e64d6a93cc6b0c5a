-- Failed calls of the devices that a call of the program reads and writes.
use Rattle.std.specs.Prelude.{◌≡◌, ◌+◌, ◌≤◌, true}
use Rattle.sat_base.specs.device.Device.{Reader, Writer, max_reads}

-- `NoReadFailed r` holds if no read failed between `r.0` and `r.1`, the states of a reader before and after a call.
abbrev pub NoReadFailed : Reader × Reader → Type 0
NoReadFailed r = r.1.failures ≡ r.0.failures

-- `ReadsStopAtFailure r` holds if at most one read failed between the reader's states `r.0` and `r.1`, and only the
-- last read. There were at most 2^48 reads.
pub record ReadsStopAtFailure (r : Reader × Reader) : Type 0 where
  pub failures : r.1.failures ≤ r.0.failures + 1
  pub last : r.1.failures ≡ r.0.failures + 1 → r.1.failed ≡ true
  pub reads : r.1.calls ≤ r.0.calls + max_reads

-- `WritesStopAtFailure w` holds if at most one call of the writer failed between its states `w.0` and `w.1`, and only
-- the last call.
pub record WritesStopAtFailure (w : Writer × Writer) : Type 0 where
  pub failures : w.1.failures ≤ w.0.failures + 1
  pub last : w.1.failures ≡ w.0.failures + 1 → w.1.failed ≡ true

-- `RunStopsAtFailure script answers certificate` holds if at most one call of all three devices failed, and only as the
-- last call of its device. The script was read at most 2^48 times. Each argument has a device's states before and
-- after.
pub record RunStopsAtFailure (script : Reader × Reader) (answers certificate : Writer × Writer) : Type 0 where
  pub script_reads : ReadsStopAtFailure script
  pub answers_writes : WritesStopAtFailure answers
  pub certificate_writes : WritesStopAtFailure certificate
  pub once : script.1.failures + answers.1.failures + certificate.1.failures ≤ script.0.failures + answers.0.failures + certificate.0.failures + 1

-- `ConfirmStopsAtFailure script answers certificate` holds if at most one read of all three texts failed, and only as
-- the last read of its text. Each was read at most 2^48 times. Each argument has a reader's states before and after.
pub record ConfirmStopsAtFailure (script answers certificate : Reader × Reader) : Type 0 where
  pub script_reads : ReadsStopAtFailure script
  pub answers_reads : ReadsStopAtFailure answers
  pub certificate_reads : ReadsStopAtFailure certificate
  pub once : script.1.failures + answers.1.failures + certificate.1.failures ≤ script.0.failures + answers.0.failures + certificate.0.failures + 1
