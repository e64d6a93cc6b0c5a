-- The effect of a run on its three devices.
use Rattle.std.specs.Prelude.{ℕ, ◌+◌, ◌≡◌, ◌≤◌, true, List, Result, Ok, Err}
use Rattle.sat_base.specs.device.Device.{Reader, Writer, GaveEnough, ReadFails, WriterAccepts, max_reads}
use Rattle.certify.specs.Devices.{NoWriterCallFailed, OneWriterCallFailed}
use Rattle.certify.specs.declared.fault.RunFault.{RunFault}
use Rattle.certify.specs.declared.summary.Summary.{Summary}
use Rattle.certify.specs.run.FinishedRun.{CertificateGuarantee}
use Rattle.certify.specs.run.ServedScript.{ByRunFault}

-- `WritesRun text budget summary answers certificate` holds if the two writers received exactly the answers to the text
-- and a certificate for which `CertificateGuarantee` holds. Each of them is given by its states before and after.
pub record WritesRun (text : List ℕ) (budget : ℕ) (summary : Summary) (answers certificate : Writer × Writer) : Type 0 where
  pub answered : List ℕ
  pub certified : List ℕ
  pub writes_answers : WriterAccepts answers.0 answers.1 answered
  pub certifies : WriterAccepts certificate.0 certificate.1 certified
  pub guarantee : CertificateGuarantee text budget summary answered certified

-- `NoScriptReadFailed script` holds if no read of the script failed between the reader's states before and after the
-- call.
abbrev pub NoScriptReadFailed : Reader × Reader → Type 0
NoScriptReadFailed script = script.1.failures ≡ script.0.failures

-- `Finished budget summary script answers certificate` holds if a run was finished: it wrote answers and a certificate
-- (`WritesRun`) for the bytes that were read, its writers were flushed, and no call of a device failed.
pub record Finished (budget : ℕ) (summary : Summary) (script : Reader × Reader) (answers certificate : Writer × Writer) : Type 0 where
  pub wrote : GaveEnough script.0 script.1 (λ text. WritesRun text budget summary answers certificate)
  pub read : NoScriptReadFailed script
  pub answered : NoWriterCallFailed answers.0 answers.1
  pub certified : NoWriterCallFailed certificate.0 certificate.1
  pub answers_flushed : answers.1.flushed ≡ true
  pub certificate_flushed : certificate.1.flushed ≡ true

-- `FinishesOrFaults result budget script answers certificate` holds if a run was finished (`Finished`) or, with an
-- error, failed. If the error names a device, a call of that device failed (or the script was read 2^48 times), and no
-- call of the other devices; otherwise no call failed.
abbrev pub FinishesOrFaults : Result Summary RunFault → ℕ → Reader × Reader → Writer × Writer → Writer × Writer → Type 0
FinishesOrFaults (Ok summary) budget script answers certificate = Finished budget summary script answers certificate
FinishesOrFaults (Err e) budget script answers certificate = ByRunFault e
    (ReadFails script.0 script.1 × NoWriterCallFailed answers.0 answers.1 × NoWriterCallFailed certificate.0 certificate.1)
    (NoScriptReadFailed script × OneWriterCallFailed answers.0 answers.1 × NoWriterCallFailed certificate.0 certificate.1)
    (NoScriptReadFailed script × NoWriterCallFailed answers.0 answers.1 × OneWriterCallFailed certificate.0 certificate.1)
    (NoScriptReadFailed script × NoWriterCallFailed answers.0 answers.1 × NoWriterCallFailed certificate.0 certificate.1)

-- `ScriptReadsAreFew script` holds if at most 2^48 reads of the script were made between the reader's states before and
-- after the call.
abbrev pub ScriptReadsAreFew : Reader × Reader → Type 0
ScriptReadsAreFew script = script.1.calls ≤ script.0.calls + max_reads
