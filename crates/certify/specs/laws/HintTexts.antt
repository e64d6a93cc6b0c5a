-- The hint text of a finished run's certificate.
use Rattle.std.specs.Prelude.{ℕ, ◌≡◌, Bool, Some, List, ◌++◌, Result, Ok, Err}
use Rattle.sat_base.specs.device.Device.{Reader, Writer, WriterAccepts}
use Rattle.sat_base.specs.steps.Steps.{Step}
use Rattle.sat_hints.specs.Checks.{IsProof}
use Rattle.sat_hints.specs.Conversion.{hint_text}
use Rattle.sat_hints.specs.Converts.{Converts}
use Rattle.sat_hints.specs.declared.error.HintError.{HintError}
use Rattle.sat_hints.specs.declared.error.HintError.TheVariants.{Refused, HasDeleteVar, Read, Write, OutOfMemory}
use Rattle.certify.specs.run.FinishedRun.{CertificateGuarantee}
use Rattle.certify.specs.declared.summary.Summary.{Summary}

-- `IsSomeProof text` holds if the hint text is a proof, whether or not it derives an empty clause, with any number of
-- cores and lines.
pub record IsSomeProof (text : List ℕ) : Type 0 where
  pub empty : Bool
  pub cores : ℕ
  pub lines : ℕ
  pub proof : IsProof text empty cores lines

-- `HasHints result steps old new` holds if the writer received the hint text of these steps between `old` and `new`,
-- and it is a proof; or if, with an error, a read, a write or an allocation failed. No other error is possible.
abbrev pub HasHints : Result (Unit {0}) HintError → List Step → Writer → Writer → Type 0
HasHints (Ok x) steps old new = WriterAccepts old new (hint_text steps) × IsSomeProof (hint_text steps)
HasHints (Err HasDeleteVar) steps old new = ⊥
HasHints (Err (Refused e)) steps old new = ⊥
HasHints (Err Read) steps old new = Unit {0}
HasHints (Err Write) steps old new = Unit {0}
HasHints (Err OutOfMemory) steps old new = Unit {0}

-- `RunsHaveHints` holds if `convert` writes the hint text of every certificate of a finished run, which is a proof,
-- unless a read, a write or an allocation fails. The reader's bytes must be known; any bytes may follow the
-- certificate.
abbrev pub RunsHaveHints : Type 0
RunsHaveHints = (budget : ℕ) (summary : Summary) (text answered certified more : List ℕ) (result : Result (Unit {0}) HintError) (from to : Reader) (old new : Writer)
    → (b : CertificateGuarantee text budget summary answered certified) → from.to_come ≡ Some (certified ++ more)
    → Converts result from to old new → HasHints result b.steps old new
