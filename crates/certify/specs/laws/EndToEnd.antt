-- The complete guarantee in one statement: a script is run, what the run wrote is confirmed, and other answers are
-- judged with another certificate.
use Rattle.std.specs.Prelude.{ℕ, ◌+◌, ◌*◌, ◌^◌, ◌≤◌, ◌≡◌, ◌↔◌, List, ◌++◌, length}
use Rattle.sat_base.specs.device.Device.{Reader, GavePrefix, CouldStillGive}
use Rattle.certify.specs.confirm.Matches.{TextsMatch}
use Rattle.certify.specs.confirm.VerdictPromises.{AreRightAnswers, VerdictIsExact}
use Rattle.certify.specs.run.FinishedRun.{CertificateGuarantee}
use Rattle.certify.specs.declared.summary.Summary.{Summary}
use Rattle.certify.specs.declared.verdict.Verdict.{Verdict}
use Rattle.certify.specs.declared.verdict.Verdict.TheVariants.{Yes}

-- `CanGiveText r text` holds if the reader gave a prefix of `text` between the states `r.0` and `r.1`, and could still
-- give the rest of it.
pub record CanGiveText (r : Reader × Reader) (text : List ℕ) : Type 0 where
  pub given : List ℕ
  pub rest : List ℕ
  pub front : GavePrefix r.0 r.1 given
  pub follows : CouldStillGive r.0 r.1 rest
  pub whole : text ≡ given ++ rest

-- `FinishedIsConfirmed` holds if the verdict of every exact confirmation (`VerdictIsExact`) is `Yes` when its three
-- readers could give a script, and the answers and the certificate of a finished run of it (`CertificateGuarantee`).
abbrev pub FinishedIsConfirmed : Type 0
FinishedIsConfirmed =
    (script answers certificate : Reader × Reader) (v : Verdict) (budget : ℕ) (summary : Summary) (text answered certified : List ℕ)
    → CanGiveText script text → CanGiveText answers answered → CanGiveText certificate certified
    → CertificateGuarantee text budget summary answered certified → VerdictIsExact script answers certificate v → v ≡ Yes

-- FOR TEXTS IN MEMORY

-- `VerdictGuarantee script answers certificate v` holds if `v` is `Yes` exactly when the three texts match, and the
-- answers are correct if it is `Yes`.
pub record VerdictGuarantee (script answers certificate : List ℕ) (v : Verdict) : Type 0 where
  pub exact : (v ≡ Yes) ↔ TextsMatch script answers certificate
  pub sound : v ≡ Yes → AreRightAnswers script answers

-- the largest number by which looks may rise for this certificate: 16 (n + 1)^2, where n is its number of bytes
abbrev pub most_looks_for : List ℕ → ℕ
most_looks_for certificate = 16 * (length certificate + 1) ^ 2

-- `CertifyGuarantee script budget claimed shown summary answers certificate own other before after` holds if a run of
-- `script` wrote `answers` and `certificate`, `own` is the verdict on what it wrote, and `other` the verdict on the
-- answers `claimed` with the certificate `shown`, all as `certify_over` guarantees. The number of looks was `before` at
-- the start and is `after` at the end.
pub record CertifyGuarantee (script : List ℕ) (budget : ℕ) (claimed shown : List ℕ) (summary : Summary) (answers certificate : List ℕ)
    (own other : Verdict) (before after : ℕ) : Type 0 where
  -- One answer for each accepted ask: a correct model, a correct core, or unknown. An answer is unknown only if its
  -- rounds are exhausted, and never if at least 2^(2n+3) were left at the start of the ask. The certificate has an
  -- empowering clause for each round, except for the round that found a model or a core.
  pub answered : CertificateGuarantee script budget summary answers certificate
  -- what the run wrote is confirmed
  pub confirmed : own ≡ Yes
  -- both verdicts are those of `confirm`; so if a verdict is `Yes`, its answers are correct, whoever made them
  pub checked : VerdictGuarantee script answers certificate own
  pub any : VerdictGuarantee script claimed shown other
  pub looks : after ≤ before + most_looks_for certificate + most_looks_for shown
