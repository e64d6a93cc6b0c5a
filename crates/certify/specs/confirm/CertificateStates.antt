-- The state of a certificate that is being confirmed.
use Rattle.std.specs.Prelude.{ℕ, List}
use Rattle.sat_base.specs.steps.Steps.{Step}
use Rattle.certify.specs.confirm.ReadSteps.{CertificatePlace}
use Rattle.sat_checker.specs.declared.kernel.Kernel.{Kernel}

-- How far a certificate was read, and the checker that its steps were fed to.
pub record CertificateState : Type 0 where
  pub checker : Kernel  -- the checker that is fed the steps
  pub step : Step  -- the step that was read last
  pub rest : List ℕ  -- the bytes still to come

-- the last step that was read, and the bytes after it, without the checker
abbrev pub certificate_place : CertificateState → CertificatePlace
certificate_place v = record { step = v.step; rest = v.rest }
