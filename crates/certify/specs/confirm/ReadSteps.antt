-- Steps that are read from the beginning of bytes.
use Rattle.std.specs.Prelude.{ℕ, ◌≡◌, List, ◌++◌}
use Rattle.sat_base.specs.steps.Steps.{Step}
use Rattle.sat_base.specs.steps.StepText.{SpellsStep}

-- the place up to which a certificate was read: its last step, and the bytes after it
pub record CertificatePlace : Type 0 where
  pub step : Step
  pub rest : List ℕ

-- `ReadsStep old new` holds if a step was read from the beginning of the bytes `old.rest`. It is `new.step`, and
-- `new.rest` are the bytes after it.
pub record ReadsStep (old new : CertificatePlace) : Type 0 where
  pub text : List ℕ
  pub spelt : SpellsStep new.step text
  pub front : old.rest ≡ text ++ new.rest

-- `BeginsNoStep bytes` holds if the bytes do not begin with the complete text of a step.
abbrev pub BeginsNoStep : List ℕ → Type 0
BeginsNoStep bytes = (step : Step) (text rest : List ℕ) → bytes ≡ text ++ rest → SpellsStep step text → ⊥
