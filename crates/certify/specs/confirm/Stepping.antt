-- The steps of a certificate up to the next ordered step.
use Rattle.std.specs.Prelude.{ℕ, ◌==◌, ◌||◌, Bool, true, false, Option, Some, None, Result, Ok, Err}
use Rattle.certify.specs.confirm.ReadSteps.{ReadsStep, BeginsNoStep}
use Rattle.certify.specs.confirm.CertificateStates.{CertificateState, certificate_place}
use Rattle.certify.specs.declared.confirm.ordered.Awaited.{Awaited}
use Rattle.certify.specs.declared.confirm.ordered.Awaited.TheVariants as awaited
use Rattle.certify.specs.declared.verdict.Why.{Why}

-- `is_ordered_tag tag` is true if the first byte of a step is that of an ordered step: `UserVarName`, `AddClause`,
-- `Model`, `Assumptions`, `FailedAssumptions` or `End`.
abbrev pub is_ordered_tag : ℕ → Bool
is_ordered_tag tag = tag == 2 || tag == 5 || tag == 10 || tag == 11 || tag == 12 || tag == 13

-- `is_fed awaited` is true if the checker was fed all steps read so far: not when an ordered step was read (`Step`),
-- but when unsat is recorded before one (`Cut`).
abbrev pub is_fed : Awaited → Bool
is_fed awaited.Step = false
is_fed awaited.Cut = true

-- `is_fed_so_far found` is true if the checker was fed all steps read so far: always before an ordered step is found
-- (`None`), and otherwise as `is_fed` says.
abbrev pub is_fed_so_far : Option Awaited → Bool
is_fed_so_far None = true
is_fed_so_far (Some a) = is_fed a

-- `ReadsOneStep old new result` holds if one step was read from `old` to `new` or, with an error, the remaining bytes
-- begin with no step.
abbrev pub ReadsOneStep : CertificateState → CertificateState → Result (Unit {0}) Why → Type 0
ReadsOneStep old new (Ok x) = ReadsStep (certificate_place old) (certificate_place new)
ReadsOneStep old new (Err why) = BeginsNoStep old.rest
