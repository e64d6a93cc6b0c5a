-- The steps of a certificate up to the next ordered step, and whether that step is the expected step. The variables
-- of names are a separate argument.
use Rattle.std.specs.Prelude.{◌≡◌, true, false, Option, Some, None, Result, Ok, Err, List, [], ◌∷◌}
use Rattle.sat_base.specs.script.Script.{Literal}
use Rattle.sat_base.specs.steps.Steps.{Step}
use Rattle.sat_checker.specs.Accepts.{ready_after}
use Rattle.sat_checker.specs.declared.kernel.Kernel.{Kernel}
use Rattle.sat_checker.specs.matching.Expected.{Outcome, Expected}
use Rattle.certify.specs.confirm.CertificatePlaces.{RestMeets, MeetsExactly, MeetsNoneOf, MeetsSameSteps, MeetsNothing, NextIsOrdered}
use Rattle.certify.specs.confirm.Feeding.{HasAcceptedSteps}
use Rattle.certify.specs.confirm.CertificateStates.{CertificateState}
use Rattle.certify.specs.confirm.Comparing.{OpensOnlyEmptyCore, Due, DecidesMayBeUnmet}
use Rattle.certify.specs.confirm.NamesAfterStep.{AreVariablesOfNames}
use Rattle.certify.specs.declared.confirm.ordered.Awaited.{Awaited}
use Rattle.certify.specs.declared.confirm.ordered.Awaited.TheVariants as awaited
use Rattle.certify.specs.declared.confirm.stop.Stop.{Stop}
use Rattle.certify.specs.declared.confirm.stop.Stop.TheVariants as stop
use Rattle.certify.specs.declared.confirm.variables.NamedVars.{NamedVars}
use Rattle.certify.specs.declared.verdict.Why.{Why}

-- `CheckerIsAt checker names earlier` holds if the checker accepted exactly the steps `earlier`, newest first, and has
-- not failed, and after them `names` is the table of the variables that names have.
pub record CheckerIsAt (checker : Kernel) (names : NamedVars) (earlier : List Step) : Type 0 where
  pub taken : HasAcceptedSteps checker earlier
  pub stand : AreVariablesOfNames names earlier

-- `StepIsReady names old earlier new` holds if, from `old` to `new`, only unordered steps after `earlier` were
-- accepted, and then the next ordered step was read. It is `new.step`, was not fed to the checker yet, and unsat is not
-- recorded.
pub record StepIsReady (names : NamedVars) (old : CertificateState) (earlier : List Step) (new : CertificateState) : Type 0 where
  pub later : List Step
  pub valid : CheckerIsAt new.checker names later
  pub open_yet : (ready_after later).unsat ≡ false
  pub offers : NextIsOrdered earlier old.rest later new.step new.rest

-- `UnsatIsRecorded names old earlier new` holds if, from `old` to `new`, only unordered steps after `earlier` were
-- accepted, and unsat is recorded after them. No ordered step was read.
pub record UnsatIsRecorded (names : NamedVars) (old : CertificateState) (earlier : List Step) (new : CertificateState) : Type 0 where
  pub later : List Step
  pub valid : CheckerIsAt new.checker names later
  pub closed : (ready_after later).unsat ≡ true
  pub skips : MeetsSameSteps earlier old.rest later new.rest

-- `OnlyUnorderedAccepted names old earlier new` holds if, from `old` to `new`, only unordered steps after `earlier`
-- were accepted, so that the same expected steps are still met. The variables of names are still those of `names`.
pub record OnlyUnorderedAccepted (names : NamedVars) (old : CertificateState) (earlier : List Step) (new : CertificateState) : Type 0 where
  pub later : List Step
  pub valid : CheckerIsAt new.checker names later
  pub skips : MeetsSameSteps earlier old.rest later new.rest

-- `AwaitsNext names old new result` holds if `result` is what awaiting the next ordered step from `old` on led to: it
-- was read (`Step`), unsat is recorded before it (`Cut`) or, with an error, the certificate meets no list with an
-- expected step.
abbrev pub AwaitsNext : NamedVars → CertificateState → CertificateState → Result Awaited Why → Type 0
AwaitsNext names old new (Ok awaited.Step) = (earlier : List Step) → CheckerIsAt old.checker names earlier → StepIsReady names old earlier new
AwaitsNext names old new (Ok awaited.Cut) = (earlier : List Step) → CheckerIsAt old.checker names earlier → UnsatIsRecorded names old earlier new
AwaitsNext names old new (Err why) = (earlier : List Step) → CheckerIsAt old.checker names earlier → MeetsNothing earlier old.rest

-- `AwaitsByOneStep names old new result` holds if `result` is what reading one more step led to while an ordered step
-- is awaited: an unordered step was accepted (`None`), or as in `AwaitsNext`.
abbrev pub AwaitsByOneStep : NamedVars → CertificateState → CertificateState → Result (Option Awaited) Why → Type 0
AwaitsByOneStep names old new (Ok None) = (earlier : List Step) → CheckerIsAt old.checker names earlier → OnlyUnorderedAccepted names old earlier new
AwaitsByOneStep names old new (Ok (Some a)) = AwaitsNext names old new (Ok a)
AwaitsByOneStep names old new (Err why) = AwaitsNext names old new (Err why)

-- `PassesUnordered names old new r` holds if only unordered steps were accepted from `old` to `new`, whatever the
-- result `r` is (`OnlyUnorderedAccepted`).
abbrev pub PassesUnordered : NamedVars → CertificateState → CertificateState → Result (Unit {0}) Why → Type 0
PassesUnordered names old new r = (earlier : List Step) → CheckerIsAt old.checker names earlier → OnlyUnorderedAccepted names old earlier new

-- `IsDueMet due after old earlier new` holds if exactly the expected step `due` is met from `old` to `new`, for every
-- outcome and ask on which it depends. Names then have the variables `after`. If unsat is recorded at `new`, `due` is
-- met only if `OpensOnlyEmptyCore` holds of it.
pub record IsDueMet (due : Due) (after : NamedVars) (old : CertificateState) (earlier : List Step) (new : CertificateState) : Type 0 where
  pub later : List Step
  pub valid : CheckerIsAt new.checker after later
  pub leads : (o : Outcome) (ask : List Literal)
      → ((ready_after later).unsat ≡ true → OpensOnlyEmptyCore (due o ask)) → MeetsExactly earlier old.rest (due o ask ∷ []) later new.rest
  pub alone : (o : Outcome) (ask : List Literal) (es : List Expected)
      → RestMeets earlier (due o ask ∷ es) old.rest → (ready_after later).unsat ≡ true → OpensOnlyEmptyCore (due o ask)

-- `MeetsDue due before after old new result` holds if the expected step `due` is met from `old` to `new` (`IsDueMet`)
-- or, with an error, the certificate cannot meet it, for any outcome and ask. `before` and `after` are the variables of
-- names in `old` and `new`.
abbrev pub MeetsDue : Due → NamedVars → NamedVars → CertificateState → CertificateState → Result (Unit {0}) Why → Type 0
MeetsDue due before after old new (Ok x) = (earlier : List Step) → CheckerIsAt old.checker before earlier → IsDueMet due after old earlier new
MeetsDue due before after old new (Err why) = (earlier : List Step) → CheckerIsAt old.checker before earlier
    → (o : Outcome) (ask : List Literal) → MeetsNoneOf earlier old.rest (due o ask ∷ [])

-- `IsUnmetResult due result` holds if `result` is that of an expected step `due` that the certificate leaves unmet
-- because unsat is recorded: `Ok` if it may be unmet, and otherwise `No` with the reason.
abbrev pub IsUnmetResult : Due → Result (Unit {0}) Stop → Type 0
IsUnmetResult due (Ok x) = DecidesMayBeUnmet due None
IsUnmetResult due (Err (stop.No why)) = DecidesMayBeUnmet due (Some why)
IsUnmetResult due (Err stop.CertificateRead) = ⊥
IsUnmetResult due (Err stop.OutOfMemory) = ⊥
IsUnmetResult due (Err stop.CounterEnd) = ⊥
IsUnmetResult due (Err stop.ScriptRead) = ⊥
IsUnmetResult due (Err stop.AnswersRead) = ⊥
IsUnmetResult due (Err stop.TooMany) = ⊥
