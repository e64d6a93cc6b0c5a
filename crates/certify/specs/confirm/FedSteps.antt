-- How far a checker was fed the steps of a certificate, with how many looks, and where a number no longer fits into 64
-- bits.
use Rattle.std.specs.Prelude.{ℕ, ◌≡◌, ◌+◌, ◌≤◌, Bool, true, false, List, ◌∷◌, ◌++◌}
use Rattle.sat_base.specs.steps.Steps.{Step}
use Rattle.sat_base.specs.steps.StepText.{SpellsStep}
use Rattle.sat_checker.specs.Accepts.{Accepts, stored_after, ready_after}
use Rattle.sat_checker.specs.KernelView.{kernel_looks}
use Rattle.sat_checker.specs.Looks.{most_looks}
use Rattle.sat_checker.specs.Counters.{CountersExhausted, ExhaustsCounters}
use Rattle.sat_checker.specs.declared.kernel.Kernel.{Kernel}
use Rattle.certify.specs.confirm.Feeding.{HasAcceptedSteps}
use Rattle.certify.specs.confirm.CertificateStates.{CertificateState}

-- `StepsAccountForLooks earlier bytes from to` holds if steps at the beginning of the bytes, each with at most
-- `most_looks`, account for a rise of the looks from `from` to `to`. Every step is accepted after the earlier ones,
-- except possibly the last.
pub data StepsAccountForLooks : List Step → List ℕ → ℕ → ℕ → Type 0 where
  same_looks : {earlier : List Step} {bytes : List ℕ} {looks : ℕ} → StepsAccountForLooks earlier bytes looks looks
  looks_of_last : {earlier : List Step} {bytes : List ℕ} {from to : ℕ} (step : Step) (text rest : List ℕ)
      → bytes ≡ text ++ rest → SpellsStep step text → to ≤ from + most_looks (ready_after earlier) step
      → StepsAccountForLooks earlier bytes from to
  looks_of_accepted : {earlier : List Step} {bytes : List ℕ} {from to : ℕ} (step : Step) (text rest : List ℕ) (between : ℕ)
      → bytes ≡ text ++ rest → SpellsStep step text → Accepts (ready_after earlier) step
      → between ≤ from + most_looks (ready_after earlier) step → StepsAccountForLooks (step ∷ earlier) rest between to
      → StepsAccountForLooks earlier bytes from to

-- `ReachesCounterEnd earlier bytes` holds if steps from the beginning of the bytes are accepted one by one after the
-- earlier steps, and then a number does not fit into 64 bits: when a pending unit conflict is settled, or at the next
-- step.
pub data ReachesCounterEnd : List Step → List ℕ → Type 0 where
  exhausted_settling : {earlier : List Step} {bytes : List ℕ} → CountersExhausted (ready_after earlier) → ReachesCounterEnd earlier bytes
  exhausted_at_step : {earlier : List Step} {bytes : List ℕ} (step : Step) (text rest : List ℕ)
      → bytes ≡ text ++ rest → SpellsStep step text → ExhaustsCounters step (stored_after earlier) → ReachesCounterEnd earlier bytes
  exhausted_later : {earlier : List Step} {bytes : List ℕ} (step : Step) (text rest : List ℕ)
      → bytes ≡ text ++ rest → SpellsStep step text → Accepts (ready_after earlier) step → ReachesCounterEnd (step ∷ earlier) rest
      → ReachesCounterEnd earlier bytes

-- `IsFedPrefix old bytes new rest earlier` holds if the checker `old`, which accepted `earlier`, was fed the steps
-- before `rest` at the beginning of `bytes`, and is now `new`. What `StepsAccountForLooks` or `ReachesCounterEnd` say
-- from there on, they also say from the beginning.
pub record IsFedPrefix (old : Kernel) (bytes : List ℕ) (new : Kernel) (rest : List ℕ) (earlier : List Step) : Type 0 where
  pub later : List Step
  pub taken : HasAcceptedSteps new later
  pub reaches : (looks : ℕ) → StepsAccountForLooks later rest (kernel_looks new) looks → StepsAccountForLooks earlier bytes (kernel_looks old) looks
  pub spends : ReachesCounterEnd later rest → ReachesCounterEnd earlier bytes

-- `FeedsAllSteps old new` holds if the checker was fed all steps that were read between `old` and `new`.
abbrev pub FeedsAllSteps : CertificateState → CertificateState → Type 0
FeedsAllSteps old new = (earlier : List Step) → HasAcceptedSteps old.checker earlier → IsFedPrefix old.checker old.rest new.checker new.rest earlier

-- `FeedsAllButLast old new` holds if the checker was fed all steps that were read between `old` and `new` except the
-- last, which is `new.step`.
abbrev pub FeedsAllButLast : CertificateState → CertificateState → Type 0
FeedsAllButLast old new = (text : List ℕ) × SpellsStep new.step text
    × ((earlier : List Step) → HasAcceptedSteps old.checker earlier → IsFedPrefix old.checker old.rest new.checker (text ++ new.rest) earlier)

-- `FeedsLastIf fed old new` holds if the checker was fed all steps that were read between `old` and `new` or, if `fed`
-- is false, all except the last.
abbrev pub FeedsLastIf : Bool → CertificateState → CertificateState → Type 0
FeedsLastIf true old new = FeedsAllSteps old new
FeedsLastIf false old new = FeedsAllButLast old new

-- `FeedsSomeSteps old new` holds if some steps at the beginning of `old.rest` account for the looks of the checker from
-- `old` to `new`. Each was accepted, except possibly the last.
abbrev pub FeedsSomeSteps : CertificateState → CertificateState → Type 0
FeedsSomeSteps old new = (earlier : List Step) → HasAcceptedSteps old.checker earlier → StepsAccountForLooks earlier old.rest (kernel_looks old.checker) (kernel_looks new.checker)

-- `LeadsToCounterEnd old new` holds if steps at the beginning of `old.rest` lead to a number that does not fit into 64
-- bits (`ReachesCounterEnd`). Nothing is said about `new`.
abbrev pub LeadsToCounterEnd : CertificateState → CertificateState → Type 0
LeadsToCounterEnd old new = (earlier : List Step) → HasAcceptedSteps old.checker earlier → ReachesCounterEnd earlier old.rest
