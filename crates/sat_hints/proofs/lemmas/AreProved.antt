-- The text of the lines that accepted steps announce is proved.
use Rattle.std.proofs.Common.{ℕ, ◌<◌, ◌^◌, List, [], ◌∷◌, ◌++◌, refl}
use Rattle.std.specs.List.{AllByRecursion}
use Rattle.sat_base.specs.steps.Steps.{Step, End}
use Rattle.sat_base.specs.steps.StepText.{SpellsSteps}
use Rattle.sat_checker.specs.Accepts.{AcceptsAll, ready_after}
use Rattle.sat_checker.specs.ProofView.{steps_after}
use Rattle.sat_checker.proofs.lemmas.invariants.Stored.{always_tidy}
use Rattle.sat_checker.proofs.lemmas.announcements.Exact.{in_turn}
use Rattle.sat_checker.proofs.lemmas.announcements.Rests.{tautologies}
use Rattle.sat_hints.specs.Checks.{VerdictHolds}
use Rattle.sat_hints.specs.Conversion.{lines_of_steps, hint_text, hint_verdict}
use Rattle.sat_hints.specs.Limits.{StepIsWithinLimits}
use Rattle.sat_hints.specs.Laws.{AnnouncedIsDerivation, AnnouncedIsProved}
use Rattle.sat_hints.proofs.lemmas.Announced.{all_mirrors}
use Rattle.sat_hints.proofs.lemmas.WithinLimits.{all_within, read_fit}

pub derive : AnnouncedIsDerivation
derive steps ok = (all_mirrors always_tidy in_turn tautologies steps ok).derivation

pub are_proved : AnnouncedIsProved
are_proved steps ok fits ids =
    let m = all_mirrors always_tidy in_turn tautologies steps ok in
    record {
      all = lines_of_steps steps;
      whole = refl;
      are = all_within steps m.derivation m.least ids fits;
      derivation = m.derivation;
      says_empty = refl;
      counts_cores = refl;
      counts_lines = refl;
    }

-- steps that were read, the newest first
first_each : (P : Step → Type 0) (xs ys : List Step) → AllByRecursion P (xs ++ ys) → AllByRecursion P xs
first_each P [] ys h = tt
first_each P (x ∷ xs) ys h = (h.0, first_each P xs ys h.1)

taken_each : (P : Step → Type 0) (passed earlier : List Step) → AllByRecursion P passed → AllByRecursion P earlier → AllByRecursion P (steps_after passed earlier)
taken_each P [] earlier h k = k
taken_each P (x ∷ passed) earlier h k = taken_each P passed (x ∷ earlier) h.1 (h.0, k)

pub read_proved : (passed : List Step) (bytes : List ℕ) → SpellsSteps (passed ++ End ∷ []) bytes → AcceptsAll (End ∷ steps_after passed []) → (ready_after (End ∷ steps_after passed [])).next_id < 2 ^ 64 → VerdictHolds (hint_verdict (End ∷ steps_after passed [])) (hint_text (End ∷ steps_after passed []))
read_proved passed bytes spelt ok ids =
    are_proved (End ∷ steps_after passed []) ok (tt, taken_each StepIsWithinLimits passed [] (first_each StepIsWithinLimits passed (End ∷ []) (read_fit (passed ++ End ∷ []) bytes spelt)) tt) ids
