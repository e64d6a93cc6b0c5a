-- A new checker never exhausts its ids or counts, whatever it reads.
use Rattle.std.specs.Prelude.{ℕ, ◌≤◌, List, [], ◌∷◌, ◌++◌, length}
use Rattle.sat_base.specs.steps.Steps.{Step}
use Rattle.sat_base.specs.steps.StepText.{SpellsSteps}
use Rattle.sat_checker.specs.Accepts.{stored_after, ready_after}
use Rattle.sat_checker.specs.ProofView.{most_bytes, steps_after}
use Rattle.sat_checker.specs.Counters.{ExhaustsCounters}

-- `IdsWithinBytes` holds if the next id after any steps is at most the number of bytes that spell them.
abbrev pub IdsWithinBytes : Type 0
IdsWithinBytes = (steps : List Step) (text : List ℕ) → SpellsSteps steps text → (ready_after (steps_after steps [])).next_id ≤ length text

-- `CountersNeverExhausted` holds if no step exhausts the ids or counts, provided that it and all steps before it are
-- spelled by at most 2^60 bytes.
abbrev pub CountersNeverExhausted : Type 0
CountersNeverExhausted = (steps : List Step) (step : Step) (text : List ℕ) → SpellsSteps (steps ++ step ∷ []) text → length text ≤ most_bytes
    → ExhaustsCounters step (stored_after (steps_after steps [])) → ⊥
