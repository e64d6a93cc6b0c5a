-- Ordered steps, whatever the widths at which they are written. Lists of steps have the newest first.
use Rattle.std.specs.Prelude.{◌≡◌, Bool, true, false, List, [], ◌∷◌, map, ℕ}
use Rattle.sat_base.specs.steps.Steps.{Step, FailedAssumptions}
use Rattle.sat_checker.specs.matching.Checking.{is_ordered}
use Rattle.sat_solver.specs.proof.Widths.{IsNarrowedTo}

-- the steps, with the step `step` added if the flag is true
abbrev pub prepend_if : Bool → Step → List Step → List Step
prepend_if true step steps = step ∷ steps
prepend_if false step steps = steps

-- the steps of the list that are ordered, in the same order
abbrev pub ordered_of : List Step → List Step
ordered_of [] = []
ordered_of (step ∷ earlier) = prepend_if (is_ordered step) step (ordered_of earlier)

-- the step, without its hashes if it is a failed core
abbrev pub without_hashes : Step → Step
without_hashes (FailedAssumptions core hashes) = FailedAssumptions core []
without_hashes step = step

-- `WidthsKeepOrder` holds if steps written with hashes cut to any widths have the same ordered steps as with complete
-- hashes, except for the hashes of cores
abbrev pub WidthsKeepOrder : Type 0
WidthsKeepOrder = (wide written : List Step) (width : ℕ) → IsNarrowedTo wide written width → map without_hashes (ordered_of written) ≡ map without_hashes (ordered_of wide)
