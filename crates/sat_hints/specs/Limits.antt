-- Steps whose literals and variables are within their limits. All steps that are read from bytes are.
use Rattle.std.specs.Prelude.{◌*◌, ◌<◌}
use Rattle.std.specs.List.{AllByRecursion}
use Rattle.sat_base.specs.values.Literals.{var_limit}
use Rattle.sat_base.specs.steps.Steps.{Step, DeleteVar, AddClause, AtClause, UnitClauses, FailedAssumptions}
use Rattle.sat_hints.specs.Lines.{AreLiteralCodes}

-- `StepIsWithinLimits step` holds if the variable that the step deletes, or those of the literals of its clause, core
-- or units, are below 2^28; nothing is required of other steps.
abbrev pub StepIsWithinLimits : Step → Type 0
StepIsWithinLimits (DeleteVar v) = v < var_limit
StepIsWithinLimits (AddClause clause) = AreLiteralCodes clause
StepIsWithinLimits (AtClause redundant clause hashes) = AreLiteralCodes clause
StepIsWithinLimits (UnitClauses units) = AllByRecursion (λ u. u.0 < 2 * var_limit) units
StepIsWithinLimits (FailedAssumptions core hashes) = AreLiteralCodes core
StepIsWithinLimits step = Unit {0}
