-- How calls over names end, in terms of the receiver of their steps.
use Rattle.std.specs.Prelude.{ℕ, ◌≡◌, List, Result, Ok, Err, IfErr}
use Rattle.sat_solver.specs.declared.variables.error.NameError.{NameError}
use Rattle.sat_solver.specs.declared.variables.error.NameError.TheVariants as errors
use Rattle.sat_solver.specs.variables.Naming.{NoVariableLeft}
use Rattle.sat_solver.specs.variables.VariableRoom.{HasVariablesFor}
use Rattle.sat_solver.specs.declared.variables.Variables.{Variables}

-- `IsFailure e` holds if `e` is an allocation failure, or an error of the receiver of the steps (target or checker);
-- only `VariableLimit` isn't
abbrev pub IsFailure : NameError → Type 0
IsFailure errors.VariableLimit = ⊥
IsFailure errors.OutOfMemory = Unit {0}
IsFailure (errors.Write cause) = Unit {0}
IsFailure (errors.Check fault) = Unit {0}

-- `FailsOnlyByFault r n users` holds if `r` is not `VariableLimit`, provided that there are enough proof variables for
-- all names that would be introduced with `users`
abbrev pub FailsOnlyByFault : {A : Type 0} → Result A NameError → Variables → (users : List ℕ) → Type 0
FailsOnlyByFault r n users = HasVariablesFor n users → IfErr r IsFailure

-- `EmitsUpTo took broke w e new` holds if the receiver, from `w` to `new`, accepted all steps made before the error `e`
-- (`took`) or, if the error is its own (target or checker), failed at the last of them (`broke`)
abbrev pub EmitsUpTo : {W : Type 0} → (took : W → W → Type 0) (broke : W → NameError → W → Type 0) → W → NameError → W → Type 0
EmitsUpTo took broke w errors.VariableLimit new = took w new
EmitsUpTo took broke w errors.OutOfMemory new = took w new
EmitsUpTo took broke w (errors.Write cause) new = broke w (errors.Write cause) new
EmitsUpTo took broke w (errors.Check fault) new = broke w (errors.Check fault) new

-- `EmitsOrFails took broke r old new` holds if the receiver of steps accepted all that were made, whenever it had
-- accepted the earlier ones (`took`); if `r` is its own error, it failed at the last of them (`broke`)
abbrev pub EmitsOrFails : {A W : Type 0} → (took : W → W → Type 0) (broke : W → NameError → W → Type 0) → Result A NameError → W → W → Type 0
EmitsOrFails took broke (Ok x) old new = (w : _) → took w old → took w new
EmitsOrFails took broke (Err e) old new = (w : _) → took w old → EmitsUpTo took broke w e new

-- `FailsForNoVariable old new from to` holds if every proof variable is in use, no step was made, and the names are
-- unchanged
pub record FailsForNoVariable {W : Type 0} (old new : Variables) (from to : W) : Type 0 where
  pub names : new ≡ old
  pub steps : to ≡ from
  pub none : NoVariableLeft old

-- `FailsByVariableLimitOrFault e old new from to` holds if a call failed with `VariableLimit`, changed nothing, and no
-- proof variable is left, or failed with another error `e` although one is left
abbrev pub FailsByVariableLimitOrFault : {W : Type 0} → NameError → Variables → Variables → W → W → Type 0
FailsByVariableLimitOrFault errors.VariableLimit old new from to = FailsForNoVariable old new from to
FailsByVariableLimitOrFault errors.OutOfMemory old new from to = NoVariableLeft old → ⊥
FailsByVariableLimitOrFault (errors.Write cause) old new from to = NoVariableLeft old → ⊥
FailsByVariableLimitOrFault (errors.Check fault) old new from to = NoVariableLeft old → ⊥
