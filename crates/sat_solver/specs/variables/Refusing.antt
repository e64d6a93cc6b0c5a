-- Which calls over literals are refused.
use Rattle.std.specs.Prelude.{ℕ, ◌+◌, ◌≡◌, true, Option, None, Some, List, map}
use Rattle.sat_base.specs.values.Literals.{variable}
use Rattle.sat_solver.specs.variables.Variables.{data_at, global_of}
use Rattle.sat_solver.specs.declared.variables.Variables.{Variables}
use Rattle.sat_base.specs.script.ScriptState.{Refusal, WitnessName}

-- the names, counted from 1, of literal codes 2v + sign over names: v + 1 for each, in order
abbrev pub names_in : List ℕ → List ℕ
names_in = map (λ l. variable l + 1)

-- the refusal of a command for the witness name with this number, counted from 0; `None` for `None`
abbrev pub as_refusal : Option ℕ → Option Refusal
as_refusal None = None
as_refusal (Some user) = Some (WitnessName (user + 1))

-- `IsAssumed n user` holds if the name `user` (counted from 0) is in use, and its variable is marked as assumed
pub record IsAssumed (n : Variables) (user : ℕ) : Type 0 where
  pub variable_is : ℕ
  pub named : global_of n user ≡ Some variable_is
  pub marked : (data_at n variable_is).assumed ≡ true
