-- The variables of names. A name may have none.
use Rattle.std.specs.Prelude.{ℕ, zero, suc, ◌==◌, ◌≡◌, Option, None, if◌then◌else◌}
use Rattle.sat_base.specs.values.Tables.{value_at}
use Rattle.certify.specs.declared.confirm.variables.NamedVars.{NamedVars}

-- the proof variable of a name, in a table that begins with name 1, or `None` if the name has none
abbrev pub variable_in : NamedVars → ℕ → Option ℕ
variable_in names zero = None
variable_in names (suc index) = value_at None names.variables index

-- `SetsVariable old new name value` holds if the table `new` gives `name` the proof variable in `value`, or none
-- (`None`), and every other name the same as in `old`.
pub record SetsVariable (old new : NamedVars) (name : ℕ) (value : Option ℕ) : Type 0 where
  pub each : (m : ℕ) → variable_in new m ≡ (if name == m then value else variable_in old m)
