-- What the code stores about variables.
use Rattle.std.specs.Prelude.{ℕ, ◌≡◌, ◌↔◌, Bool, true, if◌then◌else◌, List, Option, None, Some}
use Rattle.std.specs.Bool.{MatchBool}
use Rattle.std.specs.List.{AllByRecursion}
use Rattle.sat_base.specs.values.Literals.{variable}
use Rattle.sat_base.specs.values.Tables.{value_at, HasPlaceFor}
use Rattle.sat_base.specs.steps.Steps.{Step}
use Rattle.sat_checker.specs.LiteralSets.{is_among}
use Rattle.sat_checker.specs.Stored.{Stored, Variable, Mode}
use Rattle.sat_checker.specs.Accepts.{Accepts, effect}
use Rattle.sat_checker.specs.Stored as stored
use Rattle.sat_checker.specs.declared.variables.SamplingMode.{SamplingMode}
use Rattle.sat_checker.specs.declared.variables.SamplingMode.TheVariants as code
use Rattle.sat_checker.specs.declared.variables.VarData.{VarData}
use Rattle.sat_checker.specs.declared.variables.Variables.{Variables}

-- A mode as the code represents it.
abbrev pub mode_in : SamplingMode → Mode
mode_in code.Sample = stored.Sample
mode_in code.Witness = stored.Witness
mode_in code.Hide = stored.Hide

-- A variable as the code represents it.
abbrev pub variable_of_data : VarData → Variable
variable_of_data d = record { known = d.known; mode = mode_in d.mode; name = d.name }

-- What the code stores for a variable that no step has made known.
abbrev pub unknown_data : VarData
unknown_data = record { known = stored.initial_variable.known; mode = code.Sample; name = None }

-- The data that is stored for a variable, or the data of an unknown variable if none is.
abbrev pub variable_at : Variables → ℕ → Variable
variable_at vs v = variable_of_data (value_at unknown_data vs.data v)

-- The variable that has this name, or `None`.
abbrev pub holder_at : Variables → ℕ → Option ℕ
holder_at vs name = value_at None vs.holders name

-- The variable, made known if the flag is true.
abbrev pub known_if : Bool → Variable → Variable
known_if b x = if b then record x { known = true } else x

-- `StoresVariables vs variables` holds if the code stores the data of these variables, and for every name the variable
-- that has it.
pub record StoresVariables (vs : Variables) (variables : ℕ → Variable) : Type 0 where
  pub each : (v : ℕ) → variable_at vs v ≡ variables v
  pub holders : (name v : ℕ) → (holder_at vs name ≡ Some v) ↔ ((variables v).name ≡ Some name)

-- `KeepsVariableData old new` holds if no variable's data changed.
abbrev pub KeepsVariableData : Variables → Variables → Type 0
KeepsVariableData old new = (v : ℕ) → variable_at new v ≡ variable_at old v

-- `HasDataRoom vs v` holds if the data of variable `v` can be set without allocating.
abbrev pub HasDataRoom : Variables → ℕ → Type 0
HasDataRoom vs v = HasPlaceFor vs.data v

-- `HaveDataRoom vs variables` holds if the data of each of these variables can be set without allocating.
abbrev pub HaveDataRoom : Variables → List ℕ → Type 0
HaveDataRoom vs variables = (v : ℕ) → is_among variables v ≡ true → HasDataRoom vs v

-- `VariablesDecide vs step accepted` holds if `accepted` says whether the rules accept the step, for everything that
-- can be stored with the variables `vs`.
abbrev pub VariablesDecide : Variables → Step → Bool → Type 0
VariablesDecide vs step accepted = (f : Stored) → StoresVariables vs f.variables → MatchBool accepted (Accepts f step) (Accepts f step → ⊥)

-- `VariablesDecideEffect old step new accepted` holds if `accepted` says whether the rules accept the step for
-- everything that can be stored with the variables `old`, and `new` then represents the variables after it.
abbrev pub VariablesDecideEffect : Variables → Step → Variables → Bool → Type 0
VariablesDecideEffect old step new accepted =
    (f : Stored) → StoresVariables old f.variables → MatchBool accepted (Accepts f step × StoresVariables new (effect step f).variables) (Accepts f step → ⊥)

-- `VariablesAllow vs step` holds if the rules accept the step for all stored data with the variables `vs`.
abbrev pub VariablesAllow : Variables → Step → Type 0
VariablesAllow vs step = (f : Stored) → StoresVariables vs f.variables → Accepts f step

-- `AreSampling vs literals` holds if every variable of the literals has the mode sample.
abbrev pub AreSampling : Variables → List ℕ → Type 0
AreSampling vs = AllByRecursion (λ l. (variable_at vs (variable l)).mode ≡ stored.Sample)
