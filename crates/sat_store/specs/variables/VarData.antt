-- The data of a variable.
use Rattle.std.specs.Prelude.{true, false, None}
use Rattle.sat_store.specs.declared.data.VarData.{VarData}
use Rattle.sat_store.specs.declared.data.SamplingMode.TheVariants.{Sample, Hide}

-- the data of a variable that is not in use: mode hidden, no unit, isolated, not assumed, deleted
abbrev pub unused_variable : VarData
unused_variable = record { sampling_mode = Hide; unit = None; isolated = true; assumed = false; deleted = true }

-- the data of a new variable of the user: of mode sample, without a unit, isolated, not assumed, and in use
abbrev pub user_variable : VarData
user_variable = record { sampling_mode = Sample; unit = None; isolated = true; assumed = false; deleted = false }
