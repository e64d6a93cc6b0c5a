-- Literals as DIMACS writes them.
use Rattle.std.specs.Prelude.{ℕ, ◌+◌, ◌-◌, ◌<ℤ◌, ℤ, pos, negsuc, ◌≡◌, ◌⊎◌, if◌then◌else◌}
use Rattle.sat_base.specs.values.Literals.{var_limit, variable, is_positive}

-- the number of a literal: that of its variable, counted from 1, negative if the literal is
abbrev pub numeral : ℕ → ℤ
numeral l = if is_positive l then pos (variable l + 1) else negsuc (variable l)

-- `IsNotNumeral n` holds if the integer `n` is not the DIMACS number of a literal: it is 0, or its absolute value
-- exceeds 2^28.
abbrev pub IsNotNumeral : ℤ → Type 0
IsNotNumeral n = (n ≡ pos 0) ⊎ (pos var_limit <ℤ n) ⊎ (n <ℤ negsuc (var_limit - 1))

-- `IsNotVariableNumber n` holds if the integer `n` is not the number of a variable, counted from 1: it is below 1 or
-- above 2^28.
abbrev pub IsNotVariableNumber : ℤ → Type 0
IsNotVariableNumber n = (n <ℤ pos 1) ⊎ (pos var_limit <ℤ n)
