-- Maps between variables as lists of codes. The code of an index is one more than its target, or 0 if it has none.
use Rattle.std.specs.Prelude.{ℕ, ◌-◌, ◌==◌, ◌≤◌, if◌then◌else◌, Option, Some, None, List, map, slice_index}
use Rattle.sat_base.specs.values.Literals.{var_limit}

-- the target variable that a code stands for: `None` for 0, otherwise the code minus 1
abbrev pub decoded_target : ℕ → Option ℕ
decoded_target code = if code == 0 then None else Some (code - 1)

-- the map (target of each variable, by index) that a list of codes represents; code 0 is `None`, otherwise one more
-- than the target
abbrev pub targets_of : List ℕ → List (Option ℕ)
targets_of codes = map decoded_target codes

-- `AreTargetCodes codes` holds if every code is 0 (no target) or one more than a variable index below 2^28.
abbrev pub AreTargetCodes : List ℕ → Type 0
AreTargetCodes codes = (v : ℕ) → slice_index codes v ≤ var_limit
