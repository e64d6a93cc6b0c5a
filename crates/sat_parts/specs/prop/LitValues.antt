-- The values of literals, indexed by literal code.
use Rattle.std.specs.Prelude.{ℕ, ◌≡◌, ◌+◌, ◌-◌, ◌*◌, ◌<◌, Bool, true, false, Option, None, Some, List, ◌++◌, take, replicate, length, if◌then◌else◌, slice_index_or as get_or, slice_set as set}
use Rattle.sat_base.specs.values.Literals.{variable, is_positive}
use Rattle.sat_parts.specs.prop.Values.{value_of}
use Rattle.sat_parts.specs.declared.prop.lit_values.LitValue.{LitValue}
use Rattle.sat_parts.specs.declared.prop.lit_values.LitValue.TheVariants.{Open, True, False}

-- the value of a literal, given the value of its variable and whether the literal is positive
abbrev pub signed_value : Option Bool → Bool → LitValue
signed_value None positive = Open
signed_value (Some true) positive = if positive then True else False
signed_value (Some false) positive = if positive then False else True

-- `MirrorsValues values codes` holds if `codes`, indexed by literal code, has two entries for each variable of
-- `values`: the values of its positive and of its negative literal (`Open` if the variable is unassigned).
pub record MirrorsValues (values : List (Option Bool)) (codes : List LitValue) : Type 0 where
  pub count : length codes ≡ 2 * length values
  pub each : (l : ℕ) → l < 2 * length values → get_or codes l Open ≡ signed_value (value_of values (variable l)) (is_positive l)

-- the literal values `codes` (indexed by literal code), after both literals of the variable `v` were set to what
-- `value` means for them: `Open` if it is `None`
abbrev pub with_lit_value : ℕ → Option Bool → List LitValue → List LitValue
with_lit_value v value codes = set (set codes (2 * v) (signed_value value true)) (2 * v + 1) (signed_value value false)

-- the values of exactly `count` literals, indexed by literal code: excess ones are cut off, and added ones are
-- unassigned
abbrev pub with_lit_count : ℕ → List LitValue → List LitValue
with_lit_count count codes = take count codes ++ replicate (count - length codes) Open
