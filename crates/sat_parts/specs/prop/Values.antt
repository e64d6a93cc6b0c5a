-- The values of variables, and so which literals are true, false or unassigned (open).
use Rattle.std.specs.Prelude.{ℕ, ◌≡◌, ◌-◌, Bool, false, not, Option, None, Some, is_none, List, ◌++◌, take, replicate, length, if◌then◌else◌, slice_index_or as get_or, slice_set as set}
use Rattle.sat_base.specs.values.Literals.{variable, is_positive}

-- for every variable its value, or `None`, and its saved phase: the value that it lost last
pub record Values : Type 0 where
  pub current : List (Option Bool)
  pub last : List Bool

-- the value of a variable, or `None` if it is unassigned or does not exist
abbrev pub value_of : List (Option Bool) → ℕ → Option Bool
value_of values v = get_or values v None

-- `is_unassigned_var values v` is true if the variable `v` is unassigned (or does not exist).
abbrev pub is_unassigned_var : List (Option Bool) → ℕ → Bool
is_unassigned_var values v = is_none (value_of values v)

-- `IsTrueLit values l` holds if the literal `l` is true.
abbrev pub IsTrueLit : List (Option Bool) → ℕ → Type 0
IsTrueLit values l = value_of values (variable l) ≡ Some (is_positive l)

-- `IsFalseLit values l` holds if the literal `l` is false.
abbrev pub IsFalseLit : List (Option Bool) → ℕ → Type 0
IsFalseLit values l = value_of values (variable l) ≡ Some (not (is_positive l))

-- `IsUnassignedLit values l` holds if the literal `l` is unassigned.
abbrev pub IsUnassignedLit : List (Option Bool) → ℕ → Type 0
IsUnassignedLit values l = value_of values (variable l) ≡ None

-- the value of a literal, given whether it is positive and the value of its variable
abbrev pub lit_value_from : Bool → Option Bool → Option Bool
lit_value_from positive None = None
lit_value_from positive (Some b) = Some (if positive then b else not b)

-- the values, with the value of one variable set or removed
abbrev pub with_value : ℕ → Option Bool → Values → Values
with_value v value a = record a { current = set a.current v value }

-- the values after the literal became true
abbrev pub with_true_lit : ℕ → Values → Values
with_true_lit l a = with_value (variable l) (Some (is_positive l)) a

-- the values of exactly `count` variables: excess variables are cut off; added ones are unassigned, with saved phase
-- false
abbrev pub with_var_count : ℕ → Values → Values
with_var_count count a = record {
  current = take count a.current ++ replicate (count - length a.current) None;
  last = take count a.last ++ replicate (count - length a.last) false;
}
