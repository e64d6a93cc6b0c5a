-- Models over the proof's variables and over names.
use Rattle.std.specs.Prelude.{ℕ, zero, suc, ◌∷◌, ◌++◌, [], Bool, false, Option, None, Some, List, get_or, if◌then◌else◌}
use Rattle.sat_base.specs.values.Literals.{mk_lit}
use Rattle.sat_solver.specs.variables.Variables.{data_at, global_of, solver_of}
use Rattle.sat_solver.specs.declared.variables.Variables.{Variables}

-- `has_true_value value` is true if `value` is `Some true`; false for `None`
abbrev pub has_true_value : Option Bool → Bool
has_true_value None = false
has_true_value (Some b) = b

-- `value_by index values unit` is the value of a variable: that of its index in `values` if it has one, otherwise its
-- unit's; false if there is no value
abbrev pub value_by : Option ℕ → List (Option Bool) → Option Bool → Bool
value_by None values unit = has_true_value unit
value_by (Some x) values unit = has_true_value (get_or values x None)

-- `value_in n values v` is true if the proof variable `v` is true when the search has these values: by its index if it
-- has one, otherwise by its unit; a variable without a value is false
abbrev pub value_in : Variables → List (Option Bool) → ℕ → Bool
value_in n values v = value_by (solver_of n v) values (data_at n v).unit

-- `literal_in n values v` has one literal code, of the proof variable `v` with its value (negative if it has none), or
-- none if the variable is not in use
abbrev pub literal_in : Variables → List (Option Bool) → ℕ → List ℕ
literal_in n values v = if (data_at n v).deleted then [] else mk_lit v (value_in n values v) ∷ []

-- `model_to n values v` has, for each variable in use below `v`, its literal code with its value in the search, by
-- increasing variable; a variable without a value is false
unfoldable pub model_to : Variables → List (Option Bool) → ℕ → List ℕ
model_to n values zero = []
model_to n values (suc v) = model_to n values v ++ literal_in n values v

-- `name_literal n values u variable` has one literal code, over the name `u` (from 0) with the value of `variable`, or
-- none if `variable` is `None`
abbrev pub name_literal : Variables → List (Option Bool) → ℕ → Option ℕ → List ℕ
name_literal n values u None = []
name_literal n values u (Some v) = mk_lit u (value_in n values v) ∷ []

-- `named_to n values u` has, for each name in use below `u` (from 0), its literal code with the value of its variable,
-- by increasing name; a variable without a value is false
unfoldable pub named_to : Variables → List (Option Bool) → ℕ → List ℕ
named_to n values zero = []
named_to n values (suc u) = named_to n values u ++ name_literal n values u (global_of n u)
