-- Undoing of levels.
use Rattle.std.specs.Prelude.{ℕ, Bool, true, false, Option, Some, None, List, [], ◌∷◌, drop, slice_index_or as get_or, slice_set as set}
use Rattle.sat_base.specs.values.Literals.{variable}
use Rattle.sat_parts.specs.prop.Values.{Values, value_of}
use Rattle.sat_store.specs.heap.Vsids.{Queue, with_available}
use Rattle.sat_parts.specs.prop.Trails.{TrailState}

-- `is_some_true value` is true if `value` is `Some true`.
abbrev pub is_some_true : Option Bool → Bool
is_some_true None = false
is_some_true (Some b) = b

-- the values with these current values, and these last values
abbrev pub values_of : List (Option Bool) → List Bool → Values
values_of current last = record { current = current; last = last }

-- the values after the variable of the literal `l` became unassigned; the value it had is its saved phase from then on
abbrev pub with_value_lost : ℕ → Values → Values
with_value_lost l a = record { current = set a.current (variable l) None; last = set a.last (variable l) (is_some_true (value_of a.current (variable l))) }

-- the values after the variables of all literals `ls` became unassigned, with their old values as saved phases
abbrev pub with_values_lost : List ℕ → Values → Values
with_values_lost [] a = a
with_values_lost (l ∷ ls) a = with_values_lost ls (with_value_lost l a)

-- the literals on the trail at levels above `level`, in order of assignment; `level` must be lower than the current
-- level
abbrev pub lits_above_level : ℕ → TrailState → List ℕ
lits_above_level level t = drop (get_or t.starts level 0) t.lits

-- the decision queue, after the variables of the literals `ls` were made available for decisions
abbrev pub with_all_available : List ℕ → Queue → Queue
with_all_available [] q = q
with_all_available (l ∷ ls) q = with_all_available ls (with_available (variable l) true q)

-- the values after the variables of all literals of the trail `t` above `level` became unassigned, with their old
-- values as saved phases
abbrev pub with_levels_undone : ℕ → TrailState → Values → Values
with_levels_undone level t a = with_values_lost (lits_above_level level t) a
