-- Whether there is a variable for every new name.
use Rattle.std.specs.Prelude.{ℕ, ◌+◌, ◌-◌, ◌≤◌, ◌==◌, max, not, ◌&&◌, Bool, true, false, is_some, List, [], ◌∷◌, drop, map}
use Rattle.std.specs.List.{list_any}
use Rattle.sat_base.specs.values.Literals.{var_limit, variable}
use Rattle.sat_solver.specs.variables.Counting.{count_to}
use Rattle.sat_solver.specs.variables.Variables.{data_at, global_of, names_used, variables_used}
use Rattle.sat_solver.specs.declared.variables.Variables.{Variables}

-- the names, counted from 0, of literal codes 2v + sign over names: v for each, in order
abbrev pub user_vars_in : List ℕ → List ℕ
user_vars_in = map variable

-- the number of proof variables in use
abbrev pub live_count : Variables → ℕ
live_count n = count_to (variables_used n) (λ v. not (data_at n v).deleted)

-- `is_listed users u` is true if `u` is one of the names `users`
abbrev pub is_listed : List ℕ → ℕ → Bool
is_listed users u = list_any (λ w. w == u) users

-- `reach used users` is the lowest number that is at least `used` and above all names in `users` (counted from 0)
abbrev pub reach : ℕ → List ℕ → ℕ
reach used [] = used
reach used (u ∷ us) = reach (max used (u + 1)) us

-- `is_hidden_name n users u` is true if `u` is one of the names `users` and is not in use
abbrev pub is_hidden_name : Variables → List ℕ → ℕ → Bool
is_hidden_name n users u = not (is_some (global_of n u)) && is_listed users u

-- the number of names in `users` that were used before and are not in use now, each counted once
abbrev pub hidden_count : Variables → List ℕ → ℕ
hidden_count n users = count_to (names_used n) (is_hidden_name n users)

-- the number of names that were used before and are not in use now, among those of the literals `ls` from position `at`
-- on
abbrev pub hidden_count_from : Variables → List ℕ → (at : ℕ) → ℕ
hidden_count_from n ls at = hidden_count n (user_vars_in (drop at ls))

-- the number of names that using `users` (counted from 0) introduces: all never used ones up to the highest in `users`,
-- and those in `users` that were used before and are hidden
abbrev pub introduced_count : Variables → List ℕ → ℕ
introduced_count n users = reach (names_used n) users - names_used n + hidden_count n users

-- `HasVariablesFor n users` holds if there are enough proof variables, at most 2^28 in use, for all names that using
-- `users` (counted from 0) introduces
abbrev pub HasVariablesFor : Variables → List ℕ → Type 0
HasVariablesFor n users = live_count n + introduced_count n users ≤ var_limit

-- `ReportsRoom enough n users` holds if `enough` is true exactly if there are enough proof variables for all names that
-- using `users` introduces
abbrev pub ReportsRoom : Bool → Variables → List ℕ → Type 0
ReportsRoom true n users = HasVariablesFor n users
ReportsRoom false n users = HasVariablesFor n users → ⊥

-- `LeavesRoom old new user` holds if, whenever there were enough proof variables for the names introduced with `user`
-- and any others, there are enough for the others after `user` was introduced
abbrev pub LeavesRoom : Variables → Variables → ℕ → Type 0
LeavesRoom old new user = (us : List ℕ) → HasVariablesFor old (user ∷ us) → HasVariablesFor new us
