-- The literals that are true in a search.
use Rattle.std.specs.Prelude.{ℕ, ◌+◌, Bool, Option, None, Some, List, [], ◌∷◌, ◌++◌}
use Rattle.sat_base.specs.values.Literals.{mk_lit}

-- the true literal of the variable `v`, given its value, as a list of one; the empty list for `None`
abbrev pub literal_of : ℕ → Option Bool → List ℕ
literal_of v None = []
literal_of v (Some b) = mk_lit v b ∷ []

-- the true literals, by increasing variable, given the values of the variables from `v` on
abbrev pub true_lits : ℕ → List (Option Bool) → List ℕ
true_lits v [] = []
true_lits v (x ∷ values) = literal_of v x ++ true_lits (v + 1) values
