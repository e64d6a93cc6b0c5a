-- Formulas: clauses in the order in which they were added, over codes of literals, and a number of variables.
use Rattle.std.specs.Prelude.{ℕ, ◌+◌, max, List, [], ◌∷◌, ◌++◌}
use Rattle.sat_base.specs.values.Literals.{variable}

-- clauses in the order in which they were added, and the number of variables, which may exceed those that occur
pub record Formula : Type 0 where
  pub var_count : ℕ
  pub clauses : List (List ℕ)

-- the formula without clauses or variables
abbrev pub no_formula : Formula
no_formula = record { var_count = 0; clauses = [] }

-- one more than the index of the highest variable of a clause, or 0 for the empty clause
abbrev pub clause_var_count : List ℕ → ℕ
clause_var_count [] = 0
clause_var_count (l ∷ ls) = max (variable l + 1) (clause_var_count ls)

-- one more than the index of the highest variable of these clauses, or 0 if there is none
abbrev pub clauses_var_count : List (List ℕ) → ℕ
clauses_var_count [] = 0
clauses_var_count (c ∷ cs) = max (clause_var_count c) (clauses_var_count cs)

-- the formula with one more clause, and at least as many variables as this clause needs
abbrev pub with_formula_clause : List ℕ → Formula → Formula
with_formula_clause clause f = record { var_count = max f.var_count (clause_var_count clause); clauses = f.clauses ++ clause ∷ [] }

-- the formula with its number of variables raised to `count` if it is lower
abbrev pub with_at_least_vars : ℕ → Formula → Formula
with_at_least_vars count f = record f { var_count = max f.var_count count }

-- the formula with one more variable, whose index is the old count
abbrev pub with_next_variable : Formula → Formula
with_next_variable f = record f { var_count = f.var_count + 1 }
