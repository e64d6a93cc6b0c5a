-- The text of a formula, as DIMACS CNF writes it.
use Rattle.std.specs.Prelude.{ℕ, ◌+◌, List, [], ◌∷◌, ◌++◌, length, decimal, codes, if◌then◌else◌}
use Rattle.sat_base.specs.values.Literals.{variable, is_positive}
use Rattle.sat_base.specs.values.Formulas.{Formula}

-- the text of a literal: the number of its variable, counted from 1, after `-` if the literal is negative
abbrev pub number_text : ℕ → List ℕ
number_text l = (if is_positive l then [] else codes "-") ++ decimal (variable l + 1)

-- the line of a clause: every literal followed by a space, then `0` and LF
abbrev pub clause_line : List ℕ → List ℕ
clause_line [] = codes "0\n"
clause_line (l ∷ ls) = number_text l ++ (codes " " ++ clause_line ls)

-- the lines of the clauses, in order
abbrev pub clause_lines : List (List ℕ) → List ℕ
clause_lines [] = []
clause_lines (c ∷ cs) = clause_line c ++ clause_lines cs

-- the line `p cnf V C` with the numbers of variables and clauses, and LF
abbrev pub header_line : ℕ → ℕ → List ℕ
header_line v c = codes "p cnf " ++ (decimal v ++ (codes " " ++ (decimal c ++ codes "\n")))

-- the text of a formula: the header, and then the clauses
unfoldable pub dimacs_text : Formula → List ℕ
dimacs_text f = header_line f.var_count (length f.clauses) ++ clause_lines f.clauses
