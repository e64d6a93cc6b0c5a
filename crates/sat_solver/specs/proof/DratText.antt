-- The text of a DRAT proof, in decimal or in binary.
use Rattle.std.specs.Prelude.{ℕ, ◌+◌, Bool, true, false, List, [], ◌∷◌, ◌++◌, codes}
use Rattle.sat_base.specs.dimacs.DimacsText.{clause_line}
use Rattle.sat_base.specs.steps.StepBytes.{number_bytes}
use Rattle.sat_base.specs.steps.Steps.{Step, AtClause, UnitClauses, DeleteClause}

-- a DRAT line: a derived or a deleted clause, with its literals as codes 2v + sign
pub data DratLine : Type 0 where
  Derives : List ℕ → DratLine
  Deletes : List ℕ → DratLine

-- one line per derived unit, in order; of each pair, only the literal is used, not the hash
abbrev pub unit_lines : List (ℕ × ℕ) → List DratLine
unit_lines [] = []
unit_lines (u ∷ us) = Derives (u.0 ∷ []) ∷ unit_lines us

-- the DRAT lines of a step, in order: one for a derived or deleted clause, one per derived unit, and none for any other
-- step (so none for a clause of the formula)
abbrev pub drat_lines : Step → List DratLine
drat_lines (AtClause redundant clause hashes) = Derives clause ∷ []
drat_lines (UnitClauses us) = unit_lines us
drat_lines (DeleteClause clause proof) = Deletes clause ∷ []
drat_lines step = []

-- DECIMAL: `d ` before a deleted clause; each literal's number and a space; `0` and LF.
-- BINARY: `a` or `d`; each literal's code plus 2, in groups of seven bits, low group first; a zero byte.

-- a clause in binary: each literal code plus 2 as a number in groups of seven bits, and then a zero byte
abbrev pub binary_clause_bytes : List ℕ → List ℕ
binary_clause_bytes [] = 0 ∷ []
binary_clause_bytes (l ∷ ls) = number_bytes (l + 2) ++ binary_clause_bytes ls

-- the bytes before the literals of a line: decimal, nothing or `d `; binary, `a` or `d` for a derived or a deleted
-- clause
abbrev pub line_prefix : (binary deleted : Bool) → List ℕ
line_prefix false false = []
line_prefix false true = codes "d "
line_prefix true false = codes "a"
line_prefix true true = codes "d"

-- the bytes of the literals of a clause and of the end of its line, in binary or in decimal
abbrev pub clause_text : (binary : Bool) → List ℕ → List ℕ
clause_text false clause = clause_line clause
clause_text true clause = binary_clause_bytes clause

-- the bytes of a DRAT line: its prefix and its clause, in binary or in decimal
abbrev pub drat_line_text : (binary : Bool) → DratLine → List ℕ
drat_line_text binary (Derives clause) = line_prefix binary false ++ clause_text binary clause
drat_line_text binary (Deletes clause) = line_prefix binary true ++ clause_text binary clause

-- the bytes of DRAT lines, in order, in binary or in decimal
abbrev pub drat_lines_text : (binary : Bool) → List DratLine → List ℕ
drat_lines_text binary [] = []
drat_lines_text binary (x ∷ xs) = drat_line_text binary x ++ drat_lines_text binary xs

-- the bytes of the DRAT lines of a step, in binary or in decimal; empty for a step without lines
abbrev pub drat_text : (binary : Bool) → Step → List ℕ
drat_text binary step = drat_lines_text binary (drat_lines step)
