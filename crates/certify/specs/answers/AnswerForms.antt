-- Literal codes as literals of names, and the outcomes that an answer may print.
use Rattle.std.specs.Prelude.{ℕ, ◌+◌, ◌<◌, ◌≤◌, List, [], ◌∷◌, map}
use Rattle.std.specs.List.{AllByRecursion}
use Rattle.sat_base.specs.values.Literals.{var_limit, variable, is_positive}
use Rattle.sat_base.specs.script.Script.{Literal, names_of, AreSortedLiterals}
use Rattle.sat_checker.specs.matching.Expected.{Outcome, Sat, Unsat, Unknown}

-- the literal for a literal code (2v + sign): its name is v + 1, where v is its variable's index
abbrev pub named_literal : ℕ → Literal
named_literal l = record { name = variable l + 1; positive = is_positive l }

-- the literals for these literal codes, in order
abbrev pub named_literals : List ℕ → List Literal
named_literals = map named_literal

-- `IsName n` holds if the name is at least 1 and at most `var_limit` (2^28).
abbrev pub IsName : ℕ → Type 0
IsName n = (1 ≤ n) × (n ≤ var_limit)

-- `HaveNames ls` holds if the name of every literal is from 1 to `var_limit` (2^28).
abbrev pub HaveNames : List Literal → Type 0
HaveNames = AllByRecursion (λ l. IsName l.name)

-- `NamesStrictlyIncrease names` holds if each name is greater than the one before it.
abbrev pub NamesStrictlyIncrease : List ℕ → Type 0
NamesStrictlyIncrease [] = Unit {0}
NamesStrictlyIncrease (n ∷ []) = Unit {0}
NamesStrictlyIncrease (n ∷ m ∷ ns) = (n < m) × NamesStrictlyIncrease (m ∷ ns)

-- the literals of an outcome: those of its model or its core, or none if it is unknown
abbrev pub literals_of : Outcome → List Literal
literals_of (Sat line) = line
literals_of (Unsat core) = core
literals_of Unknown = []

-- `LiteralsAreInOrder o` holds if the literals of the outcome are in order: those of a model by strictly increasing
-- name, those of a core by name without repeats, with `n` before `-n` (`AreSortedLiterals`).
abbrev pub LiteralsAreInOrder : Outcome → Type 0
LiteralsAreInOrder (Sat line) = NamesStrictlyIncrease (names_of line)
LiteralsAreInOrder (Unsat core) = AreSortedLiterals core
LiteralsAreInOrder Unknown = Unit {0}

-- `IsPrintable o` holds if the outcome is in form, so that an answer may print it: its names are from 1 to 2^28, and
-- its literals are in order (`LiteralsAreInOrder`). It need not be correct.
abbrev pub IsPrintable : Outcome → Type 0
IsPrintable o = HaveNames (literals_of o) × LiteralsAreInOrder o
