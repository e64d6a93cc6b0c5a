-- DRAT derivations: the lines of the steps, over the clauses of the formula. Clauses are sorted sets of literals,
-- counted with multiplicity. Lists of steps have the newest first.
use Rattle.std.specs.Prelude.{ℕ, ◌<◌, ◌≡◌, true, List, [], ◌∷◌, map, if◌then◌else◌}
use Rattle.std.specs.List.{AllByRecursion}
use Rattle.sat_base.specs.values.Literals.{negated}
use Rattle.sat_base.specs.steps.Steps.{Step, AddClause}
use Rattle.sat_checker.specs.LiteralSets.{canonical, same_literals}
use Rattle.sat_checker.specs.Propagation.{UnitInTurn}
use Rattle.sat_solver.specs.proof.DratText.{DratLine, Derives, Deletes, drat_lines}
use Rattle.sat_checker.specs.Contents.{plus_one_if}
use Rattle.sat_solver.specs.session.Session.{AreAllowedSteps, session_after}

-- `multiplicity set clauses` is the number of clauses in the list that have exactly the literals of `set`, in any order
-- and with any repetitions
abbrev pub multiplicity : List ℕ → List (List ℕ) → ℕ
multiplicity set [] = 0
multiplicity set (c ∷ cs) = plus_one_if (same_literals c set) (multiplicity set cs)

-- `without_set set clauses` is the list without its first clause that has exactly the literals of `set`; unchanged if
-- there is none
abbrev pub without_set : List ℕ → List (List ℕ) → List (List ℕ)
without_set set [] = []
without_set set (c ∷ cs) = if same_literals c set then cs else c ∷ without_set set cs

-- the multiset of clauses present after a line: a derived clause is added, sorted and without repeated literals; of a
-- deleted one, one copy is removed
abbrev pub clauses_after_line : DratLine → List (List ℕ) → List (List ℕ)
clauses_after_line (Derives clause) cs = canonical clause ∷ cs
clauses_after_line (Deletes clause) cs = without_set (canonical clause) cs

-- the clauses present after several lines, of which the first in the list comes first
abbrev pub clauses_after_lines : List DratLine → List (List ℕ) → List (List ℕ)
clauses_after_lines [] cs = cs
clauses_after_lines (x ∷ xs) cs = clauses_after_lines xs (clauses_after_line x cs)

-- the clauses present after a step: `AddClause` adds its clause though it has no DRAT line, any other step changes what
-- its lines change
abbrev pub clauses_after_step : Step → List (List ℕ) → List (List ℕ)
clauses_after_step (AddClause clause) cs = canonical clause ∷ cs
clauses_after_step step cs = clauses_after_lines (drat_lines step) cs

-- the clauses present after `steps` (newest first): added or derived, and not deleted, each as often as it is present
abbrev pub present_clauses : List Step → List (List ℕ)
present_clauses [] = []
present_clauses (step ∷ earlier) = clauses_after_step step (present_clauses earlier)

-- `RefutesByUnits cs assumed` holds if unit propagation over the clauses `cs` from the literals `assumed` finds a
-- conflict: some of the clauses are unit in turn, and the last one is falsified
pub record RefutesByUnits (cs : List (List ℕ)) (assumed : List ℕ) : Type 0 where
  pub named : List (List ℕ)
  pub are_present : AllByRecursion (λ c. 0 < multiplicity c cs) named
  pub turns : UnitInTurn assumed named

-- `DratLineIsCorrect line cs` holds if the line is correct when the clauses `cs` are present: unit propagation refutes
-- the negation of a derived clause (RUP), and a deleted clause is present
abbrev pub DratLineIsCorrect : DratLine → List (List ℕ) → Type 0
DratLineIsCorrect (Derives clause) cs = RefutesByUnits cs (map negated clause)
DratLineIsCorrect (Deletes clause) cs = 0 < multiplicity (canonical clause) cs

-- `DratLinesAreCorrect lines cs` holds if all lines are correct, the first when the clauses `cs` are present, every
-- other one after the lines before it
abbrev pub DratLinesAreCorrect : List DratLine → List (List ℕ) → Type 0
DratLinesAreCorrect [] cs = Unit {0}
DratLinesAreCorrect (x ∷ xs) cs = DratLineIsCorrect x cs × DratLinesAreCorrect xs (clauses_after_line x cs)

-- `IsDratDerivation steps` holds if the DRAT lines of every step are correct (RUP, or a deletion of a present clause)
-- after the steps before it; `steps` has the newest first
abbrev pub IsDratDerivation : List Step → Type 0
IsDratDerivation [] = Unit {0}
IsDratDerivation (step ∷ earlier) = IsDratDerivation earlier × DratLinesAreCorrect (drat_lines step) (present_clauses earlier)

-- `DratIsCorrect` holds if the DRAT lines of any allowed steps are a correct derivation and, once the steps have
-- recorded unsat, unit propagation refutes the clauses that are left
abbrev pub DratIsCorrect : Type 0
DratIsCorrect = (steps : List Step) → AreAllowedSteps steps → IsDratDerivation steps × ((session_after steps).unsat ≡ true → RefutesByUnits (present_clauses steps) [])
