-- Steps that learn nothing.
use Rattle.std.specs.Prelude.{ℕ, ◌≡◌, ◌==◌, Bool, true, false, List, [], ◌∷◌, if◌then◌else◌}
use Rattle.std.specs.List.{AllByRecursion}
use Rattle.sat_base.specs.steps.Steps.{Step, AtClause}
use Rattle.sat_checker.specs.LiteralSets.{is_among}
use Rattle.sat_solver.specs.session.AllowedSteps.{OnlyAllowedSteps}
use Rattle.sat_solver.specs.session.Session.{Session, rup_assumptions, IsAllowedStep}
use Rattle.sat_solver.specs.session.Empowering.{AreConsistent, UnitPropagates, StaysUnassignedInSession}

-- the literals of a clause except all occurrences of `l`
abbrev pub others_of : ℕ → List ℕ → List ℕ
others_of l [] = []
others_of l (m ∷ ms) = if m == l then others_of l ms else m ∷ others_of l ms

-- `LeavesLiteralUnassigned s clause l` holds if `l` is in `clause`, and unit propagation over live clauses, from the
-- units and the negations of its other literals, finds no conflict and never assigns `l`; the starting literals are
-- consistent
pub record LeavesLiteralUnassigned (s : Session) (clause : List ℕ) (l : ℕ) : Type 0 where
  pub among : is_among clause l ≡ true
  pub agree : AreConsistent (rup_assumptions s (others_of l clause))
  pub stays : (picked : List (List ℕ)) (reached : ℕ → Bool) → UnitPropagates s (rup_assumptions s (others_of l clause)) picked reached → StaysUnassignedInSession s l reached

-- `IsNeverEmpowering s step` holds if `step` is no `AtClause` step, or its clause is empowering for none of its
-- literals: unit propagation from the negations of the others assigns it or finds a conflict
abbrev pub IsNeverEmpowering : Session → Step → Type 0
IsNeverEmpowering s (AtClause redundant clause hashes) = (l : ℕ) → LeavesLiteralUnassigned s clause l → ⊥
IsNeverEmpowering s step = Unit {0}

-- `has_at_most_one hashes` is true if the list has at most one element
abbrev pub has_at_most_one : List ℕ → Bool
has_at_most_one [] = true
has_at_most_one (h ∷ []) = true
has_at_most_one (h ∷ g ∷ hs) = false

-- `is_quiet step` is true unless `step` is an `AtClause` step that derives a nonempty clause with two or more hashes;
-- so `UnitClauses` steps are quiet
abbrev pub is_quiet : Step → Bool
is_quiet (AtClause redundant [] hashes) = true
is_quiet (AtClause redundant (l ∷ ls) hashes) = has_at_most_one hashes
is_quiet step = true

-- `AreQuiet steps` holds if none of `steps` is an `AtClause` step that derives a nonempty clause with two or more
-- hashes
abbrev pub AreQuiet : List Step → Type 0
AreQuiet = AllByRecursion (λ step. is_quiet step ≡ true)

-- `MakesOnlyQuiet from to` holds if `to` is `from` with further steps, none of which is an `AtClause` step that derives
-- a nonempty clause with two or more hashes
abbrev pub MakesOnlyQuiet : (from to : List Step) → Type 0
MakesOnlyQuiet = OnlyAllowedSteps (λ earlier step. is_quiet step ≡ true)

-- `QuietIsNeverEmpowering` holds if an allowed `AtClause` step that derives the empty clause, or a clause with at most
-- one hash, never derives a clause that is empowering for one of its literals
abbrev pub QuietIsNeverEmpowering : Type 0
QuietIsNeverEmpowering = (s : Session) (step : Step) → IsAllowedStep s step → is_quiet step ≡ true → IsNeverEmpowering s step
