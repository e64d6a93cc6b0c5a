-- Laws of sessions.
use Rattle.std.specs.Prelude.{ℕ, ◌≡◌, true, List, [], ◌∷◌}
use Rattle.sat_base.specs.values.Clauses.{Valuation, literal_true, AllLitsTrue, AllClausesTrue}
use Rattle.sat_base.specs.steps.Steps.{Step, AddClause, Model, FailedAssumptions}
use Rattle.sat_checker.specs.Fold.{Holds}
use Rattle.sat_checker.specs.Stored.{Stored}
use Rattle.sat_checker.specs.Accepts.{Accepts, AcceptsAll, ready_after}
use Rattle.sat_solver.specs.session.Session.{Session, IsAllowedStep, AreAllowedSteps, session_after}
use Rattle.sat_solver.specs.session.MatchesStored.{MatchesStored}

-- `AllowedIsAccepted` holds if a checker whose stored formula matches a session accepts every step that the session
-- allows
abbrev pub AllowedIsAccepted : Type 0
AllowedIsAccepted = (s : Session) (f : Stored) (step : Step) → MatchesStored s f → IsAllowedStep s step → Accepts f step

-- `SessionsAreAccepted` holds if the checker accepts all steps of every list in which each is allowed after those
-- before it, and the session and the checker's stored formula match afterwards
abbrev pub SessionsAreAccepted : Type 0
SessionsAreAccepted = (steps : List Step) → AreAllowedSteps steps → AcceptsAll steps × MatchesStored (session_after steps) (ready_after steps)

-- the clauses that the steps added, the newest first
abbrev pub added : List Step → List (List ℕ)
added [] = []
added (AddClause clause ∷ earlier) = clause ∷ added earlier
added (step ∷ earlier) = added earlier

-- `CoresAreRight` holds if no valuation satisfies both the added clauses and all literals of a failed core that may be
-- written after them
abbrev pub CoresAreRight : Type 0
CoresAreRight = (steps : List Step) (core hashes : List ℕ) (a : Valuation) → AreAllowedSteps (FailedAssumptions core hashes ∷ steps) → AllClausesTrue a (added steps) → AllLitsTrue a core → ⊥

-- `UnsatIsRight` holds if no valuation satisfies the added clauses once unsat is recorded
abbrev pub UnsatIsRight : Type 0
UnsatIsRight = (steps : List Step) (a : Valuation) → AreAllowedSteps steps → (session_after steps).unsat ≡ true → AllClausesTrue a (added steps) → ⊥

-- `ModelsAreRight` holds if the steps admit every valuation that satisfies all units and all literals of a model that
-- may be written after them
abbrev pub ModelsAreRight : Type 0
ModelsAreRight = (steps : List Step) (ls : List ℕ) (a : Valuation) → AreAllowedSteps (Model ls ∷ steps) → AllLitsTrue a ls → ((l : ℕ) → (session_after steps).units l ≡ true → literal_true a l ≡ true) → Holds steps a
