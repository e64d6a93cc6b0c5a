-- When a session and the checker's stored formula agree.
use Rattle.std.specs.Prelude.{ℕ, ◌≡◌, Bool, Some, List}
use Rattle.sat_checker.specs.Stored.{Stored, is_unit}
use Rattle.sat_checker.specs.Storing.{last_literals}
use Rattle.sat_checker.specs.Contents.{count_of}
use Rattle.sat_checker.specs.Invariants.{AreDistinctSets, HaveCounts}
use Rattle.sat_solver.specs.session.Session.{Session}

-- `MatchesStored s f` holds if the session and the checker's stored formula have the same live clauses, as often, and
-- the same units, unsat, variables, indices, width and assumptions. A clause that the session records as derived last
-- is the checker's last one.
pub record MatchesStored (s : Session) (f : Stored) : Type 0 where
  pub live : (r : Bool) (set : List ℕ) → count_of r set f.clauses ≡ s.live r set
  pub units : (l : ℕ) → is_unit f l ≡ s.units l
  pub unsat : f.unsat ≡ s.unsat
  pub variables : f.variables ≡ s.variables
  pub solver_names : f.solver_names ≡ s.solver_names
  pub width : f.width ≡ s.width
  pub assumed : f.assumed ≡ s.assumed
  pub last : (set : List ℕ) → s.last ≡ Some set → last_literals f.last f ≡ Some set
  -- these are facts about the checker only
  pub once : AreDistinctSets f.clauses
  pub counted : HaveCounts f.clauses
