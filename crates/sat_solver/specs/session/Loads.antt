-- The match of parts and session after a clause of the formula was loaded and its steps were written.
use Rattle.std.specs.Prelude.{ℕ, ◌≡◌, ◌≤◌, true, List, map, length}
use Rattle.sat_base.specs.steps.Steps.{AddClause, DeleteClause, Satisfied as True}
use Rattle.sat_solver.specs.session.Session.{Session, after, IsAllowedStep}
use Rattle.sat_solver.specs.session.LiveClauses.{with_var}
use Rattle.sat_parts.specs.declared.parts.SearchState.{SearchState}
use Rattle.sat_parts.specs.declared.parts.load.Loaded.{Loaded}
use Rattle.sat_parts.specs.declared.parts.load.Loaded.TheVariants.{Stored, Unit as One, Satisfied, Falsified}
use Rattle.sat_solver.specs.session.Matching.{SessionMatchesParts}

-- `LoadMatches loaded p s global given ls` holds if the parts `p` match the session after the clause `given` is added
-- and, if it is satisfied and has two or more literals, deleted again, in the order `ls`. If it is falsified, unsat is
-- recorded.
abbrev pub LoadMatches : Loaded → SearchState → Session → (ℕ → ℕ) → (given ls : List ℕ) → Type 0
LoadMatches Stored p s global given ls = SessionMatchesParts p (after (AddClause (map (with_var global) given)) s) global
LoadMatches One p s global given ls = SessionMatchesParts p (after (AddClause (map (with_var global) given)) s) global
LoadMatches Satisfied p s global given ls =
    (length ls ≡ 1 → SessionMatchesParts p (after (AddClause (map (with_var global) given)) s) global)
    × (2 ≤ length ls → IsAllowedStep (after (AddClause (map (with_var global) given)) s) (DeleteClause (map (with_var global) ls) True)
    × SessionMatchesParts p (after (DeleteClause (map (with_var global) ls) True) (after (AddClause (map (with_var global) given)) s)) global)
LoadMatches Falsified p s global given ls = (after (AddClause (map (with_var global) given)) s).unsat ≡ true
