-- The parts of a search after units were taken off the trail.
use Rattle.std.specs.Prelude.{ℕ, ◌≡◌, [], length}
use Rattle.sat_parts.specs.clause.Db.{live_refs}
use Rattle.sat_parts.specs.declared.parts.SearchState.{SearchState}
use Rattle.sat_parts.specs.declared.parts.assumptions.Assumptions.{Assumptions}
use Rattle.sat_parts.specs.parts.Assumed.{PlacesAreCorrect}
use Rattle.sat_parts.specs.parts.Whole.{state, IsFullyPropagated}
use Rattle.sat_parts.specs.parts.Words.{TrailWordExtends}
use Rattle.sat_solver.specs.session.Session.{Session}
use Rattle.sat_solver.specs.session.Matching.{SearchStateSessionInvariant}
use Rattle.sat_solver.specs.session.Units.{MatchesWithUnits}

-- `LevelZeroLitsAreUnits p s global` holds if the parts match the session, and every literal that is true at level 0 is
-- a unit of the session
abbrev pub LevelZeroLitsAreUnits : SearchState → Session → (ℕ → ℕ) → Type 0
LevelZeroLitsAreUnits p s global = MatchesWithUnits p.clauses (live_refs p.clauses p.db.refs) p.binary.implied (state p) s global

-- `SameSize p p'` holds if the number of indices of the search is unchanged
abbrev pub SameSize : SearchState → SearchState → Type 0
SameSize p p' = length p'.assignment.current ≡ length p.assignment.current

-- `TakesUnitsOff p p' s global` holds if units were taken off the trail: `p'` matches the session, nothing is left to
-- propagate and, if no level is open, the trail is empty; levels and number of variables are unchanged
pub record TakesUnitsOff (p p' : SearchState) (s : Session) (global : ℕ → ℕ) : Type 0 where
  pub valid : SearchStateSessionInvariant p' s global
  pub done : IsFullyPropagated p'
  pub starts : p'.trail.starts ≡ p.trail.starts
  pub empty : p.trail.starts ≡ [] → p'.trail.lits ≡ []
  pub word : TrailWordExtends p p'
  pub size : SameSize p p'
  pub placed : (a : Assumptions) → PlacesAreCorrect a (state p) → PlacesAreCorrect a (state p')
