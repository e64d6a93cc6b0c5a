-- A restart, down to level 0.
use Rattle.std.specs.Prelude.{◌≡◌, []}
use Rattle.sat_parts.specs.parts.Assumed.{PlacesAreCorrect}
use Rattle.sat_parts.specs.parts.Frame.{SameClauses, AddsNoUnit}
use Rattle.sat_parts.specs.parts.Whole.{state, SearchStateInvariant}
use Rattle.sat_parts.specs.parts.Words.{KeepsRemovedAndIdleForAll}
use Rattle.sat_solver.specs.session.Session.{Session}
use Rattle.sat_solver.specs.cdcl.Joint.{HasClearFlags, SearchInvariant, SameVarsAndAssumptions}
use Rattle.sat_solver.specs.declared.context.Search.{Search}

-- `FullyRestarted c c'` holds if all decision levels of the search `c` were undone: `c'` is at level 0, its clauses,
-- units, variables and list of assumptions are unchanged, and the invariant of the search still holds if it did
pub record FullyRestarted (c c' : Search) : Type 0 where
  pub bottom : c'.parts.trail.starts ≡ []
  pub holds : SearchStateInvariant c'.parts
  pub same : SameClauses c.parts c'.parts
  pub carries : AddsNoUnit (state c.parts) (state c'.parts)
  pub stay : KeepsRemovedAndIdleForAll c.parts c'.parts
  pub placed : PlacesAreCorrect c'.assumptions (state c'.parts)
  pub moved : SameVarsAndAssumptions c c'
  pub rest : c' ≡ record c { parts = c'.parts; assumptions = c'.assumptions }
  pub free : HasClearFlags c → HasClearFlags c'
  pub search : (s : Session) → SearchInvariant s c → SearchInvariant s c'
