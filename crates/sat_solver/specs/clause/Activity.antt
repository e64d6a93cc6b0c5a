-- How bumping activities changes a search.
use Rattle.std.specs.Prelude.{ℕ, ◌<◌, ◌≤◌, List, [], ◌∷◌}
use Rattle.std.specs.List.{Contains}
use Rattle.sat_store.specs.heap.Vsids.{Queue, bumped}
use Rattle.sat_solver.specs.declared.config.SolverConfig.{SolverConfig}
use Rattle.sat_parts.specs.parts.Words.{TrailWordExtends}
use Rattle.sat_solver.specs.session.Session.{Session}
use Rattle.sat_solver.specs.declared.context.Search.{Search}
use Rattle.sat_solver.specs.cdcl.Joint.{SearchInvariant, SameVarsAndAssumptions}

-- `AreBelow vars n` holds if all variables in `vars` are less than `n`
abbrev pub AreBelow : List ℕ → ℕ → Type 0
AreBelow vars n = (v : ℕ) → Contains vars v → v < n

-- `DecaysAreInRange c` holds if both decays of the parameters are 500 to 999 thousandths
abbrev pub DecaysAreInRange : SolverConfig → Type 0
DecaysAreInRange c = (500 ≤ c.vsids_decay) × (c.vsids_decay ≤ 999) × (500 ≤ c.clause_activity_decay) × (c.clause_activity_decay ≤ 999)

-- the queue of variables after each variable in the list was bumped, one after another
abbrev pub all_bumped : List ℕ → Queue → Queue
all_bumped [] q = q
all_bumped (v ∷ vs) q = all_bumped vs (bumped v q)

-- `BumpEffect s c c'` holds if the invariant of the search holds after a bump, variables and assumptions are
-- unchanged, and the word of the trail is unchanged or extended
pub record BumpEffect (s : Session) (c c' : Search) : Type 0 where
  pub search : SearchInvariant s c'
  pub moved : SameVarsAndAssumptions c c'
  pub word : TrailWordExtends c.parts c'.parts
