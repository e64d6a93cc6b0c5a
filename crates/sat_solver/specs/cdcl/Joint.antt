-- How a search agrees with the session of its steps.
use Rattle.std.specs.Prelude.{ℕ, ◌≡◌, ◌≤◌, ◌<◌, ◌*◌, ◌⊎◌, Some, List, map, length}
use Rattle.sat_parts.specs.clause.Glue.{FlagsAreClear}
use Rattle.sat_parts.specs.parts.Assumed.{HaveVariablesIn, PlacesAreCorrect, variables_of_lits}
use Rattle.sat_parts.specs.parts.Whole.{state}
use Rattle.sat_parts.specs.parts.Words.{IsIdle}
use Rattle.sat_solver.specs.session.Session.{Session}
use Rattle.sat_solver.specs.session.LiveClauses.{with_var}
use Rattle.sat_solver.specs.session.Naming.{global_of_index}
use Rattle.sat_solver.specs.session.Matching.{SearchStateSessionInvariant}
use Rattle.sat_solver.specs.unit_simplify.AfterUnits.{SameSize}
use Rattle.sat_solver.specs.declared.context.Search.{Search}

-- the proof variable of the index `v` of the search, or the last that had it; 0 past the end of the list
abbrev pub global_in : Search → ℕ → ℕ
global_in c = global_of_index c.globals.items

-- the indices of the variables of the search's assumptions
abbrev pub assumed_indices : Search → List ℕ
assumed_indices c = variables_of_lits c.assumptions.lits.items

-- `HasClearFlags c` holds if every variable of the search has a proof variable, there are flags for all variables, and
-- none is set
pub record HasClearFlags (c : Search) : Type 0 where
  pub names : length c.parts.assignment.current ≤ length c.globals.items
  pub size : length c.analysis.flags ≡ length c.parts.assignment.current
  pub clear : FlagsAreClear c.analysis.flags
  pub flags_size : 2 * length c.parts.assignment.current ≤ length c.flags.flags.items
  pub flags_clear : FlagsAreClear c.flags.flags.items

-- `AssumptionsMatch s c` holds if the assumptions of the session `s` are those of the search `c`, in order, with
-- indices mapped to proof variables
abbrev pub AssumptionsMatch : Session → Search → Type 0
AssumptionsMatch s c = s.assumed ≡ map (with_var (global_in c)) c.assumptions.lits.items

-- `SameAssumedAndNames s t` holds if the sessions have the same assumptions, and the same index of each variable
pub record SameAssumedAndNames (s t : Session) : Type 0 where
  pub assumed : t.assumed ≡ s.assumed
  pub names : (v : ℕ) → t.solver_names v ≡ s.solver_names v

-- `AreNamedOrIdle s c` holds if every index of the search belongs, in the session, to the proof variable listed for it,
-- or is idle: unassigned, not pickable and not assumed
abbrev pub AreNamedOrIdle : Session → Search → Type 0
AreNamedOrIdle s c = (v : ℕ) → v < length c.parts.assignment.current → (s.solver_names (global_in c v) ≡ Some v) ⊎ IsIdle (assumed_indices c) (state c.parts) c.parts.vsids v

-- `IsReadySearch s c` holds if no flag of the search is set, its assumptions match those of the session, and every
-- index belongs to the proof variable listed for it in the session, or is idle
pub record IsReadySearch (s : Session) (c : Search) : Type 0 where
  pub free : HasClearFlags c
  pub placed : PlacesAreCorrect c.assumptions (state c.parts)
  pub there : HaveVariablesIn c.assumptions.lits.items c.parts
  pub asked : AssumptionsMatch s c
  pub used : AreNamedOrIdle s c

-- `SearchInvariant s c` holds if the search is consistent in itself, as it is between iterations, and its clauses,
-- units, assumptions and indices match the session `s` of the steps
pub record SearchInvariant (s : Session) (c : Search) : Type 0 where
  pub valid : SearchStateSessionInvariant c.parts s (global_in c)
  pub ready : IsReadySearch s c

-- `SameVarsAndAssumptions c c'` holds if both searches have the same indices, with the same proof variables, and the
-- same list of assumptions
pub record SameVarsAndAssumptions (c c' : Search) : Type 0 where
  pub globals : c'.globals ≡ c.globals
  pub lits : c'.assumptions.lits ≡ c.assumptions.lits
  pub size : SameSize c.parts c'.parts
