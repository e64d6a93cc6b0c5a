-- The progress of the engine.
use Rattle.std.specs.Prelude.{ℕ, ◌≡◌, ◌/◌, ◌&&◌, not, false, Bool, Option, is_some, List, length, nat_lt, count_by}
use Rattle.sat_store.specs.declared.clause.tier.Tier.{Tier}
use Rattle.sat_store.specs.declared.clause.tier.Tier.TheVariants as tiers
use Rattle.sat_checker.specs.declared.processing.ProofProcessor.{Ghosts}
use Rattle.sat_parts.specs.clause.Db.{is_live_in_tier}
use Rattle.sat_parts.specs.prop.Binaries.{implications}
use Rattle.sat_parts.specs.prop.Values.{value_of}
use Rattle.sat_solver.specs.declared.variables.Variables.{Variables}
use Rattle.sat_parts.specs.declared.parts.SearchState.{SearchState}
use Rattle.sat_solver.specs.declared.progress.Progress.{Progress}
use Rattle.sat_solver.specs.declared.solver.Engine.{Engine}
use Rattle.sat_solver.specs.declared.state.SatState.TheVariants as states
use Rattle.sat_solver.specs.variables.Counting.{count_to}
use Rattle.sat_solver.specs.variables.Variables.{global_at, indices_used}
use Rattle.sat_solver.specs.solver.View.{answer_in, engine_has_failed}
use Rattle.sat_solver.specs.solver.Whole.{EngineInvariant}

-- `is_unassigned_at n values x` is true if a proof variable has the index `x`, and `values` has no value for it
abbrev pub is_unassigned_at : Variables → List (Option Bool) → ℕ → Bool
is_unassigned_at n values x = is_some (global_at n x) && (nat_lt x (length values) && not (is_some (value_of values x)))

-- the number of indices that a proof variable has and that have no value in `values`
abbrev pub unassigned_count : Variables → List (Option Bool) → ℕ
unassigned_count n values = count_to (indices_used n) (is_unassigned_at n values)

-- the number of indices that a proof variable has and that have no value in the search
abbrev pub solver_unassigned_count : {W L : Type 0} {G : Ghosts L} → Engine W L G → ℕ
solver_unassigned_count s = unassigned_count s.names s.context.search.parts.assignment.current

-- `EngineIsOngoing s` holds if the invariant holds, no call failed, and the clauses are not known to be unsatisfiable
pub record EngineIsOngoing {W L : Type 0} {G : Ghosts L} (s : Engine W L G) : Type 0 where
  pub solver : EngineInvariant s
  pub going : engine_has_failed s ≡ false
  pub left : answer_in s ≡ states.Unsat → ⊥

-- the number of stored clauses of three or more literals that have this tier and were not deleted
abbrev pub live_count_of_tier : SearchState → Tier → ℕ
live_count_of_tier p tier = count_by (is_live_in_tier p.clauses tier) p.db.refs

-- `CountsClauses r p` holds if the counts of clauses in `r` are those of the search: binary ones (two implications
-- each), and longer ones by tier
pub record CountsClauses (r : Progress) (p : SearchState) : Type 0 where
  pub binary : r.binary ≡ implications p.binary.implied / 2
  pub irred : r.irred ≡ live_count_of_tier p tiers.Irred
  pub core : r.core ≡ live_count_of_tier p tiers.Core
  pub mid : r.mid ≡ live_count_of_tier p tiers.Mid
  pub local : r.local ≡ live_count_of_tier p tiers.Local

-- `CountsClausesIn r s` holds if the counts of clauses in `r` are those of the engine's search: binary ones, and longer
-- ones by tier
abbrev pub CountsClausesIn : {W L : Type 0} {G : Ghosts L} → Progress → Engine W L G → Type 0
CountsClausesIn r s = CountsClauses r s.context.search.parts
