-- The part of an analysis that adding literals changes.
use Rattle.std.specs.Prelude.{ℕ, Bool, List, []}
use Rattle.sat_solver.specs.analyze_conflict.AnalysisState.{AnalysisState, analysis_state}

-- the state of an analysis with this clause, seen variables, flags and pending count; its lists of used literals,
-- antecedents and core literals are empty
abbrev pub added_state : (clause seen : List ℕ) (flags : List Bool) (pending : ℕ) → AnalysisState
added_state clause seen flags pending = analysis_state clause [] seen [] [] flags pending
