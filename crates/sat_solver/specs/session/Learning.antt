-- How learning a clause preserves the match of parts and session.
use Rattle.std.specs.Prelude.{ℕ, Bool, List, map}
use Rattle.sat_base.specs.steps.Steps.{AtClause}
use Rattle.sat_store.specs.clause.Header.{Header}
use Rattle.sat_solver.specs.session.Session.{Session, after}
use Rattle.sat_solver.specs.session.LiveClauses.{with_var, AreMapped}
use Rattle.sat_parts.specs.declared.parts.SearchState.{SearchState}
use Rattle.sat_solver.specs.session.Matching.{SessionMatchesParts, FlagMatches}

-- `MatchesAfterLearning p p' header ls` holds if every session that matches the parts `p` matches the parts `p'` after
-- the step that derives the clause `ls`, with a redundancy that fits `header`
abbrev pub MatchesAfterLearning : SearchState → SearchState → Header → List ℕ → Type 0
MatchesAfterLearning p p' header ls =
    (s : Session) (global : ℕ → ℕ) (hashes : List ℕ) (flag : Bool) → FlagMatches flag header ls → AreMapped global s.solver_names ls → SessionMatchesParts p s global → SessionMatchesParts p' (after (AtClause flag (map (with_var global) ls) hashes) s) global
