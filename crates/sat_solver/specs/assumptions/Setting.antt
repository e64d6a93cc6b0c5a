-- The assumptions of the next ask.
use Rattle.std.specs.Prelude.{ℕ, ◌≡◌, List, map}
use Rattle.sat_base.specs.steps.Steps.{Assumptions}
use Rattle.sat_solver.specs.session.Session.{Session, after}
use Rattle.sat_solver.specs.session.LiveClauses.{with_var, AreMapped}
use Rattle.sat_solver.specs.cdcl.Joint.{global_in, SearchInvariant}
use Rattle.sat_solver.specs.declared.context.Search.{Search}

-- `ReplacesAssumed ls c c'` holds if the search literals `ls` replace the assumptions, and nothing else changed. If
-- their variables have indices in the session, the invariant of the search holds after the `Assumptions` step of these
-- literals.
pub record ReplacesAssumed (ls : List ℕ) (c c' : Search) : Type 0 where
  pub lits : c'.assumptions.lits.items ≡ ls
  pub same : c' ≡ record c { assumptions = c'.assumptions }
  pub search : (s : Session) → SearchInvariant s c → AreMapped (global_in c) s.solver_names ls → SearchInvariant (after (Assumptions (map (with_var (global_in c)) ls)) s) c'
