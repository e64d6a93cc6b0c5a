-- A session and a list of live clauses, while steps are written that do not change the parts yet.
use Rattle.std.specs.Prelude.{ℕ, ◌≡◌, ◌<◌, Bool, true, false, Some, List, ◌++◌}
use Rattle.sat_base.specs.values.Literals.{variable}
use Rattle.sat_base.specs.steps.Steps.{Step, UserVarName, ChangeSamplingMode, Model, Assumptions, FailedAssumptions, End}
use Rattle.sat_checker.specs.LiteralSets.{is_tautology}
use Rattle.sat_parts.specs.clause.Db.{live_refs}
use Rattle.sat_parts.specs.prop.Values.{IsTrueLit}
use Rattle.sat_parts.specs.prop.State.{PropagationState, level}
use Rattle.sat_solver.specs.session.Session.{Session}
use Rattle.sat_solver.specs.session.LiveClauses.{LiveClause, with_var, AreLiveClausesOf}
use Rattle.sat_solver.specs.session.SolverClauses.{longs, binaries_left}
use Rattle.sat_parts.specs.declared.parts.SearchState.{SearchState}
use Rattle.sat_parts.specs.parts.Whole.{state}
use Rattle.sat_parts.specs.parts.Frame.{IsUnitLit}
use Rattle.sat_solver.specs.session.Matching.{is_redundant}

-- `MatchesClauseList cs st s global` holds if the live clauses of the session `s` are `cs`, unsat is not recorded, and
-- the width is 64. Every unit of the search is a unit of the session, and units of the session over indexed variables
-- are true at level 0.
pub record MatchesClauseList (cs : List LiveClause) (st : PropagationState) (s : Session) (global : ℕ → ℕ) : Type 0 where
  pub clauses : AreLiveClausesOf s global cs
  pub known : (l : ℕ) → IsUnitLit st l → s.units (with_var global l) ≡ true
  pub sound : (l : ℕ) → s.solver_names (global (variable l)) ≡ Some (variable l) → s.units (with_var global l) ≡ true → IsTrueLit st.values l × (level st l ≡ 0)
  pub consistent : s.unsat ≡ false
  pub width : s.width ≡ 64

-- `SameFacts s t` holds if the two sessions have the same units, indices, unsat flag and width
pub record SameFacts (s t : Session) : Type 0 where
  pub names : (v : ℕ) → t.solver_names v ≡ s.solver_names v
  pub units : (l : ℕ) → t.units l ≡ s.units l
  pub unsat : t.unsat ≡ s.unsat
  pub width : t.width ≡ s.width

-- `HasNoTautology s` holds if no live clause has both signs of a variable
abbrev pub HasNoTautology : Session → Type 0
HasNoTautology s = (r : Bool) (set : List ℕ) → 0 < s.live r set → is_tautology set ≡ false

-- `ChangesNoClause step` holds if `step` is about names, modes, assumptions, answers or the end, so that it leaves
-- clauses, units, indices and width unchanged
abbrev pub ChangesNoClause : Step → Type 0
ChangesNoClause (UserVarName v name) = Unit {0}
ChangesNoClause (ChangeSamplingMode v sample) = Unit {0}
ChangesNoClause (Model ls) = Unit {0}
ChangesNoClause (Assumptions ls) = Unit {0}
ChangesNoClause (FailedAssumptions core hashes) = Unit {0}
ChangesNoClause End = Unit {0}
ChangesNoClause step = ⊥

-- `MatchesDuringRemoval p s global l k` holds if the parts match the session, except that binary clauses with an
-- assigned variable are gone from the session, as far as visited: all lists of implied literals before list `l`, and
-- the first `k` literals of list `l`
abbrev pub MatchesDuringRemoval : SearchState → Session → (ℕ → ℕ) → (l k : ℕ) → Type 0
MatchesDuringRemoval p s global l k = MatchesClauseList (binaries_left p.assignment.current p.binary.implied l k ++ longs (is_redundant p.clauses) p.clauses (live_refs p.clauses p.db.refs)) (state p) s global
