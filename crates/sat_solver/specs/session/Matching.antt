-- How the parts of a search match the session of its steps.
use Rattle.std.specs.Prelude.{ℕ, ◌≡◌, ◌≢◌, ◌≤◌, Bool, true, false, Option, Some, List, length}
use Rattle.std.specs.List.{Contains}
use Rattle.sat_base.specs.values.Literals.{variable, negated}
use Rattle.sat_store.specs.clause.Buffer.{header_at}
use Rattle.sat_store.specs.clause.Header.{Header, is_learned}
use Rattle.sat_parts.specs.clause.Db.{live_refs}
use Rattle.sat_parts.specs.prop.Values.{IsTrueLit}
use Rattle.sat_parts.specs.prop.Binaries.{implied_by}
use Rattle.sat_parts.specs.prop.State.{PropagationState, level}
use Rattle.sat_solver.specs.session.Session.{Session}
use Rattle.sat_solver.specs.session.LiveClauses.{with_var, AreLiveClausesOf}
use Rattle.sat_solver.specs.session.SolverClauses.{solver_clauses}
use Rattle.sat_parts.specs.declared.parts.SearchState.{SearchState}
use Rattle.sat_parts.specs.parts.Whole.{state, SearchStateInvariant}
use Rattle.sat_parts.specs.parts.Frame.{IsUnitLit}

-- `ArePaired implied` holds if every binary clause is in the lists of both its literals' negations, and its two
-- literals are different
pub record ArePaired (implied : List (List ℕ)) : Type 0 where
  pub back : (a b : ℕ) → Contains (implied_by implied (negated a)) b → Contains (implied_by implied (negated b)) a
  pub apart : (a b : ℕ) → Contains (implied_by implied (negated a)) b → a ≢ b

-- `is_redundant words o` is true if the clause at `o` is learned
abbrev pub is_redundant : List ℕ → ℕ → Bool
is_redundant words o = is_learned (header_at words o).tier

-- `SessionMatches words live implied st s global` holds if the search's live clauses are the session's, unsat is not
-- recorded, and the width is 64. The search's units are units of the session, whose units are true at level 0; literals
-- propagated at level 0 need not be.
pub record SessionMatches (words live : List ℕ) (implied : List (List ℕ)) (st : PropagationState) (s : Session) (global : ℕ → ℕ) : Type 0 where
  pub clauses : AreLiveClausesOf s global (solver_clauses (is_redundant words) words live implied)
  pub paired : ArePaired implied
  pub known : (l : ℕ) → IsUnitLit st l → s.units (with_var global l) ≡ true
  pub sound : (l : ℕ) → s.solver_names (global (variable l)) ≡ Some (variable l) → s.units (with_var global l) ≡ true → IsTrueLit st.values l × (level st l ≡ 0)
  pub consistent : s.unsat ≡ false
  pub width : s.width ≡ 64

-- `TrueLitsHaveIndices values s global` holds if, for every literal true under `values`, the proof variable that
-- `global` gives for its index has this index in the session
abbrev pub TrueLitsHaveIndices : List (Option Bool) → Session → (ℕ → ℕ) → Type 0
TrueLitsHaveIndices values s global = (l : ℕ) → IsTrueLit values l → s.solver_names (global (variable l)) ≡ Some (variable l)

-- `SessionMatchesParts p s global` holds if the search `p` has the live clauses and units of the session `s`, as
-- `SessionMatches` says, with indices mapped to proof variables by `global`
abbrev pub SessionMatchesParts : SearchState → Session → (ℕ → ℕ) → Type 0
SessionMatchesParts p s global = SessionMatches p.clauses (live_refs p.clauses p.db.refs) p.binary.implied (state p) s global

-- `SearchStateSessionInvariant p s global` holds if the invariant of the search state `p` holds, and its clauses and
-- units match the session `s`, with indices mapped to proof variables by `global`
pub record SearchStateSessionInvariant (p : SearchState) (s : Session) (global : ℕ → ℕ) : Type 0 where
  pub holds : SearchStateInvariant p
  pub fits : SessionMatchesParts p s global

-- `FlagMatches flag header ls` holds if `flag`, the redundancy in the step for the clause `ls`, fits its header: for
-- three or more literals, whether it is learned; for two, false
pub record FlagMatches (flag : Bool) (header : Header) (ls : List ℕ) : Type 0 where
  pub long : 3 ≤ length ls → flag ≡ is_learned header.tier
  pub binary : length ls ≡ 2 → flag ≡ false
