-- Indices are released.
use Rattle.std.specs.Prelude.{ℕ, ◌≡◌, ◌≢◌, ◌<◌, ◌==◌, Bool, true, Some, None, List, length, if◌then◌else◌}
use Rattle.sat_base.specs.values.Literals.{mk_lit}
use Rattle.sat_base.specs.steps.Steps.{Step}
use Rattle.sat_checker.specs.LiteralSets.{mentions}
use Rattle.sat_parts.specs.prop.Values.{value_of}
use Rattle.sat_solver.specs.session.Session.{Session, session_after}
use Rattle.sat_solver.specs.variables.Calls.{NamesInvariant, KeepsScriptState}
use Rattle.sat_solver.specs.variables.Variables.{solver_of, global_at, indices_used}
use Rattle.sat_solver.specs.declared.variables.Variables.{Variables}
use Rattle.sat_parts.specs.declared.parts.SearchState.{SearchState}
use Rattle.sat_solver.specs.session.Quiet.{MakesOnlyQuiet}
use Rattle.sat_parts.specs.parts.Whole.{InNoClause}
use Rattle.sat_parts.specs.parts.Frame.{SameClauses}
use Rattle.sat_parts.specs.parts.Words.{TrailWordExtendsFor}
use Rattle.sat_solver.specs.cdcl.Joint.{assumed_indices, SearchInvariant, SameVarsAndAssumptions}
use Rattle.sat_solver.specs.declared.context.Search.{Search}
use Rattle.sat_solver.specs.variables.Shared.{SharesIndices}
use Rattle.sat_solver.specs.unit_simplify.EmptyTrail.{HasEmptyTrail}

-- `LosesIndex s t v` holds if the variable `v` lost its index between the sessions `s` and `t`, and its units may be
-- forgotten; clauses, width, assumptions, unsat, and units of other variables with indices are unchanged
pub record LosesIndex (s t : Session) (v : ℕ) : Type 0 where
  pub live : t.live ≡ s.live
  pub units : (w x : ℕ) (b : Bool) → w ≢ v → s.solver_names w ≡ Some x → t.units (mk_lit w b) ≡ s.units (mk_lit w b)
  pub names : (w : ℕ) → t.solver_names w ≡ (if w == v then None else s.solver_names w)
  pub unsat : t.unsat ≡ s.unsat
  pub width : t.width ≡ s.width
  pub assumed : t.assumed ≡ s.assumed

-- `FreesIndex old new from to v` holds if the variable `v` lost its index in names and session, by steps that derive no
-- empowering clause; names keep their variables, and the script state is unchanged
pub record FreesIndex (old new : Variables) (from to : List Step) (v : ℕ) : Type 0 where
  pub does : KeepsScriptState old new from to
  pub solvers : (w : ℕ) → solver_of new w ≡ (if w == v then None else solver_of old w)
  pub users : new.global_from_user ≡ old.global_from_user
  pub used : indices_used new ≡ indices_used old
  pub loses : LosesIndex (session_after from) (session_after to) v
  pub quiet : MakesOnlyQuiet from to

-- `CanFreeIndices n steps c` holds if indices may be released: the search is at level 0 with an empty trail, and has
-- the indices of the names
pub record CanFreeIndices (n : Variables) (steps : List Step) (c : Search) : Type 0 where
  pub valid : NamesInvariant n steps
  pub search : SearchInvariant (session_after steps) c
  pub shares : SharesIndices n c
  pub flat : HasEmptyTrail c.parts

-- `KeepsAsked old new s t` holds if every name keeps its variable, the assumptions of the session are unchanged, and
-- assumed variables keep their indices
pub record KeepsAsked (old new : Variables) (s t : Session) : Type 0 where
  pub users : new.global_from_user ≡ old.global_from_user
  pub assumed : t.assumed ≡ s.assumed
  pub indices : (v x : ℕ) → mentions s.assumed v ≡ true → solver_of old v ≡ Some x → solver_of new v ≡ Some x

-- `FreesSome old new from to c c'` holds if some indices (or none) were released, by steps that neither change the
-- script state nor derive an empowering clause. Clauses and assumptions are unchanged, no variable got a value or an
-- index.
pub record FreesSome (old new : Variables) (from to : List Step) (c c' : Search) : Type 0 where
  pub does : KeepsScriptState old new from to
  pub quiet : MakesOnlyQuiet from to
  pub search : SearchInvariant (session_after to) c'
  pub shares : SharesIndices new c'
  pub flat : HasEmptyTrail c'.parts
  pub moved : SameVarsAndAssumptions c c'
  pub same : SameClauses c.parts c'.parts
  pub word : TrailWordExtendsFor (assumed_indices c) c.parts c'.parts
  pub asked : KeepsAsked old new (session_after from) (session_after to)
  pub unset : (v : ℕ) → value_of c.parts.assignment.current v ≡ None → value_of c'.parts.assignment.current v ≡ None
  pub fewer : (x v : ℕ) → global_at new x ≡ Some v → global_at old x ≡ Some v

-- `IsIndexOfAssumed n s x` holds if the variable that has the index `x` is assumed in the session, or no variable has
-- this index
abbrev pub IsIndexOfAssumed : Variables → Session → ℕ → Type 0
IsIndexOfAssumed n s x = (v : ℕ) → global_at n x ≡ Some v → mentions s.assumed v ≡ true

-- `FirstIndicesAreUsed n s p at` holds if each of the first `at` indices is in a clause, or its variable is assumed, or
-- no variable has it
abbrev pub FirstIndicesAreUsed : Variables → Session → SearchState → ℕ → Type 0
FirstIndicesAreUsed n s p at = (x : ℕ) → x < at → InNoClause p x → IsIndexOfAssumed n s x

-- `IndicesAreUsed n s p` holds if each index of the search is in a clause, or its variable is assumed, or no variable
-- has it
abbrev pub IndicesAreUsed : Variables → Session → SearchState → Type 0
IndicesAreUsed n s p = FirstIndicesAreUsed n s p (length p.assignment.current)
