-- What the search sees of calls over names.
use Rattle.std.specs.Prelude.{ℕ, ◌≤◌, ◌≡◌, ◌≢◌, ◌⊎◌, ◌&&◌, ◌==◌, not, Bool, true, Some, None, List, [], ◌∷◌}
use Rattle.std.specs.List.{AllByRecursion}
use Rattle.sat_base.specs.values.Literals.{mk_lit, variable}
use Rattle.sat_base.specs.values.Clauses.{Valuation}
use Rattle.sat_base.specs.steps.Steps.{Step}
use Rattle.sat_checker.specs.Fold.{Holds}
use Rattle.sat_checker.specs.LiteralSets.{mentions}
use Rattle.sat_solver.specs.session.Session.{Session, session_after}
use Rattle.sat_solver.specs.variables.Variables.{global_of, global_at, solver_of, indices_used, is_unit_value}
use Rattle.sat_solver.specs.declared.variables.solver_vars.Given.{Given}
use Rattle.sat_solver.specs.declared.variables.Variables.{Variables}

-- `KeepsSearch s t` holds if clauses, units, width, assumptions and the record of unsat of the session are unchanged;
-- names, modes and indices may have changed
pub record KeepsSearch (s t : Session) : Type 0 where
  pub live : t.live ≡ s.live
  pub units : t.units ≡ s.units
  pub unsat : t.unsat ≡ s.unsat
  pub width : t.width ≡ s.width
  pub assumed : t.assumed ≡ s.assumed

-- `ForgetsUnits s t v` holds if clauses, width, assumptions and the record of unsat of the session are unchanged, and
-- so are the units, except that those of variable `v` are forgotten
pub record ForgetsUnits (s t : Session) (v : ℕ) : Type 0 where
  pub live : t.live ≡ s.live
  pub units : (l : ℕ) → t.units l ≡ (s.units l && not (variable l == v))
  pub unsat : t.unsat ≡ s.unsat
  pub width : t.width ≡ s.width
  pub assumed : t.assumed ≡ s.assumed

-- `KeepsWhatSearchSees old new from to` holds if clauses, units, width, assumptions and unsat of the session and all
-- indices are unchanged, and every valuation that the steps admit now was admitted before
pub record KeepsWhatSearchSees (old new : Variables) (from to : List Step) : Type 0 where
  pub solvers : new.solver_from_global ≡ old.solver_from_global
  pub globals : new.globals ≡ old.globals
  pub search : KeepsSearch (session_after from) (session_after to)
  pub leaves : (a : Valuation) → Holds to a → Holds from a

-- `IsGiven old new s g` holds if a proof variable without an index got the index of `g`, which no variable had; `g` has
-- its unit in the session `s`, or `None`
pub record IsGiven (old new : Variables) (s : Session) (g : Given) : Type 0 where
  pub variable : ℕ
  pub without : solver_of old variable ≡ None
  pub free : global_at old g.solver ≡ None
  pub taken : global_at new g.solver ≡ Some variable
  pub unit : (b : Bool) → s.units (mk_lit variable b) ≡ is_unit_value g.unit b

-- `IndicesDistinct gs` holds if no index is twice in the list `gs` of given indices
abbrev pub IndicesDistinct : List Given → Type 0
IndicesDistinct [] = Unit {0}
IndicesDistinct (g ∷ gs) = AllByRecursion (λ h. h.solver ≢ g.solver) gs × IndicesDistinct gs

-- `HasGiven gs x` holds if index `x` is in the list `gs` of given indices
abbrev pub HasGiven : List Given → ℕ → Type 0
HasGiven [] x = ⊥
HasGiven (g ∷ gs) x = (g.solver ≡ x) ⊎ HasGiven gs x

-- `GivesIndices old new s gs` holds if exactly the indices in `gs`, each once, were given to proof variables, with
-- their units in the session `s`, and no variable lost or changed its index
pub record GivesIndices (old new : Variables) (s : Session) (gs : List Given) : Type 0 where
  pub stays : (v x : ℕ) → solver_of old v ≡ Some x → solver_of new v ≡ Some x
  pub each : AllByRecursion (IsGiven old new s) gs
  pub apart : IndicesDistinct gs
  pub others : (v x : ℕ) → solver_of new v ≡ Some x → (solver_of old v ≡ Some x) ⊎ HasGiven gs x
  pub used : indices_used old ≤ indices_used new

-- `KeepsUnits new from to` holds if the units of variables that have names (by `new`) are unchanged between the steps
-- `from` and `to`
abbrev pub KeepsUnits : Variables → List Step → List Step → Type 0
KeepsUnits new from to = (u v : ℕ) (b : Bool) → global_of new u ≡ Some v → (session_after to).units (mk_lit v b) ≡ (session_after from).units (mk_lit v b)

-- `AgreesWithAdmitted steps ls a` holds if the steps admit some valuation with the same values as `a` for the variables
-- of the literals `ls`
abbrev pub AgreesWithAdmitted : List Step → List ℕ → Valuation → Type 0
AgreesWithAdmitted steps ls a = (b : Valuation) × Holds steps b × ((v : ℕ) → mentions ls v ≡ true → b v ≡ a v)

-- `KeepsSearchUpToUnits old new from to` holds if clauses, indices, width, assumptions and unsat are unchanged, and so
-- are units of variables with an index; others may be forgotten. Every valuation admitted now agrees on the assumptions
-- with one admitted before.
pub record KeepsSearchUpToUnits (old new : Variables) (from to : List Step) : Type 0 where
  pub solvers : new.solver_from_global ≡ old.solver_from_global
  pub globals : new.globals ≡ old.globals
  pub live : (session_after to).live ≡ (session_after from).live
  pub units : (v x : ℕ) (b : Bool) → solver_of old v ≡ Some x → (session_after to).units (mk_lit v b) ≡ (session_after from).units (mk_lit v b)
  pub unsat : (session_after to).unsat ≡ (session_after from).unsat
  pub width : (session_after to).width ≡ (session_after from).width
  pub assumed : (session_after to).assumed ≡ (session_after from).assumed
  pub leaves : (a : Valuation) → Holds to a → AgreesWithAdmitted from (session_after from).assumed a
