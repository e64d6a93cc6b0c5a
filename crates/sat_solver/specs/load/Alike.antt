-- Sessions that are the same to a search.
use Rattle.std.specs.Prelude.{ℕ, ◌≡◌, Bool, Some, List}
use Rattle.sat_base.specs.values.Literals.{mk_lit}
use Rattle.sat_solver.specs.session.Session.{Session}

-- `SameToSearch s t` holds if the sessions `s` and `t` have the same stored clauses, indices, assumptions, width and
-- record of unsat, and the same units of variables that have indices: a search can't distinguish them
pub record SameToSearch (s t : Session) : Type 0 where
  pub live : (r : Bool) (set : List ℕ) → t.live r set ≡ s.live r set
  pub units : (v x : ℕ) (b : Bool) → s.solver_names v ≡ Some x → t.units (mk_lit v b) ≡ s.units (mk_lit v b)
  pub names : (v : ℕ) → t.solver_names v ≡ s.solver_names v
  pub unsat : t.unsat ≡ s.unsat
  pub width : t.width ≡ s.width
  pub assumed : t.assumed ≡ s.assumed
