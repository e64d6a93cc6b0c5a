-- The units of level 0 as they are written.
use Rattle.std.specs.Prelude.{ℕ, ◌-◌, ◌/◌, ◌^◌, ◌<◌, ◌≡◌, true, false, Some, List, [], ◌∷◌, map, length, if◌then◌else◌}
use Rattle.std.specs.List.{Contains}
use Rattle.sat_base.specs.values.Literals.{variable}
use Rattle.sat_base.specs.values.Hashes.{hash_of}
use Rattle.sat_parts.specs.prop.Graphs.{has_no_clause}
use Rattle.sat_parts.specs.prop.Values.{IsTrueLit}
use Rattle.sat_parts.specs.prop.State.{PropagationState, node, lit_at, IsRemovedUnit, StateIsConsistent}
use Rattle.sat_parts.specs.prop.Reasons.{ReasonsAreUnit}
use Rattle.sat_parts.specs.clause.Stored.{size_of}
use Rattle.sat_solver.specs.session.Session.{Session, IsLive, CanWriteUnits, hash_in}
use Rattle.sat_solver.specs.session.LiveClauses.{with_var}
use Rattle.sat_solver.specs.session.TrailEntries.{reason_clause}

-- the literals of the list that have a clause as their reason, in order, over proof variables, each with the top
-- `width` bits of that clause's hash
abbrev pub written_units : List ℕ → PropagationState → ℕ → (ℕ → ℕ) → List ℕ → List (ℕ × ℕ)
written_units words st width global [] = []
written_units words st width global (l ∷ ls) =
    if has_no_clause (node st l).reason then written_units words st width global ls
    else (with_var global l, hash_of (reason_clause words l (node st l).reason) / 2 ^ (64 - width)) ∷ written_units words st width global ls

-- `IsUsable s global c` holds if the clause `c`, over indices, is live in the session once mapped to proof variables,
-- and has the same hash there at the session's width
pub record IsUsable (s : Session) (global : ℕ → ℕ) (c : List ℕ) : Type 0 where
  pub live : IsLive s (map (with_var global) c)
  pub hash : hash_of c / 2 ^ (64 - s.width) ≡ hash_in s (map (with_var global) c)

-- `HasOwnIndex s global l` holds if the proof variable to which `global` maps the variable of `l` (an index) has this
-- index in the session
abbrev pub HasOwnIndex : Session → (ℕ → ℕ) → ℕ → Type 0
HasOwnIndex s global l = s.solver_names (global (variable l)) ≡ Some (variable l)

-- `TrailMatches words st s global` holds if the session matches a trail of level 0: clauses that are reasons are live
-- in the session, and literals without such a reason are its units
pub record TrailMatches (words : List ℕ) (st : PropagationState) (s : Session) (global : ℕ → ℕ) : Type 0 where
  pub named : (i : ℕ) → i < length st.trail.lits → HasOwnIndex s global (lit_at st i)
  pub usable : (i : ℕ) → i < length st.trail.lits → has_no_clause (node st (lit_at st i)).reason ≡ false → IsUsable s global (reason_clause words (lit_at st i) (node st (lit_at st i)).reason)
  pub given : (i : ℕ) → i < length st.trail.lits → has_no_clause (node st (lit_at st i)).reason ≡ true → s.units (with_var global (lit_at st i)) ≡ true
  pub removed : (l : ℕ) → IsRemovedUnit st l → s.units (with_var global l) ≡ true
  pub sound : (l : ℕ) → HasOwnIndex s global l → s.units (with_var global l) ≡ true → IsTrueLit st.values l

-- `TrailUnitsAreAllowed` holds if, when a trail of level 0 matches the session, its literals that have clauses as
-- reasons may be derived as units, in trail order
abbrev pub TrailUnitsAreAllowed : Type 0
TrailUnitsAreAllowed =
    (words live : List ℕ) (implied : List (List ℕ)) (st : PropagationState) (s : Session) (global : ℕ → ℕ) → ((o : ℕ) → Contains live o → 0 < size_of words o) → StateIsConsistent st → ReasonsAreUnit words live implied st 0
    → TrailMatches words st s global → CanWriteUnits s (written_units words st s.width global st.trail.lits)
