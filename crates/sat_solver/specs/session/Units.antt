-- Units of level 0 that are written.
use Rattle.std.specs.Prelude.{ℕ, ◌≡◌, true, Bool, Option, List, [], ◌∷◌, if◌then◌else◌}
use Rattle.sat_checker.specs.LiteralSets.{is_among}
use Rattle.sat_checker.specs.SortedSets.{NoRepeats}
use Rattle.sat_parts.specs.prop.Graphs.{has_no_clause}
use Rattle.sat_parts.specs.prop.Values.{IsTrueLit}
use Rattle.sat_parts.specs.prop.State.{PropagationState, node, level}
use Rattle.sat_solver.specs.session.Session.{Session}
use Rattle.sat_solver.specs.session.LiveClauses.{with_var}
use Rattle.sat_solver.specs.session.Matching.{SessionMatches}

-- the literals of the list that have a clause as their reason, in order
abbrev pub written_lits : PropagationState → List ℕ → List ℕ
written_lits st [] = []
written_lits st (l ∷ ls) = if has_no_clause (node st l).reason then written_lits st ls else l ∷ written_lits st ls

-- `MatchesWithUnits words live implied st s global` holds if the search matches the session, as `SessionMatches` says,
-- and every literal that is true at level 0 is a unit of the session
pub record MatchesWithUnits (words live : List ℕ) (implied : List (List ℕ)) (st : PropagationState) (s : Session) (global : ℕ → ℕ) : Type 0 where
  pub fits : SessionMatches words live implied st s global
  pub all : (l : ℕ) → IsTrueLit st.values l → level st l ≡ 0 → s.units (with_var global l) ≡ true

-- `AreTrueLits values ls` holds if `ls` has exactly the literals that are true under `values`, each once, in any order
pub record AreTrueLits (values : List (Option Bool)) (ls : List ℕ) : Type 0 where
  pub only : (l : ℕ) → is_among ls l ≡ true → IsTrueLit values l
  pub all : (l : ℕ) → IsTrueLit values l → is_among ls l ≡ true
  pub once : NoRepeats ls
