-- A search at level 0 with an empty trail.
use Rattle.std.specs.Prelude.{ℕ, ◌≡◌, ◌≢◌, ◌<◌, ◌≤◌, [], length, Result, slice_index_or as get_or}
use Rattle.std.specs.List.{Contains}
use Rattle.sat_base.specs.device.Device.{Writer}
use Rattle.sat_checker.specs.declared.processing.ProofProcessor.{Ghosts}
use Rattle.sat_parts.specs.clause.Db.{live_refs}
use Rattle.sat_parts.specs.declared.parts.SearchState.{SearchState}
use Rattle.sat_parts.specs.parts.Frame.{SameState, RemovesBinaries}
use Rattle.sat_parts.specs.parts.Words.{TrailWordExtendsFor}
use Rattle.sat_solver.specs.proof.ProofView.{session_of}
use Rattle.sat_solver.specs.session.Session.{Session}
use Rattle.sat_solver.specs.declared.proof.Proof.{Proof}
use Rattle.sat_solver.specs.declared.error.SolverError.{SolverError}
use Rattle.sat_parts.specs.parts.Whole.{SearchStateInvariant}
use Rattle.sat_solver.specs.session.Matching.{ArePaired}
use Rattle.sat_solver.specs.session.Listed.{MatchesDuringRemoval}
use Rattle.sat_solver.specs.cdcl.StepEffects.{EmitsSteps}
use Rattle.sat_solver.specs.cdcl.Joint.{assumed_indices, global_in, SearchInvariant, SameVarsAndAssumptions}
use Rattle.sat_solver.specs.declared.context.Search.{Search}
use Rattle.sat_solver.specs.unit_simplify.ClauseStatus.{HasNoAssignedLit}

-- `HasEmptyTrail p` holds if no level is open, and the trail is empty
pub record HasEmptyTrail (p : SearchState) : Type 0 where
  pub bottom : p.trail.starts ≡ []
  pub empty : p.trail.lits ≡ []

-- `CanRemovePairs c` holds if binary clauses can be removed with their steps: the invariant of the parts holds, the
-- trail is empty, every binary clause is in both of its lists, and every variable has a proof variable
pub record CanRemovePairs (c : Search) : Type 0 where
  pub holds : SearchStateInvariant c.parts
  pub flat : HasEmptyTrail c.parts
  pub paired : ArePaired c.parts.binary.implied
  pub names : length c.parts.assignment.current ≤ length c.globals.items

-- `LeavesPairs s c l k` holds if the session matches the search while binary clauses with an assigned variable are
-- removed: they are gone as far as visited, all lists before list `l`, and the first `k` literals of list `l`
abbrev pub LeavesPairs : Session → Search → (l k : ℕ) → Type 0
LeavesPairs s c l k = MatchesDuringRemoval c.parts s (global_in c) l k

-- `IsStrengthened s c c'` holds if at most clauses were removed or strengthened between `c` and `c'`, and the invariant
-- holds. Values and variables are unchanged, and so is the list of long clauses, in which removed ones remain.
pub record IsStrengthened (s : Session) (c c' : Search) : Type 0 where
  pub search : SearchInvariant s c'
  pub moved : SameVarsAndAssumptions c c'
  pub word : TrailWordExtendsFor (assumed_indices c) c.parts c'.parts
  pub state : SameState c.parts c'.parts
  pub refs : c'.parts.db.refs ≡ c.parts.db.refs

-- `RemovesPairs seen r p p' c c'` holds if `r` is `Ok` and the binary clauses with an assigned variable were removed,
-- with steps that derive no empowering clause, or `r` is an error (`StoresError`)
abbrev pub RemovesPairs : {W L : Type 0} {G : Ghosts L} → (W → Writer) → Result (Unit {0}) SolverError → Proof W L G → Proof W L G → Search → Search → Type 0
RemovesPairs seen r p p' c c' = EmitsSteps seen r p p' (λ _ _. IsStrengthened (session_of p') c c' × RemovesBinaries c.parts c'.parts)

-- `StrengthensClause s c c' o` holds if the long clause at `o` was removed or strengthened: if it is live, none of
-- its literals is assigned. Every other live long clause was live before, and is without assigned literals if it was
-- so before.
pub record StrengthensClause (s : Session) (c c' : Search) (o : ℕ) : Type 0 where
  pub strengthened : IsStrengthened s c c'
  pub left : Contains (live_refs c'.parts.clauses c'.parts.db.refs) o → HasNoAssignedLit c'.parts o
  pub others : (p : ℕ) → p ≢ o → Contains (live_refs c'.parts.clauses c'.parts.db.refs) p → Contains (live_refs c.parts.clauses c.parts.db.refs) p × (HasNoAssignedLit c.parts p → HasNoAssignedLit c'.parts p)

-- `StrengthensOrFails seen r p p' c c' o` holds if `r` is `Ok` and the long clause at `o` was removed or freed of
-- assigned literals, with steps that derive no empowering clause, or `r` is an error (`StoresError`)
abbrev pub StrengthensOrFails : {W L : Type 0} {G : Ghosts L} → (W → Writer) → Result (Unit {0}) SolverError → Proof W L G → Proof W L G → Search → Search → (o : ℕ) → Type 0
StrengthensOrFails seen r p p' c c' o = EmitsSteps seen r p p' (λ _ _. StrengthensClause (session_of p') c c' o)

-- `AreOpenTo c c' at` holds if, of the first `at` long clauses in the list of `c`, those that are live in `c'` have no
-- assigned literal
abbrev pub AreOpenTo : Search → Search → ℕ → Type 0
AreOpenTo c c' at = (k : ℕ) → k < at → Contains (live_refs c'.parts.clauses c'.parts.db.refs) (get_or c.parts.db.refs k 0) → HasNoAssignedLit c'.parts (get_or c.parts.db.refs k 0)

-- `StrengthensAll s c c'` holds if long clauses were removed or strengthened so that no live one has an assigned
-- literal; values and variables are unchanged, and the invariant holds
pub record StrengthensAll (s : Session) (c c' : Search) : Type 0 where
  pub strengthened : IsStrengthened s c c'
  pub left : (o : ℕ) → Contains (live_refs c'.parts.clauses c'.parts.db.refs) o → HasNoAssignedLit c'.parts o
