-- How a reduction changes a search.
use Rattle.std.specs.Prelude.{ℕ, zero, suc, ◌≡◌, ◌≢◌, ◌==◌, ◌/◌, ◌%◌, ◌<◌, ◌≤◌, ◌⊎◌, Bool, true, false, List, [], ◌∷◌, length, Result}
use Rattle.std.specs.List.{Contains, filter}
use Rattle.std.specs.List.Sorted.{IsPermutation, IsNonDecreasingBy}
use Rattle.sat_base.specs.device.Device.{Writer}
use Rattle.sat_checker.specs.declared.processing.ProofProcessor.{Ghosts}
use Rattle.sat_store.specs.clause.Buffer.{SameClauseAt, header_at}
use Rattle.sat_store.specs.declared.clause.tier.Tier.TheVariants.{Local}
use Rattle.sat_parts.specs.clause.Activity.{PutsHeaders}
use Rattle.sat_parts.specs.clause.Db.{live_refs, is_live_in_tier, IsLockedClause}
use Rattle.sat_parts.specs.clause.Reduced.{reduced_header}
use Rattle.sat_solver.specs.declared.config.SolverConfig.{SolverConfig}
use Rattle.sat_parts.specs.declared.parts.SearchState.{SearchState}
use Rattle.sat_parts.specs.parts.Frame.{SameExceptLongClauses, ChangesHeaders, DeletesLongClause, MovesLongClauses}
use Rattle.sat_parts.specs.parts.Reducing.{clause_rank}
use Rattle.sat_parts.specs.parts.Words.{TrailWordExtends, TrailWordExtendsFor}
use Rattle.sat_solver.specs.proof.ProofView.{session_of}
use Rattle.sat_solver.specs.session.Session.{Session}
use Rattle.sat_solver.specs.declared.proof.Proof.{Proof}
use Rattle.sat_solver.specs.declared.error.SolverError.{SolverError}
use Rattle.sat_solver.specs.session.Matching.{is_redundant}
use Rattle.sat_solver.specs.declared.context.Search.{Search}
use Rattle.sat_solver.specs.cdcl.StepEffects.{EmitsSteps}
use Rattle.sat_solver.specs.cdcl.Joint.{assumed_indices, SearchInvariant, SameVarsAndAssumptions}

-- `IsLearnedLong p o` holds if the clause at position `o` of the buffer is live, learned, and has three or more
-- literals
pub record IsLearnedLong (p : SearchState) (o : ℕ) : Type 0 where
  pub live : Contains (live_refs p.clauses p.db.refs) o
  pub learned : is_redundant p.clauses o ≡ true

-- `IsReason p o` holds if the clause at `o` is the reason of its first literal, which is true
abbrev pub IsReason : SearchState → ℕ → Type 0
IsReason p o = IsLockedClause p.clauses p.assignment.current p.graph o

-- `DeletesUnlessReason deleted o p p'` holds if `deleted` is true and the clause at `o` was deleted, and was not a
-- reason; or `deleted` is false, the clause is a reason, and nothing changed
abbrev pub DeletesUnlessReason : (deleted : Bool) (o : ℕ) → SearchState → SearchState → Type 0
DeletesUnlessReason true o p p' = (IsReason p o → ⊥) × DeletesLongClause p p' o
DeletesUnlessReason false o p p' = IsReason p o × (p' ≡ p)

-- `TriesToDelete deleted o s c c'` holds if the clause at `o` was deleted (`deleted` is true), or is a reason and
-- nothing changed (false); other live learned clauses of three or more literals remain, and the invariant of the search
-- holds
pub record TriesToDelete (deleted : Bool) (o : ℕ) (s : Session) (c c' : Search) : Type 0 where
  pub search : SearchInvariant s c'
  pub moved : SameVarsAndAssumptions c c'
  pub word : TrailWordExtends c.parts c'.parts
  pub others : (p : ℕ) → p ≢ o → IsLearnedLong c.parts p → IsLearnedLong c'.parts p
  pub tried : DeletesUnlessReason deleted o c.parts c'.parts

-- `ReductionEffect s c c'` holds if the invariant of the search holds after a reduction, variables and assumptions are
-- unchanged, and the word that encodes the trail is unchanged or extended
pub record ReductionEffect (s : Session) (c c' : Search) : Type 0 where
  pub search : SearchInvariant s c'
  pub moved : SameVarsAndAssumptions c c'
  pub word : TrailWordExtendsFor (assumed_indices c) c.parts c'.parts

-- `ReductionBySteps Changes seen r p p' c c'` holds if `r` is `Ok` and the parts changed as `Changes` says, with steps
-- that derive no empowering clause, and variables and assumptions unchanged; or `r` is an error (`StoresError`)
abbrev pub ReductionBySteps : {W L : Type 0} {G : Ghosts L} → (Changes : SearchState → SearchState → Type 0) → (W → Writer) → Result (Unit {0}) SolverError → Proof W L G → Proof W L G → Search → Search → Type 0
ReductionBySteps Changes seen r p p' c c' = EmitsSteps seen r p p' (λ _ _. ReductionEffect (session_of p') c c' × Changes c.parts c'.parts)

-- TIER LOCAL

-- `AreFirstNonReasons p list n free` holds if `free` has the first `n` clauses of `list`, in order, that are not
-- reasons, or all of these if there are fewer than `n`
abbrev pub AreFirstNonReasons : SearchState → (list : List ℕ) (n : ℕ) (free : List ℕ) → Type 0
AreFirstNonReasons p [] n free = free ≡ []
AreFirstNonReasons p (o ∷ os) zero free = free ≡ []
AreFirstNonReasons p (o ∷ os) (suc n) free =
    (IsReason p o × AreFirstNonReasons p os (suc n) free) ⊎ ((IsReason p o → ⊥) × (rest : List ℕ) × (free ≡ o ∷ rest) × AreFirstNonReasons p os n rest)

-- `DeletesJustThese p p' gone` holds if exactly the live clauses at `gone` were deleted; the others are unchanged
pub record DeletesJustThese (p p' : SearchState) (gone : List ℕ) : Type 0 where
  pub deleted : (o : ℕ) → Contains gone o → Contains (live_refs p.clauses p.db.refs) o × (Contains (live_refs p'.clauses p'.db.refs) o → ⊥)
  pub others : (o : ℕ) → Contains (live_refs p.clauses p.db.refs) o → Contains gone o ⊎ Contains (live_refs p'.clauses p'.db.refs) o
  pub stay : (o : ℕ) → Contains (live_refs p'.clauses p'.db.refs) o → Contains (live_refs p.clauses p.db.refs) o × SameClauseAt p.clauses p'.clauses o
  pub same : SameExceptLongClauses p p'

-- `HalvesLocals p p'` holds if half of the live clauses of tier Local, rounded down, were deleted: those of lowest
-- activity, the one earlier in the buffer first among equals, but skipping reasons; fewer if too many are reasons
pub record HalvesLocals (p p' : SearchState) : Type 0 where
  pub locals : List ℕ
  pub all : IsPermutation (filter (is_live_in_tier p.clauses Local) p.db.refs) locals
  pub rising : IsNonDecreasingBy (clause_rank p.clauses) locals
  pub gone : List ℕ
  pub first : AreFirstNonReasons p locals (length locals / 2) gone
  pub deletes : DeletesJustThese p p' gone

-- `ReducesLocals due p p'` holds if `due` is true and half of the clauses of tier Local, those of lowest activity that
-- aren't reasons, were deleted; or it is false and nothing changed
abbrev pub ReducesLocals : Bool → SearchState → SearchState → Type 0
ReducesLocals true p p' = HalvesLocals p p'
ReducesLocals false p p' = p' ≡ p

-- TIER MID

-- `MovesMids p p'` holds if live clauses of tier Mid that were not active (took part in no conflict) since the last
-- time moved to tier Local, the others were marked as not active, and nothing else changed
pub record MovesMids (p p' : SearchState) : Type 0 where
  pub headers : PutsHeaders p.clauses p'.clauses p.db.refs (λ o. reduced_header (header_at p.clauses o))
  pub headed : ChangesHeaders p p'

-- `ReducesMids due p p'` holds if `due` is true and inactive clauses of tier Mid moved to tier Local, the others being
-- marked inactive; or it is false and nothing changed
abbrev pub ReducesMids : Bool → SearchState → SearchState → Type 0
ReducesMids true p p' = MovesMids p p'
ReducesMids false p p' = p' ≡ p

-- COLLECTION

-- `CollectsWhereDue p p'` holds if deleted clauses take up more than half of the buffer, and the live ones were moved
-- together, in order, so that no garbage is left; or they take up half at most, and nothing changed
pub record CollectsWhereDue (p p' : SearchState) : Type 0 where
  pub due : length p.clauses / 2 < p.db.garbage → MovesLongClauses p p' × (p'.db.garbage ≡ 0)
  pub not_due : p.db.garbage ≤ length p.clauses / 2 → p' ≡ p

-- ALL OF THESE

-- `Reduces config round p p'` holds if exactly the reductions due before the round numbered `round` were made: of tier
-- Local, then of tier Mid, each when its interval in `config` divides the number, and then the collection of garbage
pub record Reduces (config : SolverConfig) (round : ℕ) (p p' : SearchState) : Type 0 where
  pub after_locals : SearchState
  pub after_mids : SearchState
  pub locals : ReducesLocals (round % config.reduce_locals_interval == 0) p after_locals
  pub mids : ReducesMids (round % config.reduce_mids_interval == 0) after_locals after_mids
  pub collection : CollectsWhereDue after_mids p'
