-- The effect of a call on the clauses and on the literals of level 0, as other parts of a solver see it.
-- The contracts use these definitions:
--   propagate_all: ReordersLits, AddsNoUnit, KeepsLevels
--   make_decision, assume, enqueue_assumption: AddsNoClauseOrUnit, KeepsLevels
--   undo: SameClauses, AddsNoUnit, KeepsLevelsTo (the level that remains)
--   restart, full_restart: SameClauses, AddsNoUnit
--   learn: AddsLearnedClause, EnqueuesFirst
--   clear_units: SameClauses, ClearsUnits
--   resurrect_unit: SameClauses, AddsNoUnit
--   set_var_count: AddsVars
--   make_available, reset_activity: SameContents
--   use_with_unit: SameClauses, GainsUnit
--   load_unit: SameClauses, GainsUnit
--   load_binary, load_long: AddsOriginalClause
--   load: LoadEffect (Loading), which selects one of these by the result
--   drop_clause: DeletesLongClause if it deletes, otherwise nothing changes; delete_long: DeletesLongClause
--   put_header, set_tier, reduce_mids, bump_activity, decay_clauses: ChangesHeaders
--   bump_variable, decay_variables: SameContents
--   swap_unwatched: SwapsLits; shorten: ShortensLongClause; remove_binary: RemovesBinaries; collect: MovesLongClauses
-- FreesVar describes how the solver frees a variable. At level 0, KeepsLevelsTo 0 follows from AddsNoUnit, which in
-- turn follows from SameState or SameExceptLongClauses (carries_same).
use Rattle.std.specs.Prelude.{ℕ, ◌≡◌, ◌≢◌, ◌+◌, ◌*◌, ◌<◌, ◌≤◌, ◌⊎◌, true, false, None, List, length, slice_index_or as get_or}
use Rattle.std.specs.List.{Contains}
use Rattle.sat_base.specs.values.Literals.{variable}
use Rattle.sat_store.specs.clause.Buffer.{header_at, lits_at, swapped}
use Rattle.sat_store.specs.clause.Header.{Header, no_header, is_learned}
use Rattle.sat_store.specs.heap.Vsids.{is_available, with_available}
use Rattle.sat_parts.specs.declared.prop.graph.Reason.{Reason}
use Rattle.sat_parts.specs.clause.Collected.{CopiesClauses}
use Rattle.sat_parts.specs.clause.Db.{live_refs, AddsLongClause, DeletesClause, ShortensClause}
use Rattle.sat_parts.specs.clause.Orders.{SameUpToOrder}
use Rattle.sat_parts.specs.prop.Graphs.{has_no_clause}
use Rattle.sat_parts.specs.prop.Binaries.{with_binary, with_binary_lists, RemovesAssigned}
use Rattle.sat_parts.specs.prop.Values.{IsTrueLit, value_of, with_value}
use Rattle.sat_parts.specs.prop.State.{PropagationState, node, level, lit_at, IsRemovedUnit, enqueued}
use Rattle.sat_parts.specs.declared.parts.SearchState.{SearchState}
use Rattle.sat_parts.specs.parts.Whole.{state}
use Rattle.sat_parts.specs.prop.Trails.{with_lit}

-- `IsUnitOnTrail s l` holds if the literal `l` is on the trail at level 0 and has no clause as its reason.
pub record IsUnitOnTrail (s : PropagationState) (l : ℕ) : Type 0 where
  pub place : ℕ
  pub within : place < length s.trail.lits
  pub there : lit_at s place ≡ l
  pub bottom : level s l ≡ 0
  pub none : has_no_clause (node s l).reason ≡ true

-- `IsUnitLit s l` holds if the literal `l` is a unit: it is at level 0 and has no clause as its reason, or it was taken
-- off the trail.
abbrev pub IsUnitLit : PropagationState → ℕ → Type 0
IsUnitLit s l = IsRemovedUnit s l ⊎ IsUnitOnTrail s l

-- `AddsNoUnit s s'` holds if every unit literal of `s'` (`IsUnitLit`) was one in `s`, literals that are true at level 0
-- stay so, and the number of variables is unchanged.
pub record AddsNoUnit (s s' : PropagationState) : Type 0 where
  pub size : length s'.values ≡ length s.values
  pub units : (l : ℕ) → IsUnitLit s' l → IsUnitLit s l
  pub bottom : (l : ℕ) → IsTrueLit s.values l → level s l ≡ 0 → IsTrueLit s'.values l × (level s' l ≡ 0)

-- `ClearsUnits s s'` holds if every unit literal of `s'` (`IsUnitLit`) was true at level 0 in `s`, though perhaps with
-- a clause as its reason, and literals that are true at level 0 stay so.
pub record ClearsUnits (s s' : PropagationState) : Type 0 where
  pub size : length s'.values ≡ length s.values
  pub units : (l : ℕ) → IsUnitLit s' l → IsTrueLit s.values l × (level s l ≡ 0)
  pub bottom : (l : ℕ) → IsTrueLit s.values l → level s l ≡ 0 → IsTrueLit s'.values l × (level s' l ≡ 0)

-- `SameClauses p p'` holds if the clauses are unchanged.
abbrev pub SameClauses : SearchState → SearchState → Type 0
SameClauses p p' = (p'.clauses ≡ p.clauses) × (p'.db ≡ p.db) × (p'.binary ≡ p.binary)

-- `ReordersLits p p'` holds if the clauses are unchanged except possibly for the order of their literals.
pub record ReordersLits (p p' : SearchState) : Type 0 where
  pub live : live_refs p'.clauses p'.db.refs ≡ live_refs p.clauses p.db.refs
  pub kept : SameUpToOrder p.clauses p'.clauses (live_refs p.clauses p.db.refs)
  pub binary : p'.binary ≡ p.binary

-- `AddsLearnedClause p p' header ls` holds if the clause `ls` was learned: a binary clause or a long one (with this
-- header) was stored; a unit stores nothing. Its first literal was enqueued at the current level, with a clause as its
-- reason unless `ls` is a unit.
pub data AddsLearnedClause (p p' : SearchState) (header : Header) (ls : List ℕ) : Type 0 where
  learned_unit : length ls ≡ 1 → SameClauses p p' → (r : Reason) → has_no_clause r ≡ true → state p' ≡ enqueued (get_or ls 0 0) r (state p) → AddsLearnedClause p p' header ls
  learned_binary : length ls ≡ 2 → p'.clauses ≡ p.clauses → p'.db ≡ p.db → p'.binary ≡ with_binary (get_or ls 0 0) (get_or ls 1 0) p.binary →
      (r : Reason) → has_no_clause r ≡ false → state p' ≡ enqueued (get_or ls 0 0) r (state p) → AddsLearnedClause p p' header ls
  learned_long : 3 ≤ length ls → (o : ℕ) → AddsLongClause p.clauses p.db p'.clauses p'.db o header ls → p'.binary ≡ p.binary →
      (r : Reason) → has_no_clause r ≡ false → state p' ≡ enqueued (get_or ls 0 0) r (state p) → AddsLearnedClause p p' header ls

-- `KeepsLevelsTo top s s'` holds if literals that are true at level `top` or lower stay true at their levels, and the
-- levels up to `top` begin with the same literals.
pub record KeepsLevelsTo (top : ℕ) (s s' : PropagationState) : Type 0 where
  pub low : (l : ℕ) → IsTrueLit s.values l → level s l ≤ top → IsTrueLit s'.values l × (level s' l ≡ level s l)
  pub begun : (j : ℕ) → j < top → j < length s.trail.starts → (j < length s'.trail.starts) × (lit_at s' (get_or s'.trail.starts j 0) ≡ lit_at s (get_or s.trail.starts j 0))

-- `SameState p p'` holds if the values of variables (with saved phases), the implication graph and the trail are
-- unchanged.
abbrev pub SameState : SearchState → SearchState → Type 0
SameState p p' = (p'.assignment ≡ p.assignment) × (p'.graph ≡ p.graph) × (p'.trail ≡ p.trail)

-- `SameContents p p'` holds if clauses, values, reasons and trail are unchanged.
abbrev pub SameContents : SearchState → SearchState → Type 0
SameContents p p' = SameClauses p p' × SameState p p'

-- `SameQueues p p'` holds if the decision queue (VSIDS) and the trail are unchanged.
abbrev pub SameQueues : SearchState → SearchState → Type 0
SameQueues p p' = (p'.vsids ≡ p.vsids) × (p'.trail ≡ p.trail)

-- `AddsNoClauseOrUnit p p'` holds if the clauses are unchanged, no unit is new, and literals of level 0 stay true at
-- level 0.
abbrev pub AddsNoClauseOrUnit : SearchState → SearchState → Type 0
AddsNoClauseOrUnit p p' = SameClauses p p' × AddsNoUnit (state p) (state p')

-- `KeepsLevels p p'` holds if true literals stay true at their levels, and the levels that there were begin with the
-- same literals.
abbrev pub KeepsLevels : SearchState → SearchState → Type 0
KeepsLevels p p' = (top : ℕ) → KeepsLevelsTo top (state p) (state p')

-- `OpensLevel p p'` holds if `p'` has one more level than `p`.
abbrev pub OpensLevel : SearchState → SearchState → Type 0
OpensLevel p p' = length p'.trail.starts ≡ length p.trail.starts + 1

-- `EnqueuesFirst ls p p'` holds if the first literal of `ls` was appended to the trail.
abbrev pub EnqueuesFirst : List ℕ → SearchState → SearchState → Type 0
EnqueuesFirst ls p p' = p'.trail ≡ with_lit (get_or ls 0 0) p.trail

-- `SameExceptLongClauses p p'` holds if values, implication graph, trail, binary clauses and the decision queue are
-- unchanged; long clauses and watch lists may have changed.
abbrev pub SameExceptLongClauses : SearchState → SearchState → Type 0
SameExceptLongClauses p p' = SameState p p' × (p'.binary ≡ p.binary) × (p'.vsids ≡ p.vsids)

-- `ChangesHeaders p p'` holds if only headers of live long clauses changed: the same ones are live, with the same
-- literals, and each stays irredundant or learned. Values, trail, binary clauses and the decision queue are unchanged.
pub record ChangesHeaders (p p' : SearchState) : Type 0 where
  pub live : live_refs p'.clauses p'.db.refs ≡ live_refs p.clauses p.db.refs
  pub lits : (o : ℕ) → Contains (live_refs p.clauses p.db.refs) o → lits_at p'.clauses o ≡ lits_at p.clauses o
  pub sides : (o : ℕ) → Contains (live_refs p.clauses p.db.refs) o → is_learned (header_at p'.clauses o).tier ≡ is_learned (header_at p.clauses o).tier
  pub same : SameExceptLongClauses p p'

-- `DeletesLongClause p p' o` holds if the long clause at offset `o` was marked as deleted, and no other clause, no
-- value, and not the trail or the decision queue changed.
pub record DeletesLongClause (p p' : SearchState) (o : ℕ) : Type 0 where
  pub deletes : DeletesClause p.clauses p.db p'.clauses p'.db o
  pub same : SameExceptLongClauses p p'

-- `ShortensLongClause p p' o len` holds if the long clause at offset `o` was cut down to its first `len` literals, and
-- no other clause, no value, and not the trail or the decision queue changed.
pub record ShortensLongClause (p p' : SearchState) (o len : ℕ) : Type 0 where
  pub shortens : ShortensClause p.clauses p.db p'.clauses o len
  pub db : p'.db ≡ p.db
  pub same : SameExceptLongClauses p p'

-- `SwapsLits p p' o i j` holds if the literals at positions `i` and `j` of the long clause at offset `o` were swapped,
-- and otherwise at most literals of long clauses changed their order.
pub record SwapsLits (p p' : SearchState) (o i j : ℕ) : Type 0 where
  pub lits : lits_at p'.clauses o ≡ swapped (lits_at p.clauses o) i j
  pub moved : ReordersLits p p'
  pub same : SameExceptLongClauses p p'

-- `MovesLongClauses p p'` holds if the live long clauses were copied to new offsets, in order, with the same headers
-- and literals; binary clauses, values, trail and decision queue are unchanged, and no unit is new.
pub record MovesLongClauses (p p' : SearchState) : Type 0 where
  pub copies : CopiesClauses p.clauses (live_refs p.clauses p.db.refs) p'.clauses (live_refs p'.clauses p'.db.refs)
  pub binary : p'.binary ≡ p.binary
  pub values : p'.assignment ≡ p.assignment
  pub trail : p'.trail ≡ p.trail
  pub queue : p'.vsids ≡ p.vsids
  pub carries : AddsNoUnit (state p) (state p')
  pub keeps : KeepsLevels p p'

-- `RemovesBinaries p p'` holds if exactly the binary clauses with an assigned variable were removed, and long clauses,
-- values, trail and decision queue are unchanged.
pub record RemovesBinaries (p p' : SearchState) : Type 0 where
  pub removes : RemovesAssigned p.assignment.current p.binary p'.binary
  pub clauses : p'.clauses ≡ p.clauses
  pub db : p'.db ≡ p.db
  pub state : SameState p p'
  pub queue : p'.vsids ≡ p.vsids

-- `AddsVars p p' count` holds if `p'` has `count` variables; the values of the old ones, the clauses and the levels are
-- unchanged, and new variables are unassigned, may not be picked, and are in no clause.
pub record AddsVars (p p' : SearchState) (count : ℕ) : Type 0 where
  pub size : length p'.assignment.current ≡ count
  pub values : (v : ℕ) → value_of p'.assignment.current v ≡ value_of p.assignment.current v
  pub picks : (v : ℕ) → is_available p'.vsids v ≡ is_available p.vsids v
  pub clauses : p'.clauses ≡ p.clauses
  pub db : p'.db ≡ p.db
  pub binary : p'.binary ≡ with_binary_lists (2 * count) p.binary
  pub units : (l : ℕ) → IsUnitLit (state p') l → IsUnitLit (state p) l
  pub starts : p'.trail.starts ≡ p.trail.starts
  pub keeps : KeepsLevels p p'

-- `FreesVar p p' v` holds if the variable `v` became unassigned and may not be picked; the clauses and the trail are
-- unchanged, no unit is new, and literals of other variables that are true at level 0 stay so.
pub record FreesVar (p p' : SearchState) (v : ℕ) : Type 0 where
  pub clauses : SameClauses p p'
  pub values : p'.assignment ≡ with_value v None p.assignment
  pub graph : p'.graph ≡ p.graph
  pub trail : p'.trail ≡ p.trail
  pub queue : p'.vsids ≡ with_available v false p.vsids
  pub units : (l : ℕ) → IsUnitLit (state p') l → IsUnitLit (state p) l × (variable l ≢ v)
  pub bottom : (l : ℕ) → variable l ≢ v → IsTrueLit p.assignment.current l → level (state p) l ≡ 0 → IsTrueLit p'.assignment.current l × (level (state p') l ≡ 0)

-- `GainsUnit l s s'` holds if the literal `l` is true at level 0, no other unit is new, and literals of level 0 stay
-- true at level 0.
pub record GainsUnit (l : ℕ) (s s' : PropagationState) : Type 0 where
  pub size : length s'.values ≡ length s.values
  pub units : (m : ℕ) → IsUnitLit s' m → IsUnitLit s m ⊎ (m ≡ l)
  pub bottom : (m : ℕ) → IsTrueLit s.values m → level s m ≡ 0 → IsTrueLit s'.values m × (level s' m ≡ 0)
  pub holds : IsTrueLit s'.values l × (level s' l ≡ 0)

-- `AddsOriginalClause p p' ls` holds if the irredundant clause `ls` was stored, as a binary or a long one, and no unit
-- is new.
pub data AddsOriginalClause (p p' : SearchState) (ls : List ℕ) : Type 0 where
  stores_binary : length ls ≡ 2 → p'.clauses ≡ p.clauses → p'.db ≡ p.db → p'.binary ≡ with_binary (get_or ls 0 0) (get_or ls 1 0) p.binary → AddsNoUnit (state p) (state p') → AddsOriginalClause p p' ls
  stores_long : 3 ≤ length ls → (o : ℕ) → AddsLongClause p.clauses p.db p'.clauses p'.db o no_header ls → p'.binary ≡ p.binary → AddsNoUnit (state p) (state p') → AddsOriginalClause p p' ls
