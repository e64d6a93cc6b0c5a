-- Properties that are preserved when literals become true, levels begin or levels are undone.
use Rattle.std.specs.Prelude.{ℕ, ◌≡◌, ◌<◌, ◌≤◌, List, length}
use Rattle.std.specs.List.{Contains}
use Rattle.sat_parts.specs.declared.prop.graph.Reason.{Reason}
use Rattle.sat_parts.specs.declared.prop.graph.Reason.TheVariants.{Long}
use Rattle.sat_parts.specs.clause.Db.{live_refs}
use Rattle.sat_parts.specs.clause.Stored.{lit_of}
use Rattle.sat_parts.specs.declared.prop.graph.ImplNode.{ImplNode}
use Rattle.sat_parts.specs.prop.Values.{Values, IsTrueLit, IsUnassignedLit}
use Rattle.sat_parts.specs.prop.Trails.{TrailState}
use Rattle.sat_parts.specs.prop.WatchLists.{WatchState}
use Rattle.sat_parts.specs.prop.State.{PropagationState, level, lit_at, IsRemovedUnit, StateIsConsistent}
use Rattle.sat_parts.specs.prop.Reasons.{ReasonsAreUnit}
use Rattle.sat_parts.specs.prop.Ready.{state_of}
use Rattle.sat_parts.specs.prop.Propagation.{PropagationInvariant, EnqueuePrecondition, PropagationPrecondition}

-- `BacktrackPreservesInvariant level a t a' t'` holds if undoing the levels above `level`, which leads from values `a`
-- and trail `t` to `a'` and `t'`, establishes `PropagationPrecondition`, whenever before it `PropagationInvariant` held
-- for some `top` above `level`.
abbrev pub BacktrackPreservesInvariant : (level : ℕ) (a : Values) (t : TrailState) (a' : Values) (t' : TrailState) → Type 0
BacktrackPreservesInvariant level a t a' t' =
    (words refs : List ℕ) (w : WatchState) (implied : List (List ℕ)) (nodes : List ImplNode) (top : ℕ) → level < top →
    PropagationInvariant words refs w implied (state_of a nodes t) top → PropagationPrecondition words refs w implied (state_of a' nodes t')

-- `KeepsReasonsUnit a t a' t'` holds if, between values `a` with trail `t` and values `a'` with trail `t'`, reasons
-- that are unit in the order of the trail (`ReasonsAreUnit`) stay so, for any clauses and nodes with which `a` and `t`
-- are consistent.
abbrev pub KeepsReasonsUnit : (a : Values) (t : TrailState) (a' : Values) (t' : TrailState) → Type 0
KeepsReasonsUnit a t a' t' =
    (words live : List ℕ) (implied : List (List ℕ)) (nodes : List ImplNode) (from : ℕ) → StateIsConsistent (state_of a nodes t) →
    ReasonsAreUnit words live implied (state_of a nodes t) from → ReasonsAreUnit words live implied (state_of a' nodes t') from

-- `EnqueuePreservesInvariant lit reason a nodes t a' nodes' t'` holds if the invariant of propagation holds after `lit`
-- became true by `reason`, whenever `EnqueuePrecondition` held before and a long clause that is the reason is live and
-- has `lit` first.
abbrev pub EnqueuePreservesInvariant : (lit : ℕ) (reason : Reason) (a : Values) (nodes : List ImplNode) (t : TrailState) (a' : Values) (nodes' : List ImplNode) (t' : TrailState) → Type 0
EnqueuePreservesInvariant lit reason a nodes t a' nodes' t' =
    (words refs : List ℕ) (w : WatchState) (implied : List (List ℕ)) (top : ℕ) →
    ((o : ℕ) → reason ≡ Long o → Contains (live_refs words refs) o × (lit_of words o 0 ≡ lit)) →
    EnqueuePrecondition lit reason words refs w implied (state_of a nodes t) top → PropagationInvariant words refs w implied (state_of a' nodes' t') top

-- `NewLevelPreservesInvariant t t'` holds if `PropagationPrecondition` still holds after the trail `t` became `t'`,
-- which has one more level, provided that the queue of `t` is empty.
abbrev pub NewLevelPreservesInvariant : (t t' : TrailState) → Type 0
NewLevelPreservesInvariant t t' =
    (a : Values) (words refs : List ℕ) (w : WatchState) (implied : List (List ℕ)) (nodes : List ImplNode) → t.head ≡ length t.lits →
    PropagationPrecondition words refs w implied (state_of a nodes t) → PropagationPrecondition words refs w implied (state_of a nodes t')

-- `BacktrackEffect top s s'` holds if undoing the levels above `top` has led from `s` to `s'`. Exactly the literals
-- that were true at `top` or lower stay true, those on the trail at their positions. The others are unassigned.
pub record BacktrackEffect (top : ℕ) (s s' : PropagationState) : Type 0 where
  pub agrees : StateIsConsistent s'
  pub low_kept : (l : ℕ) → IsTrueLit s.values l → level s l ≤ top → IsTrueLit s'.values l
  pub true_kept : (l : ℕ) → IsTrueLit s'.values l → IsTrueLit s.values l
  pub kept_level : (l : ℕ) → IsTrueLit s'.values l → level s l ≤ top
  pub opened : (l : ℕ) → IsTrueLit s.values l → top < level s l → IsUnassignedLit s'.values l
  pub open_kept : (l : ℕ) → IsUnassignedLit s.values l → IsUnassignedLit s'.values l
  pub removed_kept : (l : ℕ) → IsRemovedUnit s l → IsRemovedUnit s' l
  pub shorter : length s'.trail.lits ≤ length s.trail.lits
  pub places : (i : ℕ) → i < length s'.trail.lits → lit_at s' i ≡ lit_at s i
  pub low_places : (i : ℕ) → i < length s.trail.lits → level s (lit_at s i) ≤ top → i < length s'.trail.lits

-- `BacktrackEffectOn top a t a' t'` holds if `BacktrackEffect top` holds from values `a` and trail `t` to `a'` and
-- `t'`, with any unchanged nodes with which `a` and `t` are consistent.
abbrev pub BacktrackEffectOn : (top : ℕ) (a : Values) (t : TrailState) (a' : Values) (t' : TrailState) → Type 0
BacktrackEffectOn top a t a' t' = (nodes : List ImplNode) → StateIsConsistent (state_of a nodes t) → BacktrackEffect top (state_of a nodes t) (state_of a' nodes t')
