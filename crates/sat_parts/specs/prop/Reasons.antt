-- Why the literals on the trail are true.
use Rattle.std.specs.Prelude.{ℕ, ◌≡◌, false, ◌<◌, ◌≤◌, ◌⊎◌, List, [], length, slice_index_or as get_or}
use Rattle.std.specs.List.{Contains}
use Rattle.sat_base.specs.values.Literals.{negated}
use Rattle.sat_parts.specs.declared.prop.graph.Reason.{Reason}
use Rattle.sat_parts.specs.declared.prop.graph.Reason.TheVariants.{Unit as NoCause, Binary, Long}
use Rattle.sat_parts.specs.clause.Orders.{PermutesClauses}
use Rattle.sat_parts.specs.clause.Stored.{lit_of, size_of}
use Rattle.sat_parts.specs.prop.Values.{IsTrueLit}
use Rattle.sat_parts.specs.prop.Graphs.{has_no_clause}
use Rattle.sat_parts.specs.prop.State.{PropagationState, node, lit_at, IsOnTrailBefore, IsRemovedUnit, TrailGrows}

-- `IsFalseBefore s bound l` holds if the negation of the literal `l` is on the trail before position `bound`, or was
-- taken off as a unit.
abbrev pub IsFalseBefore : PropagationState → ℕ → ℕ → Type 0
IsFalseBefore s bound l = IsOnTrailBefore s bound (negated l) ⊎ IsRemovedUnit s (negated l)

-- `ReasonImplies words live implied s i reason` holds if `reason` is not a clause, or is a clause (a binary one of
-- `implied`, or a live long one) that contains the literal at position `i` of the trail, first in a long clause, and
-- its other literals were false before that position.
abbrev pub ReasonImplies : (words live : List ℕ) (implied : List (List ℕ)) (s : PropagationState) (i : ℕ) → Reason → Type 0
ReasonImplies words live implied s i NoCause = Unit {0}
ReasonImplies words live implied s i (Binary ls) =
    Contains (get_or implied (negated (get_or ls 0 0)) []) (lit_at s i) × IsFalseBefore s i (get_or ls 0 0)
ReasonImplies words live implied s i (Long o) =
    Contains live o × (lit_of words o 0 ≡ lit_at s i) × ((k : ℕ) → 1 ≤ k → k < size_of words o → IsFalseBefore s i (lit_of words o k))

-- `ReasonsAreUnit words live implied s from` holds if the reason of every literal of the trail from position `from` on
-- is unit in the order of the trail: all of its other literals were false before (`ReasonImplies`).
abbrev pub ReasonsAreUnit : (words live : List ℕ) (implied : List (List ℕ)) (s : PropagationState) (from : ℕ) → Type 0
ReasonsAreUnit words live implied s from =
    (i : ℕ) → from ≤ i → i < length s.trail.lits → ReasonImplies words live implied s i (node s (lit_at s i)).reason

-- `TrailReasonsHaveLitFirst words live s` holds if the clause of every long reason on the trail is live and has the
-- literal first.
abbrev pub TrailReasonsHaveLitFirst : (words live : List ℕ) (s : PropagationState) → Type 0
TrailReasonsHaveLitFirst words live s = (i o : ℕ) → i < length s.trail.lits → (node s (lit_at s i)).reason ≡ Long o → Contains live o × (lit_of words o 0 ≡ lit_at s i)

-- `HasClauseReason s i` holds if the literal at position `i` of the trail is true and has a clause as its reason.
abbrev pub HasClauseReason : PropagationState → ℕ → Type 0
HasClauseReason s i = IsTrueLit s.values (lit_at s i) × (has_no_clause (node s (lit_at s i)).reason ≡ false)

-- `PropagationEffect live implied words s words' s'` holds if some propagation has led from `words` and `s` to `words'`
-- and `s'`. Every literal that became true has a clause as its reason, and reasons stay unit in the order of the trail.
-- Clauses changed only in the order of their literals; a true first literal stays first.
pub record PropagationEffect (live : List ℕ) (implied : List (List ℕ)) (words : List ℕ) (s : PropagationState) (words' : List ℕ) (s' : PropagationState) : Type 0 where
  pub grows : TrailGrows s s'
  pub reorders : PermutesClauses words words' live
  pub firsts : (o : ℕ) → Contains live o → IsTrueLit s.values (lit_of words o 0) → lit_of words' o 0 ≡ lit_of words o 0
  pub caused : (i : ℕ) → length s.trail.lits ≤ i → i < length s'.trail.lits → HasClauseReason s' i
  pub reasons : (from : ℕ) → from ≤ length s.trail.lits → ReasonsAreUnit words live implied s from → ReasonsAreUnit words' live implied s' from
