-- Literals that follow from clauses, units and decisions.
use Rattle.std.specs.Prelude.{ℕ, ◌≡◌, ◌<◌, Bool, true, List, length, slice_index_or as get_or}
use Rattle.std.specs.List.{Contains}
use Rattle.sat_base.specs.values.Clauses.{literal_true}
use Rattle.sat_parts.specs.declared.prop.graph.Reason.TheVariants.{Unit as NoCause}
use Rattle.sat_parts.specs.clause.Stored.{lit_of, size_of}
use Rattle.sat_parts.specs.prop.Values.{IsTrueLit}
use Rattle.sat_parts.specs.prop.Binaries.{implied_by}
use Rattle.sat_parts.specs.prop.State.{PropagationState, node, lit_at, IsRemovedUnit, StateIsConsistent}
use Rattle.sat_parts.specs.prop.Reasons.{ReasonsAreUnit}

-- `IsModelOf words live implied s v` holds if the valuation `v` satisfies all clauses, all units, including those taken
-- off the trail, and all decisions and assumptions of `s`.
pub record IsModelOf (words live : List ℕ) (implied : List (List ℕ)) (s : PropagationState) (v : ℕ → Bool) : Type 0 where
  pub long : (o : ℕ) → Contains live o → (k : ℕ) × ((k < size_of words o) × (literal_true v (lit_of words o k) ≡ true))
  pub binary : (l k : ℕ) → k < length (implied_by implied l) → literal_true v l ≡ true → literal_true v (get_or (implied_by implied l) k 0) ≡ true
  pub given : (i : ℕ) → i < length s.trail.lits → (node s (lit_at s i)).reason ≡ NoCause → literal_true v (lit_at s i) ≡ true
  pub removed : (l : ℕ) → IsRemovedUnit s l → literal_true v l ≡ true

-- `AssignedIsImplied` holds if, in every consistent state whose reasons are unit in the order of the trail
-- (`ReasonsAreUnit`), all true literals follow from the clauses, units, decisions and assumptions: they are true in
-- every model (`IsModelOf`).
abbrev pub AssignedIsImplied : Type 0
AssignedIsImplied =
    (words live : List ℕ) (implied : List (List ℕ)) (s : PropagationState) (v : ℕ → Bool) → StateIsConsistent s → ReasonsAreUnit words live implied s 0 → IsModelOf words live implied s v →
    (l : ℕ) → IsTrueLit s.values l → literal_true v l ≡ true
