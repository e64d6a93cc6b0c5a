-- The assumptions of an ask, and which of them were considered.
use Rattle.std.specs.Prelude.{ℕ, ◌≡◌, ◌<◌, ◌≤◌, true, List, map, length, slice_index_or as get_or}
use Rattle.std.specs.List.{Contains}
use Rattle.sat_base.specs.values.Literals.{variable}
use Rattle.sat_parts.specs.clause.Glue.{VariablesBelow}
use Rattle.sat_parts.specs.prop.Graphs.{has_no_clause}
use Rattle.sat_parts.specs.prop.Values.{IsTrueLit, IsFalseLit}
use Rattle.sat_parts.specs.prop.State.{PropagationState, node, level, lit_at}
use Rattle.sat_parts.specs.declared.parts.SearchState.{SearchState}
use Rattle.sat_parts.specs.parts.Whole.{state}
use Rattle.sat_parts.specs.parts.Frame.{OpensLevel, KeepsLevelsTo}
use Rattle.sat_parts.specs.declared.parts.assumptions.Assumptions.{Assumptions}
use Rattle.sat_parts.specs.declared.parts.assumptions.EnqueueAssumption.{EnqueueAssumption}
use Rattle.sat_parts.specs.declared.parts.assumptions.EnqueueAssumption.TheVariants.{Done, Enqueued, Conflict}

-- the variables of the literals, in order
abbrev pub variables_of_lits : List ℕ → List ℕ
variables_of_lits ls = map (λ l. variable l) ls

-- `HaveVariablesIn ls p` holds if the variables of the literals `ls` exist in `p`.
abbrev pub HaveVariablesIn : List ℕ → SearchState → Type 0
HaveVariablesIn ls p = VariablesBelow ls (length p.assignment.current)

-- `AreConsideredUpTo ls below place s` holds if the assumptions `ls` before position `place` are true, at level 0 or at
-- the first levels, which assumptions began, one per item of `below`. Item j is a position too: the assumptions before
-- it are true at level j or lower. There are more levels only if `place` is the end.
pub record AreConsideredUpTo (ls below : List ℕ) (place : ℕ) (s : PropagationState) : Type 0 where
  pub levels : length below ≤ length s.trail.starts
  pub within : place ≤ length ls
  pub low_within : (j : ℕ) → j < length below → get_or below j 0 ≤ length ls
  pub passed : (k : ℕ) → k < place → IsTrueLit s.values (get_or ls k 0) × (level s (get_or ls k 0) ≤ length below)
  pub low_passed : (j k : ℕ) → j < length below → k < get_or below j 0 → IsTrueLit s.values (get_or ls k 0) × (level s (get_or ls k 0) ≤ j)
  pub begun : (j : ℕ) → j < length below → Contains ls (lit_at s (get_or s.trail.starts j 0))
  pub all : length below < length s.trail.starts → place ≡ length ls

-- `PlacesAreCorrect a s` holds if the positions that `a` records (how many assumptions were considered, now and at each
-- level that an assumption began) are correct in the state `s` (`AreConsideredUpTo`).
abbrev pub PlacesAreCorrect : Assumptions → PropagationState → Type 0
PlacesAreCorrect a s = AreConsideredUpTo a.lits.items a.below.items a.place s

-- `UndoesPlacesTo level a a'` holds if the places of `a'` are correct in every state that results from undoing the
-- levels above `level`, whenever those of `a` were correct before.
abbrev pub UndoesPlacesTo : (level : ℕ) (a a' : Assumptions) → Type 0
UndoesPlacesTo level a a' = (s s' : PropagationState) → PlacesAreCorrect a s → level ≤ length s.trail.starts → KeepsLevelsTo level s s' → length s'.trail.starts ≡ level → PlacesAreCorrect a' s'

-- `AreTrueFromTo p ls from to` holds if the literals from position `from` up to `to`, exclusive, are true.
abbrev pub AreTrueFromTo : SearchState → List ℕ → (from to : ℕ) → Type 0
AreTrueFromTo p ls from to = (k : ℕ) → from ≤ k → k < to → IsTrueLit p.assignment.current (get_or ls k 0)

-- `IsUntrueAt p ls at l` holds if the literal at position `at` is `l`, and is not true.
abbrev pub IsUntrueAt : SearchState → List ℕ → (at l : ℕ) → Type 0
IsUntrueAt p ls at l = (at < length ls) × (get_or ls at 0 ≡ l) × (IsTrueLit p.assignment.current l → ⊥)

-- `DecisionsAreAmong ls s` holds if every literal on the trail above level 0 that has no clause as its reason is one of
-- `ls`.
abbrev pub DecisionsAreAmong : List ℕ → PropagationState → Type 0
DecisionsAreAmong ls s = (i : ℕ) → i < length s.trail.lits → 0 < level s (lit_at s i) → has_no_clause (node s (lit_at s i)).reason ≡ true → Contains ls (lit_at s i)

-- `EnqueueAssumptionEffect result a p p'` holds if `result` says what enqueueing an assumption has done. With `Done`,
-- nothing has changed, and all assumptions are true. With `Enqueued`, there is one more level. With a conflict, nothing
-- has changed, an assumption is false, and all decisions are assumptions.
abbrev pub EnqueueAssumptionEffect : EnqueueAssumption → Assumptions → SearchState → SearchState → Type 0
EnqueueAssumptionEffect Done a p p' = (p' ≡ p) × (a.place ≡ length a.lits.items) × ((k : ℕ) → k < length a.lits.items → IsTrueLit p.assignment.current (get_or a.lits.items k 0))
EnqueueAssumptionEffect Enqueued a p p' = OpensLevel p p'
EnqueueAssumptionEffect (Conflict l) a p p' = (p' ≡ p) × Contains a.lits.items l × IsFalseLit p.assignment.current l × (length a.below.items ≡ length p.trail.starts) × DecisionsAreAmong a.lits.items (state p)
