-- A clause that may be loaded at level 0.
use Rattle.std.specs.Prelude.{ℕ, ◌≡◌, ◌≤◌, ◌*◌, ◌<◌, Bool, true, false, Option, Some, None, List, [], ◌∷◌, ◌++◌, length, slice_index_or as get_or}
use Rattle.sat_base.specs.values.Literals.{variable, negated, is_positive}
use Rattle.sat_store.specs.heap.Vsids.{Queue, is_available}
use Rattle.sat_parts.specs.clause.Orders.{AreDistinct}
use Rattle.sat_parts.specs.prop.Values.{value_of, lit_value_from, IsTrueLit, IsFalseLit, IsUnassignedLit}
use Rattle.sat_parts.specs.prop.State.{PropagationState, HasLeftQueue}

-- `IsLoadable s q ls` holds if the literals are different and have known variables, the negations of the first two have
-- not left the queue, and unassigned variables may be picked.
pub record IsLoadable (s : PropagationState) (q : Queue) (ls : List ℕ) : Type 0 where
  pub distinct : AreDistinct ls
  pub below : (k : ℕ) → k < length ls → get_or ls k 0 < 2 * length s.values
  pub fresh : (i : ℕ) → i < 2 → HasLeftQueue s (negated (get_or ls i 0)) → ⊥
  pub ready : (k : ℕ) → k < length ls → value_of s.values (variable (get_or ls k 0)) ≡ None → is_available q (variable (get_or ls k 0)) ≡ true

-- the value of a literal, or `None` if it is unassigned
abbrev pub lit_value : List (Option Bool) → ℕ → Option Bool
lit_value values l = lit_value_from (is_positive l) (value_of values (variable l))

-- the result of `without_false` for l followed by ls, given the value of l and the result for ls
abbrev pub without_false_step : Option Bool → (l : ℕ) → (ls rest : List ℕ) → List ℕ
without_false_step (Some true) l ls rest = l ∷ ls
without_false_step (Some false) l ls rest = rest
without_false_step None l ls rest = l ∷ rest

-- the clause without those false literals that precede its first true literal (without all false ones if none is true)
abbrev pub without_false : List (Option Bool) → List ℕ → List ℕ
without_false values [] = []
without_false values (l ∷ ls) = without_false_step (lit_value values l) l ls (without_false values ls)

-- the result of `false_prefix` for l followed by further literals, given the value of l and the result for those
abbrev pub false_prefix_step : Option Bool → (l : ℕ) → (rest : List ℕ) → List ℕ
false_prefix_step (Some true) l rest = []
false_prefix_step (Some false) l rest = l ∷ rest
false_prefix_step None l rest = rest

-- the false literals of the clause that precede its first true literal (all false ones if none is true), in order
abbrev pub false_prefix : List (Option Bool) → List ℕ → List ℕ
false_prefix values [] = []
false_prefix values (l ∷ ls) = false_prefix_step (lit_value values l) l (false_prefix values ls)

-- the order in which a clause is stored: the false literals before the first true literal move to the end
abbrev pub false_last : List (Option Bool) → List ℕ → List ℕ
false_last values ls = without_false values ls ++ false_prefix values ls

-- `without_false` for the rest `ls` of a clause; if the flag says that a true literal precedes it, all of `ls`
abbrev pub rest_without_false : Bool → List (Option Bool) → List ℕ → List ℕ
rest_without_false true values ls = ls
rest_without_false false values ls = without_false values ls

-- `false_prefix` for the rest `ls` of a clause; if the flag says that a true literal precedes it, no literals
abbrev pub rest_false_prefix : Bool → List (Option Bool) → List ℕ → List ℕ
rest_false_prefix true values ls = []
rest_false_prefix false values ls = false_prefix values ls

-- `IsSatisfiedFlag found values ls` holds if `found` says whether one of the literals is true.
abbrev pub IsSatisfiedFlag : Bool → List (Option Bool) → List ℕ → Type 0
IsSatisfiedFlag true values ls = (k : ℕ) × ((k < length ls) × IsTrueLit values (get_or ls k 0))
IsSatisfiedFlag false values ls = (k : ℕ) → k < length ls → IsTrueLit values (get_or ls k 0) → ⊥

-- `IsNextSatisfiedFlag found next values l` holds if `next` says whether `l` or a literal before it is true, and
-- `found` says so of those before it.
abbrev pub IsNextSatisfiedFlag : (found next : Bool) → List (Option Bool) → ℕ → Type 0
IsNextSatisfiedFlag true next values l = next ≡ true
IsNextSatisfiedFlag false true values l = IsTrueLit values l
IsNextSatisfiedFlag false false values l = IsTrueLit values l → ⊥

-- `IsUnassignedThenFalse s q ls kept` holds if the literals are different and have known variables. The first `kept`
-- are unassigned and may be picked. The others are false, and their negations are still in the queue.
pub record IsUnassignedThenFalse (s : PropagationState) (q : Queue) (ls : List ℕ) (kept : ℕ) : Type 0 where
  pub distinct : AreDistinct ls
  pub below : (k : ℕ) → k < length ls → get_or ls k 0 < 2 * length s.values
  pub within : kept ≤ length ls
  pub free : (k : ℕ) → k < kept → IsUnassignedLit s.values (get_or ls k 0)
  pub gone : (k : ℕ) → kept ≤ k → k < length ls → IsFalseLit s.values (get_or ls k 0)
  pub fresh : (k : ℕ) → kept ≤ k → k < length ls → HasLeftQueue s (negated (get_or ls k 0)) → ⊥
  pub ready : (k : ℕ) → k < kept → is_available q (variable (get_or ls k 0)) ≡ true
