-- A list of all variables with their activities, whose first m entries are a heap, and the position of every variable
-- in it.
use Rattle.std.specs.Prelude.{◌≡◌, ◌≢◌, ℕ, ◌+◌, ◌-◌, ◌*◌, ◌/◌, ◌^◌, ◌<◌, ◌≤◌, ◌⊎◌, ◌++◌, Bool, false, nat_lt, List, length, map, replicate, slice_index_or as get_or, slice_set as set}
use Rattle.sat_base.specs.values.Literals.{var_limit}
use Rattle.sat_store.specs.declared.vsids.heap.Entry.{Entry}
use Rattle.sat_store.specs.declared.vsids.heap.Child.{Child}

-- the default for positions past the end of the list
abbrev pub no_entry : Entry
no_entry = record { key = 0; var = 0 }

-- the variable of the entry at position `k` of the list, 0 past its end
abbrev pub var_at : List Entry → ℕ → ℕ
var_at heap k = (get_or heap k no_entry).var

-- `VariablesAreWithinLimit heap` holds if the variable of every entry is below 2^28, the limit of variables.
abbrev pub VariablesAreWithinLimit : List Entry → Type 0
VariablesAreWithinLimit heap = (k : ℕ) → k < length heap → var_at heap k < var_limit

-- the activity of the entry at position `k` of the list, 0 past its end
abbrev pub key_at : List Entry → ℕ → ℕ
key_at heap k = (get_or heap k no_entry).key

-- `PositionsMatch heap positions` holds if `heap` lists each of its variables, 0 to its length - 1, exactly once, at
-- the position that `positions` records for it.
pub record PositionsMatch (heap : List Entry) (positions : List ℕ) : Type 0 where
  pub count : length heap ≡ length positions
  pub listed : (k : ℕ) → k < length heap → var_at heap k < length heap
  pub position : (k : ℕ) → k < length heap → get_or positions (var_at heap k) 0 ≡ k
  pub placed : (v : ℕ) → v < length heap → get_or positions v 0 < length heap
  pub variable : (v : ℕ) → v < length heap → var_at heap (get_or positions v 0) ≡ v

-- the rank of an entry, by activity; for equal activities, the variable with the lower index ranks higher
abbrev pub rank : Entry → ℕ
rank e = e.key * var_limit + (var_limit - 1 - e.var)

-- the rank (by activity, then lower index) of the entry at position `k` of the list
abbrev pub rank_at : List Entry → ℕ → ℕ
rank_at heap k = rank (get_or heap k no_entry)

-- the position of the parent in the heap; every parent has four children
abbrev pub parent : ℕ → ℕ
parent k = (k - 1) / 4

-- `IsHeapOrdered r m low` holds if none of the first `m` entries ranks above its parent, if the parent is at `low` or
-- later; `r` gives the ranks.
abbrev pub IsHeapOrdered : (ℕ → ℕ) → ℕ → ℕ → Type 0
IsHeapOrdered r m low = (k : ℕ) → 0 < k → k < m → low ≤ parent k → r k ≤ r (parent k)

-- `OrderedExceptAt r m hole` holds if, among the first `m` positions, none except `hole` ranks above its parent, and
-- the children of `hole` do not rank above the parent of `hole`; `r` gives the rank at each position.
pub record OrderedExceptAt (r : ℕ → ℕ) (m hole : ℕ) : Type 0 where
  pub others : (k : ℕ) → 0 < k → k < m → k ≢ hole → r k ≤ r (parent k)
  pub across : 0 < hole → (k : ℕ) → 0 < k → k < m → parent k ≡ hole → r k ≤ r (parent hole)

-- `OrderedExceptBelow r m low hole` holds if `IsHeapOrdered r m low` does except that children of `hole` may rank above
-- `hole`; they do not rank above the parent of `hole`, if that is at `low` or later.
pub record OrderedExceptBelow (r : ℕ → ℕ) (m low hole : ℕ) : Type 0 where
  pub others : (k : ℕ) → 0 < k → k < m → low ≤ parent k → parent k ≢ hole → r k ≤ r (parent k)
  pub across : 0 < hole → low ≤ parent hole → (k : ℕ) → 0 < k → k < m → parent k ≡ hole → r k ≤ r (parent hole)

-- `ChildrenRankAtMost r m at child` holds if none of the children of position `at` among the first `m` positions ranks
-- above position `child`; `r` gives the rank at each position.
abbrev pub ChildrenRankAtMost : (r : ℕ → ℕ) (m at child : ℕ) → Type 0
ChildrenRankAtMost r m at child = (k : ℕ) → 0 < k → k < m → parent k ≡ at → r k ≤ r child

-- `IsChildAt heap k c` holds if the child `c` has the position `k`, and the entry at this position.
abbrev pub IsChildAt : List Entry → ℕ → Child → Type 0
IsChildAt heap k c = (c.at ≡ k) × (c.entry ≡ get_or heap k no_entry)

-- `IsFirstOf a b c` holds if `c` is `a` or `b`, and neither of these ranks above it.
pub record IsFirstOf (a b c : Child) : Type 0 where
  pub either : (c ≡ a) ⊎ (c ≡ b)
  pub first : rank a.entry ≤ rank c.entry
  pub second : rank b.entry ≤ rank c.entry

-- `FirstChildOf heap m at c` holds if `c` is a child of position `at`, with its entry, and no other child of `at` ranks
-- above it.
pub record FirstChildOf (heap : List Entry) (m at : ℕ) (c : Child) : Type 0 where
  pub under : parent c.at ≡ at
  pub some : 0 < c.at
  pub within : c.at < m
  pub place : IsChildAt heap c.at c
  pub first : ChildrenRankAtMost (rank_at heap) m at c.at

-- `NoChildRanksAbove heap m entry at` holds if none of the children of position `at` among the first `m` entries ranks
-- above `entry`.
abbrev pub NoChildRanksAbove : (heap : List Entry) (m : ℕ) (entry : Entry) (at : ℕ) → Type 0
NoChildRanksAbove heap m entry at = (k : ℕ) → 0 < k → k < m → parent k ≡ at → rank_at heap k ≤ rank entry

-- `FirstChildRanksAbove heap m entry at child` holds if `child` is a child of position `at`, no other child of `at`
-- ranks above it, and it ranks above this entry.
pub record FirstChildRanksAbove (heap : List Entry) (m : ℕ) (entry : Entry) (at child : ℕ) : Type 0 where
  pub under : parent child ≡ at
  pub some : 0 < child
  pub within : child < m
  pub first : ChildrenRankAtMost (rank_at heap) m at child
  pub above : rank entry < rank_at heap child

-- `SiftsDown r s m at` holds if a sift-down from position `at` that changes ranks from `r` to `s` restores the heap: if
-- the first `m` positions were ordered from some `low` up to `at` on, except that children of `at` may rank above it,
-- they are now fully ordered from `low` on.
abbrev pub SiftsDown : (r s : ℕ → ℕ) (m at : ℕ) → Type 0
SiftsDown r s m at = (low : ℕ) → low ≤ at → OrderedExceptBelow r m low at → IsHeapOrdered s m low

-- `SwapsRanks r s i j` holds if the ranks `s` are those of `r` with those at `i` and `j` swapped.
pub record SwapsRanks (r s : ℕ → ℕ) (i j : ℕ) : Type 0 where
  pub first : s i ≡ r j
  pub second : s j ≡ r i
  pub others : (k : ℕ) → k ≢ i → k ≢ j → s k ≡ r k

-- `SwapsPositions old new i j` holds if, in the recorded positions by variable, the variable at position `i` is now at
-- `j` and that at `j` is at `i`; all other variables keep theirs.
pub record SwapsPositions (old new : List ℕ) (i j : ℕ) : Type 0 where
  pub count : length new ≡ length old
  pub first : (v : ℕ) → v < length old → get_or old v 0 ≡ i → get_or new v 0 ≡ j
  pub second : (v : ℕ) → v < length old → get_or old v 0 ≡ j → get_or new v 0 ≡ i
  pub others : (v : ℕ) → v < length old → get_or old v 0 ≢ i → get_or old v 0 ≢ j → get_or new v 0 ≡ get_or old v 0

-- for every variable, whether its position is before `m`, so that it is in the heap
abbrev pub available_by_var : ℕ → List ℕ → List Bool
available_by_var m positions = map (λ p. nat_lt p m) positions

-- for every variable, its activity
abbrev pub activities_by_var : List Entry → List ℕ → List ℕ
activities_by_var heap positions = map (λ p. key_at heap p) positions

-- `SwapsEntries heap positions heap' positions' i j` holds if the entries at positions `i` and `j` were swapped, and
-- the recorded positions of their variables with them; every variable keeps its activity.
pub record SwapsEntries (heap : List Entry) (positions : List ℕ) (heap' : List Entry) (positions' : List ℕ) (i j : ℕ) : Type 0 where
  pub placed : PositionsMatch heap' positions'
  pub count : length heap' ≡ length heap
  pub ranks : SwapsRanks (rank_at heap) (rank_at heap') i j
  pub places : SwapsPositions positions positions' i j
  pub keys : activities_by_var heap' positions' ≡ activities_by_var heap positions

-- `PermutesEntries m heap positions heap' positions'` holds if entries changed their positions only within the first
-- `m` or only after them: positions still match, and no variable changed its activity or whether it is in the heap.
pub record PermutesEntries (m : ℕ) (heap : List Entry) (positions : List ℕ) (heap' : List Entry) (positions' : List ℕ) : Type 0 where
  pub placed : PositionsMatch heap' positions'
  pub count : length heap' ≡ length heap
  pub flags : available_by_var m positions' ≡ available_by_var m positions
  pub keys : activities_by_var heap' positions' ≡ activities_by_var heap positions

-- `SetsAvailable m m' positions positions' v flag` holds if, from the first `m` entries with `positions` to the first
-- `m'` with `positions'`, no variable entered or left the heap except `v`, which is then in it exactly if `flag` is
-- true.
abbrev pub SetsAvailable : (m m' : ℕ) (positions positions' : List ℕ) (v : ℕ) (flag : Bool) → Type 0
SetsAvailable m m' positions positions' v flag = available_by_var m' positions' ≡ set (available_by_var m positions) v flag

-- `AddsHeapVars count heap positions heap' positions'` holds if new variables, outside the heap and with activity 0,
-- were appended to the list until there were `count`; the old ones kept their activities and whether they are in the
-- heap.
pub record AddsHeapVars (count : ℕ) (heap : List Entry) (positions : List ℕ) (heap' : List Entry) (positions' : List ℕ) : Type 0 where
  pub flags : (m : ℕ) → m ≤ length heap → available_by_var m positions' ≡ available_by_var m positions ++ replicate (count - length heap) false
  pub keys : activities_by_var heap' positions' ≡ activities_by_var heap positions ++ replicate (count - length heap) 0

-- the entry `e` with its activity divided by 2^40, rounded down
abbrev pub with_rescaled_key : Entry → Entry
with_rescaled_key e = record e { key = e.key / 2 ^ 40 }

-- `IsHeap heap positions m` holds if each variable is listed once, at its recorded position, there are at most 2^28,
-- all activities are below 2^60, and the first `m` entries are a heap: no entry ranks above its parent.
pub record IsHeap (heap : List Entry) (positions : List ℕ) (m : ℕ) : Type 0 where
  pub placed : PositionsMatch heap positions
  pub within : m ≤ length heap
  pub few : length heap ≤ var_limit
  pub small : (v : ℕ) → get_or (activities_by_var heap positions) v 0 < 2 ^ 60
  pub ordered : IsHeapOrdered (rank_at heap) m 0

-- `KeepsHeap heap positions heap' positions'` holds if, for any `m`, the first `m` entries are still a heap if they
-- were one.
abbrev pub KeepsHeap : (heap : List Entry) (positions : List ℕ) (heap' : List Entry) (positions' : List ℕ) → Type 0
KeepsHeap heap positions heap' positions' = (m : ℕ) → IsHeap heap positions m → IsHeap heap' positions' m
