-- Sets of free indices, as binary trees of flags.
use Rattle.std.specs.Prelude.{ℕ, zero, suc, ◌+◌, ◌*◌, ◌<◌, ◌≤◌, ◌==◌, ◌≡◌, ◌⊎◌, Bool, true, false, ◌||◌, List, length, get_or, if◌then◌else◌}
use Rattle.sat_base.specs.values.Literals.{var_limit}
use Rattle.sat_solver.specs.variables.Counting.{count_to}
use Rattle.sat_solver.specs.declared.variables.free.FreeIndices.{FreeIndices}

-- `tree_node_at nodes q` is the flag of node `q`: whether some leaf at or below it is free; false past the end of the
-- list
abbrev pub tree_node_at : List Bool → ℕ → Bool
tree_node_at nodes q = get_or nodes q false

-- `is_free f i` is true if number `i` is in the set `f` of free numbers; its leaf is node `room + i`
abbrev pub is_free : FreeIndices → ℕ → Bool
is_free f i = tree_node_at f.nodes.items (f.room + i)

-- `doubled h` is 2^h, the number of leaves of a complete binary tree of height `h`
unfoldable pub doubled : ℕ → ℕ
doubled zero = 1
doubled (suc h) = 2 * doubled h

-- `HasPowerOfTwoLeaves f` holds if the number of leaves, `room`, is 0, or 2^`height` and at most the limit of variables
pub data HasPowerOfTwoLeaves (f : FreeIndices) : Type 0 where
  empty : f.room ≡ 0 → HasPowerOfTwoLeaves f
  power : f.room ≡ doubled f.height → f.room ≤ var_limit → HasPowerOfTwoLeaves f

-- `IsCounted f` holds if the stored count is the number of free numbers below `room`
abbrev pub IsCounted : FreeIndices → Type 0
IsCounted f = f.count ≡ count_to f.room (is_free f)

-- `IsTree f` holds if `f` is a complete binary tree of flags over `room` leaves, a power of two or 0, in which an inner
-- node is set exactly if one of its children is, and the stored count of free numbers is correct
pub record IsTree (f : FreeIndices) : Type 0 where
  pub size : length f.nodes.items ≡ 2 * f.room
  pub powers : HasPowerOfTwoLeaves f
  pub counted : IsCounted f
  -- an inner node is set if one of its children is
  pub inner : (q : ℕ) → 0 < q → q < f.room → tree_node_at f.nodes.items q ≡ (tree_node_at f.nodes.items (2 * q) || tree_node_at f.nodes.items (2 * q + 1))

-- `IsTreeWithLeaves f count` holds if `f` is a complete binary tree of flags, with correct inner nodes and count, that
-- has at least `count` leaves
pub record IsTreeWithLeaves (f : FreeIndices) (count : ℕ) : Type 0 where
  pub tree : IsTree f
  pub room : count ≤ f.room

-- `Refreshes old new at` holds if the node `at` was set exactly if one of its children is set, and no other node has
-- changed
pub record Refreshes (old new : List Bool) (at : ℕ) : Type 0 where
  pub size : length new ≡ length old
  pub nodes : (q : ℕ) → tree_node_at new q ≡ (if q == at then tree_node_at old (2 * at) || tree_node_at old (2 * at + 1) else tree_node_at old q)

-- `IsChild nodes at child` holds if `child` is the left child of the node `at` if that is set, or otherwise the right
-- child, which is set
pub record IsChild (nodes : List Bool) (at child : ℕ) : Type 0 where
  pub holds : tree_node_at nodes child ≡ true
  pub is : (child ≡ 2 * at) ⊎ ((child ≡ 2 * at + 1) × (tree_node_at nodes (2 * at) ≡ false))

-- `IsLowest f i` holds if `i` is the lowest number in the set `f` of free numbers
pub record IsLowest (f : FreeIndices) (i : ℕ) : Type 0 where
  pub free : is_free f i ≡ true
  pub lowest : (k : ℕ) → k < i → is_free f k ≡ false

-- `CopiesLeaves old new room` holds if the `room` leaves of a tree were copied to where a tree with twice as many
-- leaves has its first leaves; nodes from 3 * `room` on are unchanged, other nodes may have changed
pub record CopiesLeaves (old new : List Bool) (room : ℕ) : Type 0 where
  pub size : length new ≡ length old
  pub there : (i : ℕ) → i < room → tree_node_at new (2 * room + i) ≡ tree_node_at old (room + i)
  pub kept : (q : ℕ) → 3 * room ≤ q → tree_node_at new q ≡ tree_node_at old q
