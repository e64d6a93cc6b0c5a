-- The values of a table.
use Rattle.std.specs.Prelude.{ℕ, ◌≡◌, ◌<◌, ◌==◌, ◌⊎◌, Option, Some, None, length, slice_index_or, if◌then◌else◌, nat_lt}
use Rattle.std.specs.Option.{IsSome}
use Rattle.std.specs.Ordering.{nat_cmp}
use Rattle.std.specs.BTreeMap.{get}
use Rattle.sat_base.specs.declared.table.Table.{Table}

-- the number of places, from 0 on, whose values the table keeps in its list; later places are in its tree
abbrev pub near_count : {T : Type 0} → Table T → ℕ
near_count t = length t.near.items

-- the value, if there is one, otherwise the default
abbrev pub value_or : {T : Type 0} → Option T → T → T
value_or (Some x) y = x
value_or None y = y

-- the value of the table `t` at place `v`: from the list for the first places, otherwise from the tree; `missing` if
-- neither has one
abbrev pub value_at : {T : Type 0} → T → Table T → ℕ → T
value_at missing t v = if nat_lt v (near_count t) then slice_index_or t.near.items v missing else value_or (get nat_cmp t.far v) missing

-- `HasPlaceFor t v` holds if the value at the place `v` can be set without allocating: it is in the list or in the
-- tree.
abbrev pub HasPlaceFor : {T : Type 0} → Table T → ℕ → Type 0
HasPlaceFor t v = (v < near_count t) ⊎ IsSome (get nat_cmp t.far v)

-- `KeepsRoom old new` holds if every place whose value could be set without allocating in `old` has such room in `new`.
abbrev pub KeepsRoom : {T : Type 0} → (old new : Table T) → Type 0
KeepsRoom old new = (v : ℕ) → HasPlaceFor old v → HasPlaceFor new v

-- `KeepsValues missing old new` holds if the tables `old` and `new` have the same value at every place; `missing` is
-- the value where a table has none.
abbrev pub KeepsValues : {T : Type 0} → T → (old new : Table T) → Type 0
KeepsValues missing old new = (v : ℕ) → value_at missing new v ≡ value_at missing old v

-- `SetsValue missing old new place value` holds if `place` has this value, and no other value changed.
abbrev pub SetsValue : {T : Type 0} → T → (old new : Table T) → (place : ℕ) → T → Type 0
SetsValue missing old new place value = (v : ℕ) → value_at missing new v ≡ (if v == place then value else value_at missing old v)
