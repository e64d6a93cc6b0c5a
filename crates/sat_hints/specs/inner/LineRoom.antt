-- The memory that is reserved before a line is read.
use Rattle.std.specs.Prelude.{ℕ, ◌+◌, ◌*◌, ◌≤◌, ◌≡◌, vec_capacity}
use Rattle.sat_hints.specs.declared.reading.Lists.{Lists}

-- `HasListRoom lists count` holds if the lists have capacity for the literals and the ids of a line of `count` bytes.
pub record HasListRoom (lists : Lists) (count : ℕ) : Type 0 where
  pub literals : count ≤ 2 * vec_capacity lists.literals + 1
  pub ids : count ≤ 2 * vec_capacity lists.ids + 1

-- `KeepsListRoom old new` holds if the lists have the same capacity.
pub record KeepsListRoom (old new : Lists) : Type 0 where
  pub literals : vec_capacity new.literals ≡ vec_capacity old.literals
  pub ids : vec_capacity new.ids ≡ vec_capacity old.ids
