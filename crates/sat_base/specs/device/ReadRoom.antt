-- How many bytes may be read at once, so that what they spell is stored without allocating.
use Rattle.std.specs.Prelude.{◌≡◌, ℕ, ◌+◌, ◌-◌, ◌<◌, ◌≤◌, Result, OnOk, vec_len, vec_capacity}
use Rattle.std.specs.Global.{Vec}
use Rattle.sat_base.specs.declared.device.ahead.Ahead.{Ahead}
use Rattle.sat_base.specs.declared.device.input.Input.{Input}
use Rattle.sat_base.specs.declared.steps.step_lists.Lists.{Lists}

-- the number of bytes that were read and not yet consumed
abbrev pub unread : Ahead → ℕ
unread a = a.end - a.at

-- the number of bytes that were read through an input and not yet consumed
abbrev pub unread_in : {R : Type 0} → Input R → ℕ
unread_in i = unread i.ahead.now

-- `HasReadRoom i` holds if the input may read a byte, and the bytes not yet consumed are at most as many as it may read
-- at once.
pub record HasReadRoom {R : Type 0} (i : Input R) : Type 0 where
  pub some : 0 < i.room
  pub fits : unread_in i ≤ i.room

-- `ReadsWithinRoom old new` holds if, in `new`, fewer bytes are not yet consumed than the limit `room` of `old` on one
-- read allows, and this limit is unchanged.
pub record ReadsWithinRoom {R : Type 0} (old new : Input R) : Type 0 where
  pub left : unread_in new < old.room
  pub room : new.room ≡ old.room

-- `HasCapacityFor l count` holds if each of the lists of literals, hashes and units has capacity for `count` items in
-- all.
pub record HasCapacityFor (l : Lists) (count : ℕ) : Type 0 where
  pub literals : count ≤ vec_capacity l.literals
  pub hashes : count ≤ vec_capacity l.hashes
  pub units : count ≤ vec_capacity l.units

-- `HasItemRoom l room` holds if each of the lists of literals, hashes and units has capacity for at least `room` - 1
-- items: as many as all but one of `room` bytes can spell.
pub record HasItemRoom (l : Lists) (room : ℕ) : Type 0 where
  pub literals : room ≤ vec_capacity l.literals + 1
  pub hashes : room ≤ vec_capacity l.hashes + 1
  pub units : room ≤ vec_capacity l.units + 1

-- `ReservesItem result old new count` holds if the list has the same items. If the result is an item, the list has room
-- for it, and for `count` more.
pub record ReservesItem {T E : Type 0} (result : Result T E) (old new : Vec T) (count : ℕ) : Type 0 where
  pub items : new.items ≡ old.items
  pub len : vec_len new ≡ vec_len old
  pub capacity : vec_capacity old ≤ vec_capacity new
  pub room : OnOk result (vec_len new + (count + 1) ≤ vec_capacity new)
