-- What an entry of the store represents, given its buffer.
use Rattle.std.specs.Prelude.{ℕ, List}
use Rattle.sat_checker.specs.inner.Marks.{IsIncreasing}
use Rattle.sat_checker.specs.inner.SlotView.{lits_in, LitsWithin, Slot}
use Rattle.sat_checker.specs.declared.store.slots.Entry.{Entry}

-- The slot that an entry represents; its literals are inline or in the buffer.
abbrev pub slot_of : List ℕ → Entry → Slot
slot_of buffer e = record { clause = record { id = e.id; literals = lits_in buffer e.lits; irredundant = e.irredundant; redundant = e.redundant }; hash = e.hash.hash }

-- `IsEntry buffer e` holds if the literals of the entry are within the buffer, sorted and without repeats.
pub record IsEntry (buffer : List ℕ) (e : Entry) : Type 0 where
  pub within : LitsWithin buffer e.lits
  pub increasing : IsIncreasing (lits_in buffer e.lits)
