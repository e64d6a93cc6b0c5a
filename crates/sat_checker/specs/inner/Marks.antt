-- Marks of literals, by literal code.
use Rattle.std.specs.Prelude.{ℕ, ◌≡◌, ◌<◌, ◌≤◌, ◌+◌, ◌-◌, ◌==◌, Bool, true, false, List, length, get_or, slice_index_or, if◌then◌else◌}
use Rattle.sat_base.specs.declared.table.Table.{Table}
use Rattle.sat_base.specs.values.Literals.{negated}
use Rattle.sat_base.specs.values.Tables.{value_at}
use Rattle.sat_checker.specs.LiteralSets.{is_among}
use Rattle.sat_checker.specs.declared.units.assigned.Mark.{Mark}
use Rattle.sat_checker.specs.declared.units.assigned.Mark.TheVariants as mark
pub use Rattle.sat_checker.specs.SortedSets.{NoRepeats, IsIncreasing}

-- `AreAmong part whole` holds if all literals of `part` are in `whole`.
abbrev pub AreAmong : List ℕ → List ℕ → Type 0
AreAmong part whole = (l : ℕ) → is_among part l ≡ true → is_among whole l ≡ true

-- The mark at the code of a literal, or `NoRoom` if the table has none for it.
abbrev pub mark_at : Table Mark → ℕ → Mark
mark_at = value_at mark.NoRoom

-- The mark of a literal, given whether it is assumed and whether there is room for it.
abbrev pub mark_for : Bool → Bool → Mark
mark_for assumed roomy = if assumed then mark.Assumed else if roomy then mark.Room else mark.NoRoom

-- `is_assumed mark` is true if the mark says that the literal is assumed.
abbrev pub is_assumed : Mark → Bool
is_assumed mark.Assumed = true
is_assumed mark.Room = false
is_assumed mark.NoRoom = false

-- `AreMarksByCode near literals` holds if every mark in `near`, which is indexed by literal code, says whether the
-- literal with this code is in `literals`, the assumed ones. Codes past the end of `near` do not matter.
abbrev pub AreMarksByCode : List Mark → List ℕ → Type 0
AreMarksByCode near literals = (l : ℕ) → l < length near → is_assumed (slice_index_or near l mark.NoRoom) ≡ is_among literals l

-- `AreMarks marks literals room` holds if exactly `literals` are marked as assumed, and the others by whether they are
-- in `room`. The literals are distinct, and all are in `room`.
pub record AreMarks (marks : Table Mark) (literals room : List ℕ) : Type 0 where
  pub each : (l : ℕ) → mark_at marks l ≡ mark_for (is_among literals l) (is_among room l)
  pub once : NoRepeats literals
  pub within : (l : ℕ) → is_among literals l ≡ true → is_among room l ≡ true

-- `CountsRoom count capacity room` holds if `count` is the number of literals with room, and is at most the capacity.
-- If a literal has room, so has its negation.
pub record CountsRoom (count capacity : ℕ) (room : List ℕ) : Type 0 where
  pub exact : count ≡ length room
  pub enough : count ≤ capacity
  pub paired : (l : ℕ) → is_among room l ≡ is_among room (negated l)

-- `IsSwapRemoved place old new` holds if `new` is `old` without the item at `place`, to which the last item moved.
pub record IsSwapRemoved (place : ℕ) (old new : List ℕ) : Type 0 where
  pub count : length new + 1 ≡ length old
  pub each : (i : ℕ) → i < length new → get_or new i 0 ≡ (if i == place then get_or old (length old - 1) 0 else get_or old i 0)
