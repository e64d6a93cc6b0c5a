-- The trail: the true literals in the order of assignment, with the positions where levels begin.
use Rattle.std.specs.Prelude.{ℕ, ◌≡◌, Some, slice_get, ◌+◌, ◌-◌, ◌^◌, ◌<◌, ◌≤◌, List, [], ◌∷◌, ◌++◌, min, take, length, slice_index_or as get_or}
use Rattle.sat_base.specs.values.Literals.{var_limit}

-- The literals on the trail in order of assignment, how many of them have left the propagation queue (`head`), and the
-- position where each level from 1 on begins. `cleared` counts the units taken off the trail so far (capped at 2^64 -
-- 1); `room` is for how many literals there is capacity.
pub record TrailState : Type 0 where
  pub lits : List ℕ
  pub head : ℕ
  pub starts : List ℕ
  pub cleared : ℕ
  pub room : ℕ

-- the trail with these parts, which are separate fields in the code
abbrev pub trail_state : (lits : List ℕ) (head : ℕ) (starts : List ℕ) (cleared room : ℕ) → TrailState
trail_state lits head starts cleared room = record { lits = lits; head = head; starts = starts; cleared = cleared; room = room }

-- `AreLevelStarts starts len` holds if the positions `starts` where levels begin are in ascending order (equal ones are
-- allowed), and none is above `len`.
pub record AreLevelStarts (starts : List ℕ) (len : ℕ) : Type 0 where
  pub within : (k : ℕ) → k < length starts → get_or starts k 0 ≤ len
  pub rising : (j k : ℕ) → j ≤ k → k < length starts → get_or starts j 0 ≤ get_or starts k 0

-- `IsTrail t` holds if the trail is valid: no more literals have left the queue than there are, levels begin in order,
-- the literals fit into the capacity, which is at most the limit of variables, and there are fewer than 2^32 levels.
pub record IsTrail (t : TrailState) : Type 0 where
  pub queue : t.head ≤ length t.lits
  pub levels : AreLevelStarts t.starts (length t.lits)
  pub fits : length t.lits ≤ t.room
  pub small : t.room ≤ var_limit
  pub counted : length t.starts < 2 ^ 32

-- `IsAtLevel starts i level` holds if position `i` of the trail is at `level`: the levels from 1 to `level` begin at
-- `i` or before, and all higher levels begin after `i`. `starts` has the positions where levels begin, from level 1 on.
pub record IsAtLevel (starts : List ℕ) (i level : ℕ) : Type 0 where
  pub within : level ≤ length starts
  pub begun : (k : ℕ) → k < level → get_or starts k 0 ≤ i
  pub not_begun : (k : ℕ) → level ≤ k → k < length starts → i < get_or starts k 0

-- the empty trail, without levels or capacity
abbrev pub no_trail : TrailState
no_trail = record { lits = []; head = 0; starts = []; cleared = 0; room = 0 }

-- the number of literals at level 0: the position where level 1 begins, or the length of the trail if there is none
abbrev pub level_zero_end : TrailState → ℕ
level_zero_end t = get_or t.starts 0 (length t.lits)

-- `PopsQueue t l t'` holds if `l`, the first literal in the queue, left the queue.
abbrev pub PopsQueue : TrailState → ℕ → TrailState → Type 0
PopsQueue t l t' = (slice_get t.lits t.head ≡ Some l) × (t' ≡ record t { head = t.head + 1 })

-- the trail with one more literal
abbrev pub with_lit : ℕ → TrailState → TrailState
with_lit l t = record t { lits = t.lits ++ l ∷ [] }

-- the trail with one more level, which has no literal yet
abbrev pub with_level : TrailState → TrailState
with_level t = record t { starts = t.starts ++ length t.lits ∷ [] }

-- the trail without any literals, which are counted as cleared (capped at 2^64 - 1); the queue is empty
abbrev pub with_cleared : TrailState → TrailState
with_cleared t = record t { lits = []; head = 0; cleared = min (t.cleared + length t.lits) (2 ^ 64 - 1) }

-- the trail without the levels above `level`, which is lower than the current level; the queue is empty
abbrev pub without_levels_above : ℕ → TrailState → TrailState
without_levels_above level t = let len = get_or t.starts level 0 in record t { lits = take len t.lits; head = len; starts = take level t.starts }
