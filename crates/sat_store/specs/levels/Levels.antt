-- A filter for sets of levels: the remainders modulo 64, as the bits of a number.
use Rattle.std.specs.Prelude.{ℕ, ◌%◌, ◌==◌, Bool}
use Rattle.std.specs.Int.{bit_at}

-- `level_passes filter level` is true if the level, or one with the same remainder, was added to the filter.
unfoldable pub level_passes : ℕ → ℕ → Bool
level_passes filter level = bit_at filter (level % 64) == 1
