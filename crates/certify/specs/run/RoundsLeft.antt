-- How many rounds an ask may take.
use Rattle.std.specs.Prelude.{ℕ, ◌-◌, ◌^◌, min}

-- 2^64 - 1, the largest number of rounds that all asks of a run together may take, and the largest budget
abbrev pub most_rounds : ℕ
most_rounds = 2 ^ 64 - 1

-- The number of rounds that the next ask may take, if the asks before it took `before` rounds in total. Every ask gets
-- the complete budget, or fewer rounds if the total would exceed 2^64 - 1.
abbrev pub rounds_allowed : ℕ → ℕ → ℕ
rounds_allowed budget before = min budget (most_rounds - before)
