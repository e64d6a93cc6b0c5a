-- The progress of an ask.
use Rattle.std.specs.Prelude.{ℕ, ◌≡◌, ◌+◌, ◌-◌, ◌*◌, ◌^◌, ◌≤◌, ◌⊎◌, List}
use Rattle.sat_parts.specs.prop.TrailWord.{Letter}
use Rattle.sat_store.specs.schedule.Luby.{luby}
use Rattle.sat_solver.specs.schedule.Ranks.{word_rank}
use Rattle.sat_solver.specs.schedule.Gaps.{term_number_after}

-- `LongTermIsAhead n gaps given` holds if, some terms after the term number `given`, Luby's sequence has a term of at
-- least 2^(n+1), and up to that term the ask, which has had `gaps` gaps, has fewer than 2^(n+2)
pub record LongTermIsAhead (n gaps given : ℕ) : Type 0 where
  pub ahead : ℕ
  pub few : gaps + ahead + 2 ≤ 2 ^ (n + 2)
  pub long : 2 ^ (n + 1) ≤ luby (term_number_after ahead given + 1)

-- `GapIsLong n gaps base next` holds if the gap between restarts from round `base` to round `next` has at least 2^(n+1)
-- rounds, or lasts until the count of rounds is exhausted; the ask has had fewer than 2^(n+2) gaps
pub record GapIsLong (n gaps base next : ℕ) : Type 0 where
  pub few : gaps + 1 ≤ 2 ^ (n + 2)
  pub long : (base + 2 ^ (n + 1) ≤ next) ⊎ (next ≡ 2 ^ 64 - 1)

-- `AskProgress n start round next given w` holds if an ask over `n` variables that began before round `start` has
-- reached `round` with the trail's word `w`, after restarts that came on average after at most 2^(n+1)-2 rounds. The
-- rank of `w` is at least the number of rounds since the last one.
pub record AskProgress (n start round next given : ℕ) (w : List Letter) : Type 0 where
  pub gaps : ℕ
  pub base : ℕ
  pub spent : base + 2 * gaps ≤ start + gaps * 2 ^ (n + 1)
  pub risen : round ≤ base + word_rank n w
  pub due : LongTermIsAhead n gaps given ⊎ GapIsLong n gaps base next
