-- When a number that the checker would store does not fit in 64 bits.
use Rattle.std.specs.Prelude.{ℕ, ◌≤◌, ◌^◌, ◌⊎◌, List}
use Rattle.sat_base.specs.steps.Steps.{Step}
use Rattle.sat_checker.specs.Stored.{Stored}
use Rattle.sat_checker.specs.Storing.{clause_with, irredundant_count, redundant_count, with_conflict_settled}
use Rattle.sat_checker.specs.Accepts.{Accepts, effect}

-- `CountExhausted f` holds if a count of a stored clause does not fit in 64 bits.
pub record CountExhausted (f : Stored) : Type 0 where
  pub literals : List ℕ
  pub past : (2 ^ 64 ≤ irredundant_count (clause_with literals f.clauses)) ⊎ (2 ^ 64 ≤ redundant_count (clause_with literals f.clauses))

-- `CountersExhausted f` holds if the next id or a count of a stored clause is 2^64 or more. So the largest id is
-- 2^64-2.
abbrev pub CountersExhausted : Stored → Type 0
CountersExhausted f = (2 ^ 64 ≤ f.next_id) ⊎ CountExhausted f

-- `ExhaustsCounters step f` holds if an id or a count does not fit in 64 bits, either once a pending unit conflict of
-- `f` is settled, or after the step, if it is then accepted.
abbrev pub ExhaustsCounters : Step → Stored → Type 0
ExhaustsCounters step f = CountersExhausted (with_conflict_settled f) ⊎ (Accepts (with_conflict_settled f) step × CountersExhausted (effect step (with_conflict_settled f)))
