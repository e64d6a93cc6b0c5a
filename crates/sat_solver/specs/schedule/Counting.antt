-- The number of rounds.
use Rattle.std.specs.Prelude.{ℕ, ◌≡◌, ◌+◌, ◌-◌, ◌*◌, ◌<◌, ◌≤◌, ◌^◌, min, Option, None, Result, IfOk}

-- `round_allowance budget before` is the number of rounds that a call may make if `before` rounds were made earlier:
-- its budget, or fewer, so that all rounds together are at most 2^64-1
abbrev pub round_allowance : (budget before : ℕ) → ℕ
round_allowance budget before = min budget (2 ^ 64 - 1 - before)

-- `RoundsAreBounded n budget before now` holds if the number of rounds did not fall from `before` to `now`, rose by at
-- most the budget (or what is left up to 2^64-1), and by fewer than 2^(2n+3), for a search over `n` variables
pub record RoundsAreBounded (n budget before now : ℕ) : Type 0 where
  pub more : before ≤ now
  pub within : now ≤ before + round_allowance budget before
  pub few : now < before + 2 ^ (2 * n + 3)

-- `AnswerTakesRound r before now` holds if the count of rounds rose from `before` to `now` whenever `r` is `Ok` with an
-- answer
abbrev pub AnswerTakesRound : {T E : Type 0} → Result (Option T) E → (before now : ℕ) → Type 0
AnswerTakesRound r before now = IfOk r (λ o. (o ≡ None → ⊥) → before < now)

-- `NoAnswerTakesRounds r rounds before now` holds if the count of rounds rose from `before` by exactly `rounds`
-- whenever `r` is `Ok` without an answer
abbrev pub NoAnswerTakesRounds : {T E : Type 0} → Result (Option T) E → (rounds before now : ℕ) → Type 0
NoAnswerTakesRounds r rounds before now = IfOk r (λ o. o ≡ None → now ≡ before + rounds)

-- `AnswersWithin r most rounds` holds if `r` is an answer or an error, whenever `rounds` is at least 2^(2n+3) for some
-- n that is at least `most`
abbrev pub AnswersWithin : {T E : Type 0} → Result (Option T) E → (most rounds : ℕ) → Type 0
AnswersWithin r most rounds = (n : ℕ) → most ≤ n → 2 ^ (2 * n + 3) ≤ rounds → IfOk r (λ o. o ≡ None → ⊥)
