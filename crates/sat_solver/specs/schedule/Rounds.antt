-- Rounds one after another. A restart, if one is due, and a reduction come before each.
use Rattle.std.specs.Prelude.{ℕ, ◌+◌, ◌-◌, ◌^◌, ◌<◌, ◌≤◌, ◌≡◌, ◌⊎◌, min, Option, None, Some}
use Rattle.sat_store.specs.schedule.Luby.{luby, wrapped_term_number}
use Rattle.sat_solver.specs.schedule.Gaps.{gap_end}
use Rattle.sat_solver.specs.declared.schedule.restarts.Restarts.{Restarts}
use Rattle.sat_solver.specs.declared.schedule.RoundOutcome.{RoundOutcome}
use Rattle.sat_solver.specs.declared.schedule.RoundOutcome.TheVariants as outcomes

-- `BeginsGap round old new` holds if a gap between restarts begins before `round`: the next restart is due after the
-- next term of Luby's sequence, times the scale, and the restart is counted (at most 2^64-1)
pub record BeginsGap (round : ℕ) (old new : Restarts) : Type 0 where
  pub given : new.sequence ≡ wrapped_term_number (old.sequence + 1)
  pub scale : new.scale ≡ old.scale
  pub next : new.next ≡ gap_end round (luby (old.sequence + 1)) old.scale
  pub count : new.count ≡ min (old.count + 1) (2 ^ 64 - 1)

-- `RestartsWhereDue restarted round a r b s` holds if a restart was due before `round`, and it was made, from `a` to
-- `b`, and counted in the schedule, from `r` to `s`; or none was due, and nothing changed
abbrev pub RestartsWhereDue : {A : Type 0} (restarted : A → A → Type 0) → (round : ℕ) → A → Restarts → A → Restarts → Type 0
RestartsWhereDue restarted round a r b s = ((round < r.next) × (b ≡ a) × (s ≡ r)) ⊎ ((r.next ≤ round) × restarted a b × BeginsGap round r s)

-- `IsRound restarted reduced rounded round outcome a n r b m s` holds if the round with the number `round` had the
-- outcome `outcome`: a restart if one was due, reductions, and then the search, from `a` to `b`, names `n` to `m`,
-- schedule `r` to `s`
pub record IsRound {A N : Type 0} (restarted : A → A → Type 0) (reduced : A → ℕ → A → Type 0) (rounded : A → N → RoundOutcome → A → N → Type 0) (round : ℕ) (outcome : RoundOutcome) (a : A) (n : N) (r : Restarts) (b : A) (m : N) (s : Restarts) : Type 0 where
  pub after_restart : A
  pub due : RestartsWhereDue restarted round a r after_restart s
  pub after_reduction : A
  pub reduction : reduced after_restart round after_reduction
  pub ends : rounded after_reduction n outcome b m

-- `AreRounds restarted reduced rounded a n r k b m s j` holds if the rounds with the numbers from `k` to below `j` lead
-- from `a`, `n`, `r` to `b`, `m`, `s` (search, names, schedule of restarts), and each of them learned a clause
pub data AreRounds {A N : Type 0} (restarted : A → A → Type 0) (reduced : A → ℕ → A → Type 0) (rounded : A → N → RoundOutcome → A → N → Type 0) : A → N → Restarts → ℕ → A → N → Restarts → ℕ → Type 0 where
  no_round : {a : A} {n : N} {r : Restarts} {k : ℕ} → AreRounds restarted reduced rounded a n r k a n r k
  one_more : {a b c : A} {n m l : N} {r s t : Restarts} {k j : ℕ} → AreRounds restarted reduced rounded a n r k b m s j → IsRound restarted reduced rounded j outcomes.Learned b m s c l t → AreRounds restarted reduced rounded a n r k c l t (j + 1)

-- `LastRoundAnswers restarted reduced rounded answer a n r k b m s j` holds if the rounds with the numbers from `k` to
-- below `j` lead from `a` to `b`, and each learned a clause, except that the last has the outcome `answer`, unless that
-- is `None`
abbrev pub LastRoundAnswers : {A N : Type 0} (restarted : A → A → Type 0) (reduced : A → ℕ → A → Type 0) (rounded : A → N → RoundOutcome → A → N → Type 0) → Option RoundOutcome → A → N → Restarts → ℕ → A → N → Restarts → ℕ → Type 0
LastRoundAnswers restarted reduced rounded None a n r k b m s j = AreRounds restarted reduced rounded a n r k b m s j
LastRoundAnswers {A} {N} restarted reduced rounded (Some o) a n r k b m s j =
    (c : A) × (l : N) × (t : Restarts) × (i : ℕ) × (j ≡ i + 1) × AreRounds restarted reduced rounded a n r k c l t i × IsRound restarted reduced rounded i o c l t b m s
