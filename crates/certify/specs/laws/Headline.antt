-- The headline, for texts in memory: a script is run, what the run wrote is confirmed, and other answers are judged
-- with another certificate.
use Rattle.std.specs.Prelude.{ℕ, ◌+◌, ◌*◌, ◌^◌, ◌<◌, ◌≤◌, ◌≡◌, List, [], ◌∷◌, length, reverse, sum}
use Rattle.sat_base.specs.steps.Steps.{Step}
use Rattle.sat_base.specs.steps.StepText.{SpellsSteps}
use Rattle.sat_checker.specs.Accepts.{AcceptsAll}
use Rattle.sat_checker.specs.matching.Expected.{Outcome, Unknown}
use Rattle.certify.specs.answers.Events.{Event, Refused, Asked, MalformedAt, events_in}
use Rattle.certify.specs.confirm.VerdictPromises.{AreRightAnswers}
use Rattle.certify.specs.run.Learning.{EachAskLearns}
use Rattle.certify.specs.run.RoundsLeft.{rounds_allowed}
use Rattle.certify.specs.laws.EndToEnd.{most_looks_for}
use Rattle.certify.specs.declared.verdict.Verdict.{Verdict}
use Rattle.certify.specs.declared.verdict.Verdict.TheVariants.{Yes}

-- `TookRounds n left taken o` holds if `taken` is at most `left` and below 2^(2n+3), and equals `left` if `o` is
-- unknown: an ask with outcome `o` was allowed `left` rounds and took `taken`. So `o` is not unknown if at least
-- 2^(2n+3) rounds were left. `n` is the number of variables created so far, including hidden ones.
pub record TookRounds (n left taken : ℕ) (o : Outcome) : Type 0 where
  pub within : taken ≤ left
  pub few : taken < 2 ^ (2 * n + 3)
  pub unknown : o ≡ Unknown → taken ≡ left

-- `EachTookRounds budget before events outcomes rounds` holds if there is one outcome and one number of rounds for each
-- ask, and `TookRounds` holds of them, in order. `before` is the number of rounds that the earlier asks took.
abbrev pub EachTookRounds : (budget before : ℕ) → List Event → List Outcome → List ℕ → Type 0
EachTookRounds budget before [] [] [] = Unit {0}
EachTookRounds budget before (Refused k refusal ∷ events) outcomes rounds = EachTookRounds budget before events outcomes rounds
EachTookRounds budget before (MalformedAt k ∷ events) outcomes rounds = EachTookRounds budget before events outcomes rounds
EachTookRounds budget before (Asked state ls ∷ events) (o ∷ outcomes) (taken ∷ rounds) =
    TookRounds state.identity_count (rounds_allowed budget before) taken o × EachTookRounds budget (before + taken) events outcomes rounds
EachTookRounds budget before events outcomes rounds = ⊥

-- `ShowsRounds certificate outcomes rounds` holds if the certificate spells steps that a checker accepts, and in each
-- ask, they derive a number of empowering clauses that fits its outcome and its rounds (`EachAskLearns`). `steps` has
-- the newest step first.
pub record ShowsRounds (certificate : List ℕ) (outcomes : List Outcome) (rounds : List ℕ) : Type 0 where
  pub steps : List Step
  pub spelt : SpellsSteps (reverse steps) certificate
  pub accepted : AcceptsAll steps
  pub learns : EachAskLearns steps 0 outcomes rounds

-- `Headline script budget rounds answers certificate own claimed shown other before after` holds if a run of `script`
-- wrote correct `answers` and the `certificate`, with `rounds` for its asks; `own`, the verdict on these, is `Yes`; and
-- `other`, that on the answers `claimed` with the certificate `shown`, is sound. Looks rose from `before` to `after`.
pub record Headline (script : List ℕ) (budget : ℕ) (rounds answers certificate : List ℕ) (own : Verdict)
    (claimed shown : List ℕ) (other : Verdict) (before after : ℕ) : Type 0 where
  -- the answers have one outcome for each accepted ask: a correct model, a correct core, or unknown
  pub answered : AreRightAnswers script answers
  -- an outcome is unknown only if the ask took all rounds that it was allowed, and never if these were 2^(2n+3) or more
  pub spent : EachTookRounds budget 0 (events_in script) answered.outcomes rounds
  -- the certificate spells accepted steps, whose empowering clauses fit these outcomes and rounds
  pub learned : ShowsRounds certificate answered.outcomes rounds
  -- the verdict on these answers and the certificate is `Yes`
  pub confirmed : own ≡ Yes
  -- if the other verdict is `Yes`, the answers `claimed` are correct
  pub any : other ≡ Yes → AreRightAnswers script claimed
  -- the number of looks rises by at most the bounds for the two certificates together
  pub looks : after ≤ before + most_looks_for certificate + most_looks_for shown
