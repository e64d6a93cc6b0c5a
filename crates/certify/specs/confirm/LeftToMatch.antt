-- What remains to be matched, as the invariant of the loops that confirm a script.
use Rattle.std.specs.Prelude.{ℕ, ◌≡◌, List, [], ◌∷◌, ◌++◌}
use Rattle.std.specs.List.{AllByRecursion}
use Rattle.sat_base.specs.script.Script.{Literal, Command, ScriptEnding}
use Rattle.sat_base.specs.script.ScriptState.{ScriptState, accepted_commands}
use Rattle.sat_base.specs.steps.Steps.{Step}
use Rattle.sat_base.specs.steps.StepText.{SpellsSteps}
use Rattle.certify.specs.answers.Answers.{outcome_text, answers_from}
use Rattle.sat_checker.specs.matching.Expected.{Outcome, Expected, Opens, Closes, step_showing, expected_steps}
use Rattle.sat_checker.specs.matching.Checking.{CheckerRules}
use Rattle.certify.specs.confirm.Matches.{OneOutcomePerAsk, CoreIsInOrder, Meets}

-- `CertificateMeets k earlier es certificate` holds if the bytes `certificate` begin with the text of steps that meet
-- the expected steps `es` after the steps `earlier` (`Meets`). Any bytes may follow.
pub record CertificateMeets (k : CheckerRules) (earlier : List Step) (es : List Expected) (certificate : List ℕ) : Type 0 where
  pub steps : List Step
  pub text : List ℕ
  pub rest : List ℕ
  pub begins : certificate ≡ text ++ rest
  pub spelt : SpellsSteps steps text
  pub meets : Meets k earlier steps es

-- `RemainsToMatch k j n earlier pending commands ending answers certificate` holds if the remaining bytes of answers
-- and certificate match the commands, from number `n` on, and the ending, for some outcomes, in the state `j` after the
-- steps `earlier`. The certificate first has the expected steps `pending` of earlier commands.
pub record RemainsToMatch (k : CheckerRules) (j : ScriptState) (n : ℕ) (earlier : List Step) (pending : List Expected)
    (commands : List Command) (ending : ScriptEnding) (answers certificate : List ℕ) : Type 0 where
  pub outcomes : List Outcome
  pub answered : answers ≡ answers_from n j commands ending outcomes
  pub one_each : OneOutcomePerAsk (accepted_commands j commands) outcomes
  pub in_form : AllByRecursion CoreIsInOrder outcomes
  pub certified : CertificateMeets k earlier (pending ++ expected_steps j (accepted_commands j commands) outcomes) certificate

-- `AskRemainsToMatch k j n earlier pending ask commands ending answers certificate` holds if the rest matches from the
-- answer to `ask` on; `commands` follow it, from number `n` on. `j` is the state after its names were introduced. First
-- the steps in `pending` are expected, then those of the ask, from its assumptions to its end.
pub record AskRemainsToMatch (k : CheckerRules) (j : ScriptState) (n : ℕ) (earlier : List Step) (pending : List Expected) (ask : List Literal)
    (commands : List Command) (ending : ScriptEnding) (answers certificate : List ℕ) : Type 0 where
  pub outcome : Outcome
  pub tail : List ℕ
  pub answered : answers ≡ outcome_text outcome ++ tail
  pub in_form : CoreIsInOrder outcome
  pub left : RemainsToMatch k j n earlier (pending ++ (Opens ask outcome ∷ (step_showing j ask outcome ++ (Closes ∷ [])))) commands ending tail certificate
