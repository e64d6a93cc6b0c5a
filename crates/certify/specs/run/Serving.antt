-- The effect of serving commands one after another. Lists of steps have the newest first.
use Rattle.std.specs.Prelude.{ℕ, ◌+◌, ◌≡◌, List, ◌++◌, map}
use Rattle.sat_base.specs.script.Script.{Command, ScriptEnding}
use Rattle.sat_base.specs.script.ScriptState.{ScriptState, state_after_accepted, accepted_commands}
use Rattle.sat_base.specs.steps.Steps.{Step}
use Rattle.sat_checker.specs.matching.Expected.{Outcome}
use Rattle.certify.specs.answers.Answers.{answers_from}
use Rattle.certify.specs.answers.RightAnswers.{OutcomesAreRight}
use Rattle.certify.specs.run.FinishedRun.{refused_count, answer_kind, AreWithinBudget, rounds_of_asks, identities_given}
use Rattle.certify.specs.run.Stretches.{ServesCommands}
use Rattle.certify.specs.declared.summary.AskReport.{AskReport}

-- the place of a run: the script state, the number of the next command, the steps made so far (newest first), and the
-- number of rounds so far
pub record RunPlace : Type 0 where
  pub judge : ScriptState
  pub number : ℕ
  pub steps : List Step
  pub rounds : ℕ

-- `Serves budget a b commands answered reports refused` holds if these commands led a run from place `a` to place `b`,
-- whatever commands come after them. `answered` is the text of their answers, which are correct, `reports` are those of
-- their asks, and `refused` is the number of refused commands.
pub record Serves (budget : ℕ) (a b : RunPlace) (commands : List Command)
    (answered : List ℕ) (reports : List AskReport) (refused : ℕ) : Type 0 where
  pub outcomes : List Outcome
  pub right : (left : List Command) (rest : List Outcome) → OutcomesAreRight b.judge (accepted_commands b.judge left) rest
      → OutcomesAreRight a.judge (accepted_commands a.judge (commands ++ left)) (outcomes ++ rest)
  pub says : (left : List Command) (ending : ScriptEnding) (rest : List Outcome)
      → answers_from a.number a.judge (commands ++ left) ending (outcomes ++ rest)
      ≡ answered ++ answers_from b.number b.judge left ending rest
  pub refuses : (left : List Command) → refused_count a.judge (commands ++ left) ≡ refused + refused_count b.judge left
  pub kinds : map (λ r. r.answer) reports ≡ map answer_kind outcomes
  pub spent : (left : List Command) (rest : List AskReport)
      → AreWithinBudget budget b.rounds (identities_given b.judge (accepted_commands b.judge left)) rest
      → AreWithinBudget budget a.rounds (identities_given a.judge (accepted_commands a.judge (commands ++ left))) (reports ++ rest)
  pub follows : (to : List Step) (left : List Command) (rest : List Outcome) (counts : List ℕ)
      → ServesCommands b.judge b.steps to (accepted_commands b.judge left) rest counts
      → ServesCommands a.judge a.steps to (accepted_commands a.judge (commands ++ left)) (outcomes ++ rest) (rounds_of_asks reports ++ counts)

-- the place after the accepted command `c`, with these steps and this number of rounds so far
abbrev pub place_after : RunPlace → Command → List Step → ℕ → RunPlace
place_after a c steps rounds = record { judge = state_after_accepted c a.judge; number = a.number + 1; steps = steps; rounds = rounds }
