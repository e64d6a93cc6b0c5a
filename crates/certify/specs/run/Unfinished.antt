-- What an unfinished run has written of the answers, and what any run has written of its certificate.
use Rattle.std.specs.Prelude.{ℕ, ◌+◌, ◌-◌, ◌^◌, ◌<◌, ◌≤◌, ◌≡◌, ◌⊎◌, List, [], ◌∷◌, ◌++◌, map, length}
use Rattle.std.specs.Io.KnownBytes.{Appends}
use Rattle.sat_base.specs.device.Device.{Reader, Writer, CouldStillGive, GavePrefix}
use Rattle.sat_base.specs.script.ScriptState.{ScriptState, accepted_commands, after_script, initial_state}
use Rattle.sat_base.specs.script.Language.{Reading, reading}
use Rattle.sat_base.specs.values.Literals.{var_limit}
use Rattle.sat_base.specs.steps.Steps.{Step}
use Rattle.sat_checker.specs.Accepts.{AcceptsAll}
use Rattle.sat_checker.specs.matching.Expected.{Outcome}
use Rattle.sat_solver.specs.declared.proof.hash_bits.Counting.{Counting}
use Rattle.sat_solver.specs.declared.proof.format.ProofFormat.TheVariants.{Varisat}
use Rattle.sat_solver.specs.proof.Counting.{nothing_counted as uncounted, TruncatesHashes}
use Rattle.sat_solver.specs.proof.OutputView.{text_in}
use Rattle.certify.specs.answers.Answers.{answers_from}
use Rattle.certify.specs.answers.RightAnswers.{OutcomesAreRight}
use Rattle.certify.specs.declared.summary.AskReport.{AskReport}
use Rattle.certify.specs.run.FinishedRun.{RoundsAreBounded, SpendsWithinBudget, answer_kind, identities_given, rounds_of_asks}
use Rattle.certify.specs.run.LackingVariables.{SomeCommandLacks}
use Rattle.certify.specs.run.Learning.{EachAskLearns}
use Rattle.certify.specs.run.Stretches.{ServesFirst}

-- `ReceivedBytes old new bytes` holds if the writer received exactly these bytes between `old` and `new`, whether or
-- not a call then failed.
pub record ReceivedBytes (old new : Writer) (bytes : List ℕ) : Type 0 where
  pub taken : new.taken ≡ old.taken ++ bytes
  pub known_bytes : Appends old.contents new.contents bytes

-- `AreWithinBudgetSoFar budget before given reports` holds if `reports`, those of the first asks, satisfy
-- `SpendsWithinBudget` and `RoundsAreBounded`. `given` has the number of variables at each ask, `before` the rounds of
-- earlier asks; there may be fewer reports than asks.
abbrev pub AreWithinBudgetSoFar : (budget before : ℕ) → (given : List ℕ) → List AskReport → Type 0
AreWithinBudgetSoFar budget before given [] = Unit {0}
AreWithinBudgetSoFar budget before [] (report ∷ reports) = ⊥
AreWithinBudgetSoFar budget before (n ∷ ns) (report ∷ reports) =
    SpendsWithinBudget budget before report × RoundsAreBounded n budget before report × AreWithinBudgetSoFar budget (before + report.steps) ns reports

-- `AreAnswersPrefix budget before number j script bytes` holds if correct answers to `script`, from command `number`
-- on, begin with the bytes, which have the outcomes of its first asks. Some reports have their kinds, and rounds within
-- bounds after `before` earlier ones; that a run made them is not part of this. `j` is the state before the script.
pub record AreAnswersPrefix (budget before number : ℕ) (j : ScriptState) (script : Reading) (bytes : List ℕ) : Type 0 where
  pub answered : List Outcome
  pub later : List Outcome  -- possible outcomes of the other asks
  pub right : OutcomesAreRight j (accepted_commands j script.0) (answered ++ later)
  -- whatever the outcomes of the other asks are
  pub begins : (others : List Outcome) → length others ≡ length later
      → (following : List ℕ) × (answers_from number j script.0 script.1 (answered ++ others) ≡ bytes ++ following)
  pub reports : List AskReport
  pub kinds : map (λ r. r.answer) reports ≡ map answer_kind answered
  pub spent : AreWithinBudgetSoFar budget before (identities_given j (accepted_commands j script.0)) reports

-- `ReceivedAnswersPrefix budget before number j script old new` holds if, between `old` and `new`, the writer received
-- a prefix of correct answers to the script (`AreAnswersPrefix`), and nothing else.
pub record ReceivedAnswersPrefix (budget before number : ℕ) (j : ScriptState) (script : Reading) (old new : Writer) : Type 0 where
  pub bytes : List ℕ
  pub took : ReceivedBytes old new bytes
  pub front : AreAnswersPrefix budget before number j script bytes

-- `GavePrefixOf old new P` holds if `P` holds of the bytes that the reader gave between `old` and `new`, followed by
-- any bytes that it could still give.
pub record GavePrefixOf (old new : Reader) (P : List ℕ → Type 0) : Type 0 where
  pub text : List ℕ
  pub front : GavePrefix old new text
  pub holds : (rest : List ℕ) → CouldStillGive old new rest → P (text ++ rest)

-- `StepsPrefix old new` holds if the writer received a prefix of the text of some steps, and nothing else. A checker
-- accepts each of them after the earlier ones. They are what is written for steps that were made, with widths for their
-- hashes.
pub record StepsPrefix (old new : Writer) : Type 0 where
  pub made : List Step
  pub steps : List Step
  pub counting : Counting
  pub cuts : TruncatesHashes uncounted made steps counting
  pub accepted : AcceptsAll steps
  pub bytes : List ℕ
  pub following : List ℕ
  pub whole : text_in Varisat steps ≡ bytes ++ following
  pub took : ReceivedBytes old new bytes

-- `ReceivedStepsPrefix certificate` holds if, between its two states, the certificate's writer received a prefix of the
-- text of some accepted steps, and nothing else (`StepsPrefix`).
abbrev pub ReceivedStepsPrefix : Writer × Writer → Type 0
ReceivedStepsPrefix certificate = ∥ StepsPrefix certificate.0 certificate.1 ∥₁

-- `ShowsAnswered script old new outcomes reports` holds if the writer received a prefix of the text of steps that begin
-- with those that the solver makes for the script's first commands, whose asks had these outcomes, in the rounds of
-- these reports. The empowering clauses derived in each of these asks fit both (`EachAskLearns`).
pub record ShowsAnswered (script : Reading) (old new : Writer) (outcomes : List Outcome) (reports : List AskReport) : Type 0 where
  pub front : StepsPrefix old new
  pub follows : ServesFirst initial_state script.0 [] front.made outcomes (rounds_of_asks reports)
  pub learns : EachAskLearns front.steps 0 outcomes (rounds_of_asks reports)

-- `StoppedRun budget text answers certificate` holds if the two writers received a prefix of correct answers to the
-- script `text`, and a prefix of the text of accepted steps that show how the asks answered in that prefix were
-- answered.
pub record StoppedRun (budget : ℕ) (text : List ℕ) (answers certificate : Writer × Writer) : Type 0 where
  pub answered : ReceivedAnswersPrefix budget 0 1 initial_state (reading text) answers.0 answers.1
  pub certified : ∥ ShowsAnswered (reading text) certificate.0 certificate.1 answered.front.answered answered.front.reports ∥₁

-- `Stopped budget script answers certificate` holds if `StoppedRun` holds for the text that the script's reader gave,
-- whatever bytes could follow.
abbrev pub Stopped : ℕ → Reader × Reader → Writer × Writer → Writer × Writer → Type 0
Stopped budget script answers certificate = GavePrefixOf script.0 script.1 (λ text. StoppedRun budget text answers certificate)

-- `ExceedsLimit count j script steps` holds if the `count` earlier commands and those of the script are at least 2^64-1
-- in total; or if, from state `j` on, one of the script's commands lacks variables for its names after `steps`, and the
-- script has more identities than `var_limit`.
abbrev pub ExceedsLimit : (count : ℕ) → ScriptState → Reading → List Step → Type 0
ExceedsLimit count j script steps =
    (2 ^ 64 - 1 ≤ count + length script.0) ⊎ ((var_limit < (after_script script.0 j).identity_count) × SomeCommandLacks j script.0 steps)

-- `ExceedsLimitInPrefix script certificate` holds if `ExceedsLimit` holds for the script from its start, after some
-- steps of whose text the certificate's writer received a prefix.
abbrev pub ExceedsLimitInPrefix : Reading → Writer × Writer → Type 0
ExceedsLimitInPrefix script certificate = (2 ^ 64 - 1 ≤ length script.0)
    ⊎ ∥ ((k : StepsPrefix certificate.0 certificate.1) × (var_limit < (after_script script.0 initial_state).identity_count) × SomeCommandLacks initial_state script.0 k.made) ∥₁

-- `CounterEnds script certificate` holds if `ExceedsLimitInPrefix` holds for the text that the script's reader gave,
-- whatever bytes could follow.
abbrev pub CounterEnds : Reader × Reader → Writer × Writer → Type 0
CounterEnds script certificate = GavePrefixOf script.0 script.1 (λ text. ExceedsLimitInPrefix (reading text) certificate)
