-- Why the headline holds: the short definitions agree with those that code is proved against, and the guarantee of
-- `certify_over` implies the headline.
use Rattle.std.specs.Prelude.{ℕ, ◌≡◌, ◌↔◌, List}
use Rattle.sat_base.specs.script.Script.{Command, ScriptEnding}
use Rattle.sat_base.specs.script.Language.{reading}
use Rattle.sat_checker.specs.matching.Expected.{Outcome}
use Rattle.certify.specs.answers.Answers.{answers_text}
use Rattle.certify.specs.answers.RightAnswers.{AnswersAreRight}
use Rattle.certify.specs.answers.ScriptText.{parse_script}
use Rattle.certify.specs.answers.AnswersText.{event_lines}
use Rattle.certify.specs.answers.Events.{events, EachIsRight}
use Rattle.certify.specs.answers.ScriptNames.{initial_state}
use Rattle.certify.specs.confirm.Matches.{Matches, TextsMatch}
use Rattle.certify.specs.confirm.VerdictPromises.{AreRightAnswers}
use Rattle.sat_checker.specs.matching.ProofChecking.{checker_rules}
use Rattle.certify.specs.run.FinishedRun.{AnswersRightly, ReportsRightly, rounds_of_asks}
use Rattle.certify.specs.laws.EndToEnd.{CertifyGuarantee}
use Rattle.certify.specs.laws.Headline.{Headline}
use Rattle.certify.specs.declared.summary.Summary.{Summary}
use Rattle.certify.specs.declared.verdict.Verdict.{Verdict}

-- `ReadingsAgree` holds if every text has the same commands and ending by the short definition, `parse_script`, as by
-- the one that code is proved against, `reading`.
abbrev pub ReadingsAgree : Type 0
ReadingsAgree = (text : List ℕ) → parse_script text ≡ reading text

-- `SameAnswers` holds if the answers to any script and outcomes have the same text by the short definition,
-- `event_lines`, as by the one that code is proved against, `answers_text`.
abbrev pub SameAnswers : Type 0
SameAnswers = (commands : List Command) (ending : ScriptEnding) (outcomes : List Outcome)
    → event_lines (events 1 initial_state commands ending) outcomes ≡ answers_text commands ending outcomes

-- `RightByEvents` holds if outcomes are correct by the short definition, which uses the events of commands
-- (`EachIsRight`), exactly when they are by the one that code is proved against (`AnswersAreRight`).
abbrev pub RightByEvents : Type 0
RightByEvents = (commands : List Command) (ending : ScriptEnding) (outcomes : List Outcome)
    → AnswersAreRight commands outcomes ↔ EachIsRight (events 1 initial_state commands ending) outcomes

-- `RightByOutcomes` holds if answers to a script are correct (`AreRightAnswers`) exactly when they are the text of
-- correct outcomes by the definitions that code is proved against (`answers_text`, `AnswersAreRight`).
abbrev pub RightByOutcomes : Type 0
RightByOutcomes = (script answers : List ℕ)
    → AreRightAnswers script answers
    ↔ ((outcomes : List Outcome) × (answers ≡ answers_text (reading script).0 (reading script).1 outcomes) × AnswersAreRight (reading script).0 outcomes)

-- `SameMatches` holds if three texts match by the short definition, `TextsMatch`, exactly when they match by the one
-- that code is proved against, `Matches`.
abbrev pub SameMatches : Type 0
SameMatches = (script answers certificate : List ℕ) → TextsMatch script answers certificate ↔ Matches checker_rules reading script answers certificate

-- `MatchingAnswersAreRight` holds if in any three matching texts (`TextsMatch`), the answers are correct for the script
-- (`AreRightAnswers`).
abbrev pub MatchingAnswersAreRight : Type 0
MatchingAnswersAreRight = (script answers certificate : List ℕ) → TextsMatch script answers certificate → AreRightAnswers script answers

-- `SameReports` holds if the answers and the summary of a run are correct by the short definition, `ReportsRightly`,
-- exactly when they are by the one that code is proved against, `AnswersRightly`.
abbrev pub SameReports : Type 0
SameReports = (text : List ℕ) (budget : ℕ) (summary : Summary) (answered : List ℕ)
    → ReportsRightly text budget summary answered ↔ AnswersRightly text budget summary answered

-- `CertifyImpliesHeadline` holds if the guarantee of `certify_over` (`CertifyGuarantee`) implies the headline
-- (`Headline`).
abbrev pub CertifyImpliesHeadline : Type 0
CertifyImpliesHeadline =
    (script : List ℕ) (budget : ℕ) (claimed shown : List ℕ) (summary : Summary) (answers certificate : List ℕ)
    (own other : Verdict) (before after : ℕ)
    → CertifyGuarantee script budget claimed shown summary answers certificate own other before after
    → Headline script budget (rounds_of_asks summary.asks.items) answers certificate own claimed shown other before after
