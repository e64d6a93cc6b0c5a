-- The guarantees of a finished run, and failed calls of a writer.
use Rattle.std.specs.Prelude.{ℕ, ◌+◌, ◌*◌, ◌^◌, ◌<◌, ◌≡◌, ◌≤◌, true, false, Option, Some, None, is_some, List, [], ◌∷◌, map, length, reverse, Result, IfOk, if◌then◌else◌}
use Rattle.std.specs.List.{AllByRecursion}
use Rattle.sat_base.specs.device.Device.{Reader, Writer, GaveEnough, WriterAccepts}
use Rattle.sat_base.specs.script.Script.{Command, Clause, Ask, Hide, Witness, Sample, ScriptEnding, Clean, Malformed}
use Rattle.sat_base.specs.script.ScriptState.{ScriptState, refusal_of, after_command, state_after_accepted, accepted_commands, initial_state}
use Rattle.sat_base.specs.steps.Steps.{Step, End}
use Rattle.sat_base.specs.steps.StepText.{SpellsSteps}
use Rattle.certify.specs.Devices.{reader_before_after, writer_before_after}
use Rattle.certify.specs.answers.Answers.{answers_text}
use Rattle.certify.specs.answers.AnswersText.{event_lines}
use Rattle.certify.specs.answers.Events.{EachIsRight, events_in, refusals_among, variables_at}
use Rattle.certify.specs.answers.ScriptText.{parse_script, parse_written}
use Rattle.sat_checker.specs.Accepts.{AcceptsAll}
use Rattle.sat_checker.specs.Laws.{has_delete_var}
use Rattle.sat_checker.specs.matching.Expected.{Outcome, Sat, Unsat, Unknown, expected_steps}
use Rattle.certify.specs.answers.RightAnswers.{AnswersAreRight}
use Rattle.sat_checker.specs.matching.ProofChecking.{checker_rules}
use Rattle.sat_solver.specs.declared.proof.hash_bits.Counting.{Counting}
use Rattle.sat_solver.specs.proof.Counting.{nothing_counted as uncounted, TruncatesHashes}
use Rattle.sat_base.specs.script.Language.{reading, plain_reading}
use Rattle.certify.specs.run.Hiding.{HidesNothing}
use Rattle.certify.specs.run.RoundsLeft.{rounds_allowed}
use Rattle.certify.specs.run.Learning.{EachAskLearns}
use Rattle.certify.specs.run.Certifies.{Certifies}
use Rattle.certify.specs.run.Stretches.{ServesCommands}
use Rattle.certify.specs.declared.fault.RunFault.{RunFault}
use Rattle.certify.specs.declared.summary.Answer.{Answer}
use Rattle.certify.specs.declared.summary.Answer.TheVariants as kind
use Rattle.certify.specs.declared.summary.AskReport.{AskReport}
use Rattle.certify.specs.declared.summary.Summary.{Summary}

-- the number of commands that are refused if the commands are processed in order, starting in state `j`
abbrev pub refused_count : ScriptState → List Command → ℕ
refused_count j [] = 0
refused_count j (command ∷ commands) =
    (if is_some (refusal_of j command) then 1 else 0) + refused_count (after_command command j) commands

-- `number`, that of the command at which the text is malformed, or `None` if the text ended cleanly
abbrev pub malformed_at : ℕ → ScriptEnding → Option ℕ
malformed_at number Clean = None
malformed_at number Malformed = Some number

-- the kind of an outcome, without its literals
abbrev pub answer_kind : Outcome → Answer
answer_kind (Sat line) = kind.Sat
answer_kind (Unsat core) = kind.Unsat
answer_kind Unknown = kind.Unknown

-- `SpendsWithinBudget budget before report` holds if the ask took at most the rounds that it was allowed after earlier
-- asks took `before` rounds (`rounds_allowed`), and its answer is unknown only if it took all of them.
pub record SpendsWithinBudget (budget before : ℕ) (report : AskReport) : Type 0 where
  pub within : report.steps ≤ rounds_allowed budget before
  pub unknown : report.answer ≡ kind.Unknown → report.steps ≡ rounds_allowed budget before

-- `RoundsAreBounded n budget before report` holds if the ask took fewer than 2^(2n+3) rounds, and its answer is not
-- unknown if that many were allowed (`rounds_allowed budget before`). `n` is the number of variables, including hidden
-- ones, once its names were introduced.
pub record RoundsAreBounded (n budget before : ℕ) (report : AskReport) : Type 0 where
  pub few : report.steps < 2 ^ (2 * n + 3)
  pub answered : 2 ^ (2 * n + 3) ≤ rounds_allowed budget before → report.answer ≡ kind.Unknown → ⊥

-- for each ask among these commands, the number of identities given so far, once the names of the ask were introduced;
-- no command is taken as refused, and `j` is the state before the first
abbrev pub identities_given : ScriptState → List Command → List ℕ
identities_given j [] = []
identities_given j (Ask ls ∷ commands) = (state_after_accepted (Ask ls) j).identity_count ∷ identities_given (state_after_accepted (Ask ls) j) commands
identities_given j (Clause ls ∷ commands) = identities_given (state_after_accepted (Clause ls) j) commands
identities_given j (Hide names ∷ commands) = identities_given (state_after_accepted (Hide names) j) commands
identities_given j (Witness names ∷ commands) = identities_given (state_after_accepted (Witness names) j) commands
identities_given j (Sample names ∷ commands) = identities_given (state_after_accepted (Sample names) j) commands

-- the numbers of rounds in these reports, in order
abbrev pub rounds_of_asks : List AskReport → List ℕ
rounds_of_asks reports = map (λ r. r.steps) reports

-- `AreWithinBudget budget before given reports` holds if there is one report for each ask, and it satisfies
-- `SpendsWithinBudget` and `RoundsAreBounded`. `given` has the number of variables at each ask, and `before` is the
-- number of rounds of earlier asks.
abbrev pub AreWithinBudget : (budget before : ℕ) → (given : List ℕ) → List AskReport → Type 0
AreWithinBudget budget before [] [] = Unit {0}
AreWithinBudget budget before [] (report ∷ reports) = ⊥
AreWithinBudget budget before (n ∷ ns) [] = ⊥
AreWithinBudget budget before (n ∷ ns) (report ∷ reports) =
    SpendsWithinBudget budget before report × RoundsAreBounded n budget before report × AreWithinBudget budget (before + report.steps) ns reports

-- `AnswersRightly text budget summary answered` holds if the summary and the answers of a finished run are correct for
-- the text: there is one correct outcome for each accepted ask, and the answers are the text of these outcomes.
pub record AnswersRightly (text : List ℕ) (budget : ℕ) (summary : Summary) (answered : List ℕ) : Type 0 where
  pub outcomes : List Outcome
  pub right : AnswersAreRight (reading text).0 outcomes
  pub answers : answered ≡ answers_text (reading text).0 (reading text).1 outcomes
  pub commands : summary.commands ≡ length (plain_reading text).0
  pub refused : summary.refused ≡ refused_count initial_state (reading text).0
  pub malformed : summary.malformed ≡ malformed_at (length (reading text).0 + 1) (reading text).1
  -- one report for each outcome, of its kind
  pub kinds : map (λ r. r.answer) summary.asks.items ≡ map answer_kind outcomes
  pub spent : AreWithinBudget budget 0 (identities_given initial_state (accepted_commands initial_state (reading text).0)) summary.asks.items

-- `ReportsRightly text budget summary answered` holds if `answered` are the lines of the text's events for some
-- outcomes, a correct one for each accepted ask, and the summary fits: it has the numbers of written and of refused
-- commands, that of a malformed one, and for each ask the kind of its outcome and rounds within its bounds.
pub record ReportsRightly (text : List ℕ) (budget : ℕ) (summary : Summary) (answered : List ℕ) : Type 0 where
  pub outcomes : List Outcome
  pub right : EachIsRight (events_in text) outcomes
  pub answers : answered ≡ event_lines (events_in text) outcomes
  pub commands : summary.commands ≡ length (parse_written text).0
  pub refused : summary.refused ≡ refusals_among (events_in text)
  pub malformed : summary.malformed ≡ malformed_at (length (parse_script text).0 + 1) (parse_script text).1
  -- one report for each outcome, of its kind
  pub kinds : map (λ r. r.answer) summary.asks.items ≡ map answer_kind outcomes
  pub spent : AreWithinBudget budget 0 (variables_at (events_in text)) summary.asks.items

-- `CertificateGuarantee text budget summary answered certified` holds if `AnswersRightly` does, and `certified` spells
-- steps that a checker accepts (`steps`, newest first): the ordered steps of the accepted commands and of the answers'
-- outcomes, with the summary's rounds, and between them only those that the solver makes there, and widths.
pub record CertificateGuarantee (text : List ℕ) (budget : ℕ) (summary : Summary) (answered certified : List ℕ) : Type 0 where
  pub is_answered : AnswersRightly text budget summary answered
  pub steps : List Step
  pub certificate : SpellsSteps (reverse steps) certified
  pub accepted : AcceptsAll steps
  pub certifies : Certifies checker_rules steps None []
      (expected_steps initial_state (accepted_commands initial_state (reading text).0) is_answered.outcomes) (rounds_of_asks summary.asks.items)
  -- the steps that the solver made, up to the end, and how they were written
  pub made : List Step
  pub follows : ServesCommands initial_state [] made (accepted_commands initial_state (reading text).0) is_answered.outcomes (rounds_of_asks summary.asks.items)
  pub counting : Counting
  pub cuts : TruncatesHashes uncounted (End ∷ made) steps counting
  -- every ask derived as many empowering clauses as it took rounds, or one fewer if it has a model or a core
  pub learns : EachAskLearns steps 0 is_answered.outcomes (rounds_of_asks summary.asks.items)
  -- if no accepted command hides a name, no variable is deleted
  pub keeps : AllByRecursion HidesNothing (accepted_commands initial_state (reading text).0) → has_delete_var steps ≡ false

-- FOR THREE DEVICES

-- `WritesAnswers budget summary script answers` holds if the answers' writer received answers to the text that the
-- script's reader gave, whatever bytes could follow, and `ReportsRightly` holds of this text, the summary and these
-- answers.
abbrev pub WritesAnswers : ℕ → Summary → Reader × Reader → Writer × Writer → Type 0
WritesAnswers budget summary script answers =
    GaveEnough script.0 script.1 (λ text. (answered : List ℕ)
    × WriterAccepts answers.0 answers.1 answered × ReportsRightly text budget summary answered)

-- `ReceivedCertificate budget summary script answers certificate` holds if the writers received answers and a
-- certificate for which `CertificateGuarantee` holds, together with the budget, the summary and the text that the
-- script's reader gave, whatever bytes could follow.
abbrev pub ReceivedCertificate : ℕ → Summary → Reader × Reader → Writer × Writer → Writer × Writer → Type 0
ReceivedCertificate budget summary script answers certificate = GaveEnough script.0 script.1 (λ text. (answered : List ℕ) × (certified : List ℕ)
    × WriterAccepts answers.0 answers.1 answered × WriterAccepts certificate.0 certificate.1 certified × CertificateGuarantee text budget summary answered certified)

-- `CertificateIsGuaranteed r budget script answers certificate old new` holds if `r` is an `Err`, or
-- `ReceivedCertificate` holds for the three devices before and after the call.
abbrev pub CertificateIsGuaranteed : {S A C : Type 0} → Result Summary RunFault → ℕ → (S → Reader) → (A → Writer) → (C → Writer)
    → S × A × C → S × A × C → Type 0
CertificateIsGuaranteed r budget script answers certificate old new =
    IfOk r (λ s. ReceivedCertificate budget s (reader_before_after script old.0 new.0) (writer_before_after answers old.1 new.1) (writer_before_after certificate old.2 new.2))

-- `KeepsWriteFailures seen old new` holds if no call of a writer failed between its states `old` and `new`. `seen`
-- gives the record in which failed calls are counted.
abbrev pub KeepsWriteFailures : {W : Type 0} → (W → Writer) → W → W → Type 0
KeepsWriteFailures seen old new = (seen new).failures ≡ (seen old).failures

-- `LastWriterCallFails old new` holds if exactly one call of the writer failed between `old` and `new`, and it was the
-- last call.
abbrev pub LastWriterCallFails : Writer → Writer → Type 0
LastWriterCallFails old new = (new.failures ≡ old.failures + 1) × (new.failed ≡ true)
