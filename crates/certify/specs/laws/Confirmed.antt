-- Certified outcomes match their certificate.
use Rattle.std.specs.Prelude.{ℕ, None, List, [], reverse}
use Rattle.sat_base.specs.script.Script.{Command, ScriptEnding}
use Rattle.sat_base.specs.script.ScriptState.{initial_state, accepted_commands}
use Rattle.sat_base.specs.steps.Steps.{Step}
use Rattle.sat_base.specs.steps.StepText.{SpellsSteps}
use Rattle.sat_checker.specs.Accepts.{AcceptsAll}
use Rattle.sat_checker.specs.matching.Expected.{Outcome, expected_steps}
use Rattle.sat_checker.specs.matching.ProofChecking.{checker_rules}
use Rattle.certify.specs.answers.Answers.{answers_text}
use Rattle.certify.specs.answers.RightAnswers.{AnswersAreRight}
use Rattle.certify.specs.confirm.Matches.{Matches}
use Rattle.certify.specs.run.Certifies.{Certifies}

-- `CertifiedMatches` holds if a certificate matches whenever it is the text of accepted steps that certify
-- (`Certifies`) correct outcomes of a script: it matches the script and the text of these outcomes, however a script is
-- read.
abbrev pub CertifiedMatches : Type 0
CertifiedMatches =
    (reading : List ℕ → List Command × ScriptEnding) (script certificate : List ℕ) (outcomes : List Outcome) (steps : List Step) (counts : List ℕ)
    → AnswersAreRight (reading script).0 outcomes
    → AcceptsAll steps
    → Certifies checker_rules steps None [] (expected_steps initial_state (accepted_commands initial_state (reading script).0) outcomes) counts
    → SpellsSteps (reverse steps) certificate
    → Matches checker_rules reading script (answers_text (reading script).0 (reading script).1 outcomes) certificate
