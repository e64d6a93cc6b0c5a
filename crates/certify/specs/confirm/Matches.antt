-- When a script, answers and a certificate match.
use Rattle.std.specs.Prelude.{◌≡◌, ℕ, true, false, List, [], ◌∷◌, ◌++◌}
use Rattle.std.specs.List.{AllByRecursion}
use Rattle.sat_base.specs.script.Script.{Command, Ask, ScriptEnding, AreSortedLiterals}
use Rattle.sat_base.specs.script.ScriptState.{initial_state, accepted_commands}
use Rattle.sat_base.specs.steps.Steps.{Step}
use Rattle.sat_base.specs.steps.StepText.{SpellsSteps}
use Rattle.sat_checker.specs.matching.Checking.{CheckerRules, is_ordered}
use Rattle.sat_checker.specs.matching.Expected.{Outcome, Sat, Unsat, Unknown, Expected, Opens, Shows, Fails, expected_steps, FitsExpected}
use Rattle.sat_checker.specs.matching.ProofChecking.{checker_rules}
use Rattle.certify.specs.answers.Answers.{answers_text}
use Rattle.certify.specs.answers.AnswersText.{event_lines}
use Rattle.certify.specs.answers.Events.{events_in}
use Rattle.certify.specs.answers.ScriptText.{parse_script}

-- `OneOutcomePerAsk commands outcomes` holds if there are as many outcomes as asks among the commands.
abbrev pub OneOutcomePerAsk : List Command → List Outcome → Type 0
OneOutcomePerAsk [] [] = Unit {0}
OneOutcomePerAsk [] (o ∷ os) = ⊥
OneOutcomePerAsk (Ask ls ∷ commands) [] = ⊥
OneOutcomePerAsk (Ask ls ∷ commands) (o ∷ os) = OneOutcomePerAsk commands os
OneOutcomePerAsk (command ∷ commands) outcomes = OneOutcomePerAsk commands outcomes

-- `CoreIsInOrder o` holds if a core is sorted as in `AreSortedLiterals`, without repeats; a model need not be sorted.
abbrev pub CoreIsInOrder : Outcome → Type 0
CoreIsInOrder (Sat line) = Unit {0}
CoreIsInOrder (Unsat core) = AreSortedLiterals core
CoreIsInOrder Unknown = Unit {0}

-- `IsOptionalOnceUnsat e` holds if the expected step may be unmet once unsat is recorded: it is not a model, nor a core
-- that is not empty, nor an ask whose outcome is not the empty core.
abbrev pub IsOptionalOnceUnsat : Expected → Type 0
IsOptionalOnceUnsat (Opens ls o) = o ≡ Unsat []
IsOptionalOnceUnsat (Shows names ask line) = ⊥
IsOptionalOnceUnsat (Fails ask core) = core ≡ []
IsOptionalOnceUnsat e = Unit {0}

-- `Meets k earlier steps es` holds if the steps are accepted one by one after the earlier steps, and the ordered steps
-- among them are the expected steps. Once unsat is recorded, the steps end, and all expected steps that are left
-- satisfy `IsOptionalOnceUnsat`.
pub data Meets (k : CheckerRules) : List Step → List Step → List Expected → Type 0 where
  met : {earlier : List Step} → k.unsat earlier ≡ false → Meets k earlier [] []
  cut : {earlier : List Step} {es : List Expected} → k.unsat earlier ≡ true → AllByRecursion IsOptionalOnceUnsat es → Meets k earlier [] es
  other : {earlier steps : List Step} {step : Step} {e : Expected} {es : List Expected}
      → k.unsat earlier ≡ false → is_ordered step ≡ false → k.Accepts earlier step → Meets k (step ∷ earlier) steps (e ∷ es)
      → Meets k earlier (step ∷ steps) (e ∷ es)
  ordered : {earlier steps : List Step} {step : Step} {e : Expected} {es : List Expected}
      → k.unsat earlier ≡ false → FitsExpected (k.knows earlier) earlier e step → k.Accepts earlier step → Meets k (step ∷ earlier) steps es
      → Meets k earlier (step ∷ steps) (e ∷ es)

-- `StepsMatch k commands outcomes steps` holds if there is one outcome for each accepted ask, every core is in order,
-- and the steps are those of the accepted commands with these outcomes, as in `Meets`.
pub record StepsMatch (k : CheckerRules) (commands : List Command) (outcomes : List Outcome) (steps : List Step) : Type 0 where
  pub one_each : OneOutcomePerAsk (accepted_commands initial_state commands) outcomes
  pub in_form : AllByRecursion CoreIsInOrder outcomes
  pub meets : Meets k [] steps (expected_steps initial_state (accepted_commands initial_state commands) outcomes)

-- `MatchesCommands k commands ending answers certificate` holds if the answers and the certificate match these commands
-- and this ending of a script. The certificate may continue with any bytes after the steps.
pub record MatchesCommands (k : CheckerRules) (commands : List Command) (ending : ScriptEnding) (answers certificate : List ℕ) : Type 0 where
  pub outcomes : List Outcome
  pub steps : List Step
  pub text : List ℕ
  pub rest : List ℕ
  pub answered : answers ≡ answers_text commands ending outcomes
  pub begins : certificate ≡ text ++ rest
  pub spelt : SpellsSteps steps text
  pub match : StepsMatch k commands outcomes steps

-- `Matches k reading script answers certificate` holds if the three texts match (`MatchesCommands`), where `reading`
-- defines which commands and which ending a script has, and `k` which steps a checker accepts.
abbrev pub Matches : CheckerRules → (List ℕ → List Command × ScriptEnding) → List ℕ → List ℕ → List ℕ → Type 0
Matches k reading script answers certificate = MatchesCommands k (reading script).0 (reading script).1 answers certificate

-- `TextsMatch script answers certificate` holds if the three texts match. The answers are the lines of some outcomes.
-- The certificate begins with the text of some steps, and the checker accepts each of them after the earlier ones. The
-- ordered steps are those of the script's commands and these outcomes. Once unsat is recorded, the steps end, and
-- `IsOptionalOnceUnsat` says which expected steps may be missing. Any bytes may follow the steps.
pub record TextsMatch (script answers certificate : List ℕ) : Type 0 where
  pub outcomes : List Outcome
  pub steps : List Step
  pub text : List ℕ
  pub rest : List ℕ
  pub answered : answers ≡ event_lines (events_in script) outcomes
  pub begins : certificate ≡ text ++ rest
  pub spelt : SpellsSteps steps text
  pub match : StepsMatch checker_rules (parse_script script).0 outcomes steps
