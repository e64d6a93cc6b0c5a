-- Laws about commands that are served.
use Rattle.std.specs.Prelude.{ℕ, ◌+◌, ◌≡◌, Some, None, List, [], ◌∷◌, ◌++◌, map}
use Rattle.std.specs.List.{AllByRecursion}
use Rattle.sat_base.specs.values.Clauses.{Valuation, AllLitsTrue, AllClausesTrue}
use Rattle.sat_base.specs.script.Script.{Literal, Command, Ask, Among}
use Rattle.sat_base.specs.script.ScriptState.{ScriptState, Refusal, IsRightCore, state_after_accepted, identity_lit, refusal_of}
use Rattle.sat_base.specs.steps.Steps.{Step}
use Rattle.sat_checker.specs.LiteralSets.{canonical}
use Rattle.sat_checker.specs.matching.Expected.{Outcome}
use Rattle.sat_checker.specs.matching.ProofChecking.{checker_rules}
use Rattle.certify.specs.answers.AnswerForms.{named_literals}
use Rattle.certify.specs.answers.Answers.{refused_line, outcome_text}
use Rattle.certify.specs.answers.RightAnswers.{OutcomeIsRight}
use Rattle.certify.specs.run.FinishedRun.{RoundsAreBounded, SpendsWithinBudget, answer_kind}
use Rattle.certify.specs.run.Serving.{RunPlace, Serves, place_after}
use Rattle.certify.specs.run.Stretches.{MakesAskSteps, IsNoAsk, IsCommandStep, MakesExpectedSteps, due_for_command}
use Rattle.certify.specs.declared.summary.AskReport.{AskReport}

-- `ServingComposes` holds if serving commands from place `a` to `b`, and then others from `b` to `c`, serves all of
-- them from `a` to `c`: answers and reports are appended, and the counts of refused commands added.
abbrev pub ServingComposes : Type 0
ServingComposes = (budget : ℕ) (a b c : RunPlace) (xs ys : List Command) (s t : List ℕ) (rs qs : List AskReport) (k l : ℕ)
    → Serves budget a b xs s rs k → Serves budget b c ys t qs l → Serves budget a c (xs ++ ys) (s ++ t) (rs ++ qs) (k + l)

-- `RefusalServes` holds if a refused command is served by its `c refused` line alone: the place has the next command
-- number, and the same state, steps and rounds.
abbrev pub RefusalServes : Type 0
RefusalServes = (budget : ℕ) (a : RunPlace) (c : Command) (r : Refusal) → refusal_of a.judge c ≡ Some r
    → Serves budget a (record a { number = a.number + 1 }) (c ∷ []) (refused_line a.number r) [] 1

-- `PlainServes` holds if every accepted command that is not an ask is served without an answer and without a round,
-- once the steps expected for it were made.
abbrev pub PlainServes : Type 0
PlainServes = (budget : ℕ) (a : RunPlace) (c : Command) (steps : List Step) → IsNoAsk c → refusal_of a.judge c ≡ None
    → MakesExpectedSteps (IsCommandStep c) a.steps steps (due_for_command (checker_rules.unsat a.steps) c a.judge)
    → Serves budget a (place_after a c steps a.rounds) (c ∷ []) [] [] 0

-- `AskServes` holds if every accepted ask is served by the text of its outcome, once the steps of the ask were made,
-- provided that the outcome is correct and the rounds in its report are within the budget and the bound of
-- `RoundsAreBounded`.
abbrev pub AskServes : Type 0
AskServes = (budget : ℕ) (a : RunPlace) (ls : List Literal) (o : Outcome) (report : AskReport) (steps : List Step) → refusal_of a.judge (Ask ls) ≡ None
    → OutcomeIsRight (state_after_accepted (Ask ls) a.judge) ls o → report.answer ≡ answer_kind o → SpendsWithinBudget budget a.rounds report
    → RoundsAreBounded (state_after_accepted (Ask ls) a.judge).identity_count budget a.rounds report
    → MakesAskSteps a.judge ls o report.steps a.steps steps
    → Serves budget a (place_after a (Ask ls) steps (a.rounds + report.steps)) (Ask ls ∷ []) (outcome_text o) (report ∷ []) 0

-- `CoresAreSorted` holds if a core of an ask, in any order, is a correct core once its literals are sorted.
abbrev pub CoresAreSorted : Type 0
CoresAreSorted = (j : ScriptState) (ask : List Literal) (core : List ℕ) → AllByRecursion (λ l. Among l ask) (named_literals core)
    → ((a : Valuation) → AllLitsTrue a (map (identity_lit j) (named_literals core)) → AllClausesTrue a j.clauses → ⊥)
    → IsRightCore j ask (named_literals (canonical core))
