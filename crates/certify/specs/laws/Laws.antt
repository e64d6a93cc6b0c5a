-- Laws about the definitions.
use Rattle.std.specs.Prelude.{ℕ, ◌≤◌, ◌≡◌, ◌↔◌, true, false, List}
use Rattle.std.specs.List.{AllByRecursion}
use Rattle.sat_base.specs.values.Literals.{var_limit}
use Rattle.sat_base.specs.values.Clauses.{Valuation, AllClausesTrue}
use Rattle.sat_base.specs.script.Script.{Literal, Command, Ask, ScriptEnding, Among, names_of}
use Rattle.sat_base.specs.script.ScriptState.{ScriptState, IsRightModel, IsRightCore, with_clause, state_after_accepted, accepted_commands, initial_state}
use Rattle.sat_base.specs.steps.Steps.{Step}
use Rattle.certify.specs.answers.Answers.{answers_text}
use Rattle.sat_checker.specs.matching.Expected.{Outcome, Sat, Unsat, Unknown}
use Rattle.certify.specs.answers.RightAnswers.{AnswersAreRight}
use Rattle.certify.specs.confirm.Matches.{OneOutcomePerAsk, StepsMatch, Matches}
use Rattle.sat_checker.specs.matching.ProofChecking.{checker_rules}

-- `NoModelAndCore` holds if no ask has both a correct model and a correct core in the same script state.
abbrev pub NoModelAndCore : Type 0
NoModelAndCore = (j : ScriptState) (ask line core : List Literal) → IsRightModel j ask line → IsRightCore j ask core → ⊥

-- `ClausesAreSets` holds if adding either of two clauses with the same set of literals, in any order and with any
-- repeats, has the same effect on which valuations satisfy the clauses of a script.
abbrev pub ClausesAreSets : Type 0
ClausesAreSets =
    (j : ScriptState) (ls ks : List Literal) (a : Valuation)
    → AllByRecursion (λ l. Among l ks) ls → AllByRecursion (λ l. Among l ls) ks
    → AllClausesTrue a (with_clause ls j).clauses ↔ AllClausesTrue a (with_clause ks j).clauses

-- `TautologyChangesNothing` holds if adding a clause that contains both literals of a name does not change which
-- valuations satisfy the clauses of a script.
abbrev pub TautologyChangesNothing : Type 0
TautologyChangesNothing =
    (j : ScriptState) (name : ℕ) (ls : List Literal) (a : Valuation)
    → Among (record { name = name; positive = true }) ls → Among (record { name = name; positive = false }) ls
    → AllClausesTrue a (with_clause ls j).clauses ↔ AllClausesTrue a j.clauses

-- `AskKeepsClauses` holds if the state after an accepted ask has the same clauses as the state before it.
abbrev pub AskKeepsClauses : Type 0
AskKeepsClauses = (j : ScriptState) (ls : List Literal) → (state_after_accepted (Ask ls) j).clauses ≡ j.clauses

-- `AskDependsOnNames` holds if the state after an ask depends only on the names in the ask, not on their signs.
abbrev pub AskDependsOnNames : Type 0
AskDependsOnNames = (j : ScriptState) (ls ks : List Literal) → names_of ls ≡ names_of ks → state_after_accepted (Ask ls) j ≡ state_after_accepted (Ask ks) j

-- `HasPrintableNames o` holds if no name of the outcome is past the limit (2^28).
abbrev pub HasPrintableNames : Outcome → Type 0
HasPrintableNames (Sat line) = AllByRecursion (λ l. l.name ≤ var_limit) line
HasPrintableNames (Unsat core) = AllByRecursion (λ l. l.name ≤ var_limit) core
HasPrintableNames Unknown = Unit {0}

-- `TextsDetermineOutcomes` holds if different lists of outcomes give different answers to the same script, provided
-- that each has one outcome for every accepted ask and no name past the limit.
abbrev pub TextsDetermineOutcomes : Type 0
TextsDetermineOutcomes =
    (commands : List Command) (ending : ScriptEnding) (vs ws : List Outcome)
    → OneOutcomePerAsk (accepted_commands initial_state commands) vs → OneOutcomePerAsk (accepted_commands initial_state commands) ws
    → AllByRecursion HasPrintableNames vs → AllByRecursion HasPrintableNames ws
    → answers_text commands ending vs ≡ answers_text commands ending ws
    → vs ≡ ws

-- `MatchingIsRight` holds if outcomes are correct for the commands of a script whenever some steps that a checker
-- accepts match both (`StepsMatch`).
abbrev pub MatchingIsRight : Type 0
MatchingIsRight = (commands : List Command) (outcomes : List Outcome) (steps : List Step)
    → StepsMatch checker_rules commands outcomes steps → AnswersAreRight commands outcomes

-- `TextsThatMatchAreRight` holds if in any three matching texts (`Matches`), the answers are the text of correct
-- outcomes, however a script is read.
abbrev pub TextsThatMatchAreRight : Type 0
TextsThatMatchAreRight =
    (reading : List ℕ → List Command × ScriptEnding) (script answers certificate : List ℕ)
    → Matches checker_rules reading script answers certificate
    → (outcomes : List Outcome) × (answers ≡ answers_text (reading script).0 (reading script).1 outcomes)
    × AnswersAreRight (reading script).0 outcomes
