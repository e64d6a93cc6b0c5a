-- When answers are correct, in terms of valuations only. No trail, hash or step is mentioned.
use Rattle.std.specs.Prelude.{List, [], ◌∷◌}
use Rattle.sat_base.specs.script.Script.{Literal, Command, Clause, Ask, Hide, Witness, Sample}
use Rattle.sat_base.specs.script.ScriptState.{ScriptState, IsRightModel, IsRightCore, state_after_accepted, initial_state, accepted_commands}
use Rattle.sat_checker.specs.matching.Expected.{Outcome, Sat, Unsat, Unknown}

-- `OutcomeIsRight j ask o` holds if the outcome `o` of `ask` is correct. `j` is the state after the names of `ask` were
-- introduced. `Unknown` is correct for every ask.
abbrev pub OutcomeIsRight : ScriptState → List Literal → Outcome → Type 0
OutcomeIsRight j ask (Sat line) = IsRightModel j ask line
OutcomeIsRight j ask (Unsat core) = IsRightCore j ask core
OutcomeIsRight j ask Unknown = Unit {0}

-- `OutcomesAreRight j commands os` holds if there is one outcome for each ask among the commands, in order, and each is
-- correct (`OutcomeIsRight`). `j` is the state before the commands, none of which is taken as refused.
abbrev pub OutcomesAreRight : ScriptState → List Command → List Outcome → Type 0
OutcomesAreRight j [] [] = Unit {0}
OutcomesAreRight j [] (o ∷ os) = ⊥
OutcomesAreRight j (Ask ls ∷ commands) [] = ⊥
OutcomesAreRight j (Ask ls ∷ commands) (o ∷ os) = OutcomeIsRight (state_after_accepted (Ask ls) j) ls o × OutcomesAreRight (state_after_accepted (Ask ls) j) commands os
OutcomesAreRight j (Clause ls ∷ commands) os = OutcomesAreRight (state_after_accepted (Clause ls) j) commands os
OutcomesAreRight j (Hide names ∷ commands) os = OutcomesAreRight (state_after_accepted (Hide names) j) commands os
OutcomesAreRight j (Witness names ∷ commands) os = OutcomesAreRight (state_after_accepted (Witness names) j) commands os
OutcomesAreRight j (Sample names ∷ commands) os = OutcomesAreRight (state_after_accepted (Sample names) j) commands os

-- `AnswersAreRight commands outcomes` holds if there is one outcome for each accepted ask among the commands of a
-- script, in order, and each outcome is correct: a correct model, a correct core, or unknown.
abbrev pub AnswersAreRight : List Command → List Outcome → Type 0
AnswersAreRight commands outcomes = OutcomesAreRight initial_state (accepted_commands initial_state commands) outcomes
