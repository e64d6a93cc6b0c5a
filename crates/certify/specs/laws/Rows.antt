-- Worked examples: scripts of a few commands, and their answers, as ASCII codes.
use Rattle.std.specs.Prelude.{ℕ, ◌≡◌, Bool, true, false, Some, None, List, [], ◌∷◌, ◌++◌}
use Rattle.sat_base.specs.script.Script.{Literal, Command, Clause, Ask, Hide, Witness, Clean, Malformed}
use Rattle.sat_base.specs.script.ScriptState.{Sampled, initial_state, after_script, refusal_of, PastLimit, WitnessName}
use Rattle.sat_base.specs.steps.Steps.{Step, UserVarName, ChangeSamplingMode, AddClause, AtClause, Model, Assumptions, End}
use Rattle.sat_checker.specs.Stored.{is_known}
use Rattle.sat_checker.specs.Accepts.{ready_after}
use Rattle.certify.specs.answers.Answers.{answers_text}
use Rattle.sat_checker.specs.matching.Expected.{Outcome, Sat, Unsat, Unknown, expected_steps, NewName, NoName, Adds, Opens, Shows, Closes, Finish}
use Rattle.certify.specs.answers.RightAnswers.{AnswersAreRight}
use Rattle.certify.specs.confirm.Matches.{StepsMatch, MatchesCommands}
use Rattle.certify.specs.run.Certifies.{Certifies}
use Rattle.sat_checker.specs.matching.ProofChecking.{checker_rules}

-- the positive literal of a name
abbrev pub pos : ℕ → Literal
pos n = record { name = n; positive = true }

-- the negative literal of a name, `-n` in scripts
abbrev pub neg : ℕ → Literal
neg n = record { name = n; positive = false }

-- `AskAloneText` holds if the answers to the script `a 0`, with the empty model as its outcome, are the lines `s
-- SATISFIABLE` and `v 0`.
abbrev pub AskAloneText : Type 0
AskAloneText = answers_text (Ask [] ∷ []) Clean (Sat [] ∷ [])
    ≡ 115 ∷ 32 ∷ 83 ∷ 65 ∷ 84 ∷ 73 ∷ 83 ∷ 70 ∷ 73 ∷ 65 ∷ 66 ∷ 76 ∷ 69 ∷ 10 ∷ 118 ∷ 32 ∷ 48 ∷ 10 ∷ []

-- the commands of the script `1 2 0`, `a 0`
abbrev pub clause_and_ask : List Command
clause_and_ask = Clause (pos 1 ∷ pos 2 ∷ []) ∷ Ask [] ∷ []

-- the answer lines `s SATISFIABLE` and `v -1 2 0`, as bytes
abbrev pub clause_and_ask_text : List ℕ
clause_and_ask_text = 115 ∷ 32 ∷ 83 ∷ 65 ∷ 84 ∷ 73 ∷ 83 ∷ 70 ∷ 73 ∷ 65 ∷ 66 ∷ 76 ∷ 69 ∷ 10 ∷ 118 ∷ 32 ∷ 45 ∷ 49 ∷ 32 ∷ 50 ∷ 32 ∷ 48 ∷ 10 ∷ []

-- `ClauseAndAskText` holds if the answers to the script `1 2 0`, `a 0`, with the model `-1 2` as its outcome, are the
-- lines `s SATISFIABLE` and `v -1 2 0`.
abbrev pub ClauseAndAskText : Type 0
ClauseAndAskText = answers_text clause_and_ask Clean (Sat (neg 1 ∷ pos 2 ∷ []) ∷ []) ≡ clause_and_ask_text

-- `ClauseAndAskExpected` holds if the steps expected for the script `1 2 0`, `a 0` with the model `-1 2` are: new names
-- 1 and 2, the clause `1 2`, the ask opened, its model shown, the ask closed, and the end.
abbrev pub ClauseAndAskExpected : Type 0
ClauseAndAskExpected = expected_steps initial_state clause_and_ask (Sat (neg 1 ∷ pos 2 ∷ []) ∷ [])
    ≡ NewName 1 ∷ NewName 2 ∷ Adds (pos 1 ∷ pos 2 ∷ []) ∷ Opens [] (Sat (neg 1 ∷ pos 2 ∷ []))
    ∷ Shows (1 ∷ 2 ∷ []) [] (neg 1 ∷ pos 2 ∷ []) ∷ Closes ∷ Finish ∷ []

-- `ClauseAndAskRight` holds if the model `-1 2` is a correct outcome of the ask in the script `1 2 0`, `a 0`.
abbrev pub ClauseAndAskRight : Type 0
ClauseAndAskRight = AnswersAreRight clause_and_ask (Sat (neg 1 ∷ pos 2 ∷ []) ∷ [])

-- the commands of the script `1 0`, `-1 0`, `a 0`, whose second clause makes a checker record unsat
abbrev pub two_unit_commands : List Command
two_unit_commands = Clause (pos 1 ∷ []) ∷ Clause (neg 1 ∷ []) ∷ Ask [] ∷ []

-- `TwoUnitsRight` holds if the empty core is a correct outcome of the ask in the script `1 0`, `-1 0`, `a 0`.
abbrev pub TwoUnitsRight : Type 0
TwoUnitsRight = AnswersAreRight two_unit_commands (Unsat [] ∷ [])

-- the commands of the script `1 0`, `h 1 0`, `-1 0`, `a 0`: the third introduces name 1 again, with another identity
abbrev pub hidden_and_back : List Command
hidden_and_back = Clause (pos 1 ∷ []) ∷ Hide (1 ∷ []) ∷ Clause (neg 1 ∷ []) ∷ Ask [] ∷ []

-- `HiddenAndBackState` holds if after the script `1 0`, `h 1 0`, `-1 0`, `a 0`, there are two clauses: `-1` over
-- identity 1, which name 1 now has, and `1` over identity 0, which no name has.
abbrev pub HiddenAndBackState : Type 0
HiddenAndBackState = after_script hidden_and_back initial_state ≡ record {
  first_unused = 2;
  in_use = (record { name = 1; identity = 1 }) ∷ [];
  modes = Sampled ∷ Sampled ∷ [];
  identity_count = 2;
  clauses = (3 ∷ []) ∷ (0 ∷ []) ∷ [];
}

-- `HiddenAndBackExpected` holds if the steps expected for the script `1 0`, `h 1 0`, `-1 0`, `a 0` with the model `-1`
-- introduce name 1 twice, once before each clause, and remove it between the clauses.
abbrev pub HiddenAndBackExpected : Type 0
HiddenAndBackExpected = expected_steps initial_state hidden_and_back (Sat (neg 1 ∷ []) ∷ [])
    ≡ NewName 1 ∷ Adds (pos 1 ∷ []) ∷ NoName 1 ∷ NewName 1 ∷ Adds (neg 1 ∷ []) ∷ Opens [] (Sat (neg 1 ∷ []))
    ∷ Shows (1 ∷ []) [] (neg 1 ∷ []) ∷ Closes ∷ Finish ∷ []

-- `HiddenAtOnceState` holds if after the script `h 2 0`, `a 0`, two identities were given and only name 1 is in use,
-- with identity 0: it was introduced along with name 2, which is hidden.
abbrev pub HiddenAtOnceState : Type 0
HiddenAtOnceState = after_script (Hide (2 ∷ []) ∷ Ask [] ∷ []) initial_state ≡ record {
  first_unused = 3;
  in_use = (record { name = 1; identity = 0 }) ∷ [];
  modes = Sampled ∷ Sampled ∷ [];
  identity_count = 2;
  clauses = [];
}

-- `WitnessRefusedText` holds if the script `w 1 0`, `1 0`, `a 0`, with the model `-1` for its ask, has the answers `c
-- refused 2 witness 1`, `s SATISFIABLE` and `v -1 0`: its clause is refused because the mode of name 1 is witness.
abbrev pub WitnessRefusedText : Type 0
WitnessRefusedText = answers_text (Witness (1 ∷ []) ∷ Clause (pos 1 ∷ []) ∷ Ask [] ∷ []) Clean (Sat (neg 1 ∷ []) ∷ [])
    ≡ 99 ∷ 32 ∷ 114 ∷ 101 ∷ 102 ∷ 117 ∷ 115 ∷ 101 ∷ 100 ∷ 32 ∷ 50 ∷ 32 ∷ 119 ∷ 105 ∷ 116 ∷ 110 ∷ 101 ∷ 115 ∷ 115 ∷ 32 ∷ 49 ∷ 10
    ∷ 115 ∷ 32 ∷ 83 ∷ 65 ∷ 84 ∷ 73 ∷ 83 ∷ 70 ∷ 73 ∷ 65 ∷ 66 ∷ 76 ∷ 69 ∷ 10 ∷ 118 ∷ 32 ∷ 45 ∷ 49 ∷ 32 ∷ 48 ∷ 10 ∷ []

-- `LeftmostRefuses` holds if, after `w 1 0`, the clause `268435457 1 0` is refused because of its first name, 2^28 + 1,
-- which is past the limit, and not because the mode of name 1 is witness.
abbrev pub LeftmostRefuses : Type 0
LeftmostRefuses = refusal_of (after_script (Witness (1 ∷ []) ∷ []) initial_state) (Clause (pos 268435457 ∷ pos 1 ∷ [])) ≡ Some PastLimit

-- `WitnessRefusesAsk` holds if, after `w 1 0`, the ask `a 1 0` is refused because the mode of name 1 is witness.
abbrev pub WitnessRefusesAsk : Type 0
WitnessRefusesAsk = refusal_of (after_script (Witness (1 ∷ []) ∷ []) initial_state) (Ask (pos 1 ∷ [])) ≡ Some (WitnessName 1)

-- `MalformedText` holds if the answer to a text that is malformed at its first command, like `1 2`, is the line `c
-- malformed 1`.
abbrev pub MalformedText : Type 0
MalformedText = answers_text [] Malformed [] ≡ 99 ∷ 32 ∷ 109 ∷ 97 ∷ 108 ∷ 102 ∷ 111 ∷ 114 ∷ 109 ∷ 101 ∷ 100 ∷ 32 ∷ 49 ∷ 10 ∷ []

-- `EmptyText` holds if a text without commands that ends cleanly has no answers, not even an empty line.
abbrev pub EmptyText : Type 0
EmptyText = answers_text [] Clean [] ≡ []

-- `ClauseAndAskSteps` holds if these steps match the script `1 2 0`, `a 0` with the model `-1 2`: proof variables 0 and
-- 1 get the names 1 and 2, the clause is added, the ask is opened, its model shown, the ask closed, and the proof
-- ended.
abbrev pub ClauseAndAskSteps : Type 0
ClauseAndAskSteps = StepsMatch checker_rules clause_and_ask (Sat (neg 1 ∷ pos 2 ∷ []) ∷ [])
    (UserVarName 0 (Some 0) ∷ UserVarName 1 (Some 1) ∷ AddClause (0 ∷ 2 ∷ []) ∷ Assumptions [] ∷ Model (1 ∷ 2 ∷ []) ∷ Assumptions [] ∷ End ∷ [])

-- `TwoUnitsSteps` holds if the steps for name 1 and for the clauses `1` and `-1` match the script `1 0`, `-1 0`, `a 0`
-- with the empty core: the second clause records unsat, so the steps end there.
abbrev pub TwoUnitsSteps : Type 0
TwoUnitsSteps = StepsMatch checker_rules two_unit_commands (Unsat [] ∷ []) (UserVarName 0 (Some 0) ∷ AddClause (0 ∷ []) ∷ AddClause (1 ∷ []) ∷ [])

-- `ClauseAndAskMatches` holds if the steps of `ClauseAndAskSteps`, as bytes of a certificate, match the script `1 2 0`,
-- `a 0` and the answers `s SATISFIABLE`, `v -1 2 0`, whatever bytes follow the last step.
abbrev pub ClauseAndAskMatches : Type 0
ClauseAndAskMatches = (rest : List ℕ)
    → MatchesCommands checker_rules clause_and_ask Clean clause_and_ask_text
    (2 ∷ 0 ∷ 1 ∷ 2 ∷ 1 ∷ 2 ∷ 5 ∷ 2 ∷ 0 ∷ 2 ∷ 11 ∷ 0 ∷ 10 ∷ 2 ∷ 1 ∷ 2 ∷ 11 ∷ 0 ∷ 13 ∷ rest)

-- `TwoUnitsMatches` holds if the steps of `TwoUnitsSteps`, as bytes of a certificate, match the script `1 0`, `-1 0`,
-- `a 0` and the answers `s UNSATISFIABLE`, `f 0`, whatever bytes follow the step of the second clause.
abbrev pub TwoUnitsMatches : Type 0
TwoUnitsMatches = (rest : List ℕ)
    → MatchesCommands checker_rules two_unit_commands Clean
    (115 ∷ 32 ∷ 85 ∷ 78 ∷ 83 ∷ 65 ∷ 84 ∷ 73 ∷ 83 ∷ 70 ∷ 73 ∷ 65 ∷ 66 ∷ 76 ∷ 69 ∷ 10 ∷ 102 ∷ 32 ∷ 48 ∷ 10 ∷ [])
    (2 ∷ 0 ∷ 1 ∷ 5 ∷ 1 ∷ 0 ∷ 5 ∷ 1 ∷ 1 ∷ rest)

-- `EmptyMatches` holds if a script without commands matches empty answers and any certificate that begins with the step
-- `End`.
abbrev pub EmptyMatches : Type 0
EmptyMatches = (rest : List ℕ) → MatchesCommands checker_rules [] Clean [] (13 ∷ rest)

-- `NameOnOldVariable` holds if no outcomes match the script `1 0`, `h 1 0`, `-1 0`, `a 0` with steps that give name 1
-- its old proof variable 0 again after it was hidden, whichever steps a checker accepts and whenever it records unsat.
abbrev pub NameOnOldVariable : Type 0
NameOnOldVariable = (accepts : List Step → Step → Bool) (unsat : List Step → Bool) (outcomes : List Outcome)
    → StepsMatch (record {
      Accepts = λ earlier step. accepts earlier step ≡ true;
      unsat = unsat;
      knows = λ earlier v. is_known v (ready_after earlier);
    }) hidden_and_back outcomes
    (UserVarName 0 (Some 0) ∷ AddClause (0 ∷ []) ∷ UserVarName 0 None ∷ ChangeSamplingMode 0 true
    ∷ UserVarName 0 (Some 0) ∷ AddClause (1 ∷ []) ∷ End ∷ [])
    → ⊥

-- `EndAloneDoesNotMatch` holds if the single step `End` does not match the script `1 0`, `a 0`, whatever its outcomes
-- are.
abbrev pub EndAloneDoesNotMatch : Type 0
EndAloneDoesNotMatch = (outcomes : List Outcome) → StepsMatch checker_rules (Clause (pos 1 ∷ []) ∷ Ask [] ∷ []) outcomes (End ∷ []) → ⊥

-- `NoAnswers` holds if empty answers do not match the script `1 2 0`, `a 0`, whatever the certificate is.
abbrev pub NoAnswers : Type 0
NoAnswers = (certificate : List ℕ) → MatchesCommands checker_rules clause_and_ask Clean [] certificate → ⊥

-- `AnswersTwice` holds if the correct answers `s SATISFIABLE`, `v -1 2 0` written twice do not match the script `1 2
-- 0`, `a 0`, whatever the certificate is.
abbrev pub AnswersTwice : Type 0
AnswersTwice = (certificate : List ℕ) → MatchesCommands checker_rules clause_and_ask Clean (clause_and_ask_text ++ clause_and_ask_text) certificate → ⊥

-- `ClauseAndAskCertified` holds if a run may write the steps of `ClauseAndAskSteps` for the script `1 2 0`, `a 0` with
-- the model `-1 2`, when its ask took one round. The list has the newest step first.
abbrev pub ClauseAndAskCertified : Type 0
ClauseAndAskCertified = Certifies checker_rules
    (End ∷ Assumptions [] ∷ Model (1 ∷ 2 ∷ []) ∷ Assumptions [] ∷ AddClause (0 ∷ 2 ∷ []) ∷ UserVarName 1 (Some 1) ∷ UserVarName 0 (Some 0) ∷ [])
    None [] (expected_steps initial_state clause_and_ask (Sat (neg 1 ∷ pos 2 ∷ []) ∷ [])) (1 ∷ [])

-- the commands of the script `1 0`, `-1 0`, `2 0`, `a 0`: the second clause records unsat, so that a run leaves out the
-- steps of the third clause and of the core, but not those of name 2 and of the ask
abbrev pub units_and_ask : List Command
units_and_ask = Clause (pos 1 ∷ []) ∷ Clause (neg 1 ∷ []) ∷ Clause (pos 2 ∷ []) ∷ Ask [] ∷ []

-- the steps of a run for `1 0`, `-1 0`, `2 0`, `a 0`, the newest first: name 1, the first two clauses, name 2, the ask
-- opened and closed, and the end
abbrev pub units_and_ask_steps : List Step
units_and_ask_steps = End ∷ Assumptions [] ∷ Assumptions [] ∷ UserVarName 1 (Some 1)
    ∷ AddClause (1 ∷ []) ∷ AddClause (0 ∷ []) ∷ UserVarName 0 (Some 0) ∷ []

-- `LeftOutCertified` holds if a run may write `units_and_ask_steps` for the script `1 0`, `-1 0`, `2 0`, `a 0` with the
-- empty core, when its ask took no round.
abbrev pub LeftOutCertified : Type 0
LeftOutCertified = Certifies checker_rules units_and_ask_steps None [] (expected_steps initial_state units_and_ask (Unsat [] ∷ [])) (0 ∷ [])

-- `KnownWithoutRounds` holds if a run may write `units_and_ask_steps` for the script `1 0`, `-1 0`, `2 0`, `a 0` only
-- if the outcome of its ask is the empty core, and the ask took no round.
abbrev pub KnownWithoutRounds : Type 0
KnownWithoutRounds = (o : Outcome) (n : ℕ)
    → Certifies checker_rules units_and_ask_steps None [] (expected_steps initial_state units_and_ask (o ∷ [])) (n ∷ []) → (o ≡ Unsat []) × (n ≡ 0)

-- The commands of the script `1 0`, `-1 2 0`, `-2 0`, `3 0`, `a 0`. No valuation satisfies the first three clauses, but
-- none of them makes a checker record unsat. So the steps include the fourth clause and a derived clause.
abbrev pub chain_and_ask : List Command
chain_and_ask = Clause (pos 1 ∷ []) ∷ Clause (neg 1 ∷ pos 2 ∷ []) ∷ Clause (neg 2 ∷ []) ∷ Clause (pos 3 ∷ []) ∷ Ask [] ∷ []

-- the steps for the names and clauses of `1 0`, `-1 2 0`, `-2 0`, `3 0`, the newest first
abbrev pub chain_steps : List Step
chain_steps = AddClause (4 ∷ []) ∷ UserVarName 2 (Some 2) ∷ AddClause (3 ∷ []) ∷ AddClause (1 ∷ 2 ∷ [])
    ∷ UserVarName 1 (Some 1) ∷ AddClause (0 ∷ []) ∷ UserVarName 0 (Some 0) ∷ []

-- `ChainCertified` holds if a run may write, after `chain_steps`, an ask without literals that derives the empty
-- clause, its end and the end of the proof, for the script `chain_and_ask` with the empty core, when the ask took one
-- round.
abbrev pub ChainCertified : Type 0
ChainCertified = (hashes : List ℕ) → Certifies checker_rules (End ∷ Assumptions [] ∷ AtClause false [] hashes ∷ Assumptions [] ∷ chain_steps) None []
    (expected_steps initial_state chain_and_ask (Unsat [] ∷ [])) (1 ∷ [])

-- `UnknownUncertified` holds if a run may not write these steps for the script `chain_and_ask` with an unknown outcome:
-- after `chain_steps`, its ask derives the empty clause, which records unsat.
abbrev pub UnknownUncertified : Type 0
UnknownUncertified = (hashes counts : List ℕ)
    → Certifies checker_rules (End ∷ Assumptions [] ∷ AtClause false [] hashes ∷ Assumptions [] ∷ chain_steps) None []
    (expected_steps initial_state chain_and_ask (Unknown ∷ [])) counts → ⊥

-- `EarlyUncertified` holds if a run may not write the steps of the script `chain_and_ask` with the empty core without
-- that of its fourth clause, `3`: unsat is not recorded before it.
abbrev pub EarlyUncertified : Type 0
EarlyUncertified = (counts : List ℕ) → Certifies checker_rules
    (End ∷ Assumptions [] ∷ Assumptions [] ∷ UserVarName 2 (Some 2) ∷ AddClause (3 ∷ []) ∷ AddClause (1 ∷ 2 ∷ [])
    ∷ UserVarName 1 (Some 1) ∷ AddClause (0 ∷ []) ∷ UserVarName 0 (Some 0) ∷ [])
    None [] (expected_steps initial_state chain_and_ask (Unsat [] ∷ [])) counts → ⊥

-- `CoreUncertified` holds if a run may not show the core `1` for the script `1 0`, `-1 0`, `a 1 0`, whatever steps
-- follow the assumption of literal `1`: unsat is recorded, so the core must be empty.
abbrev pub CoreUncertified : Type 0
CoreUncertified = (shown : List Step) (counts : List ℕ)
    → Certifies checker_rules (shown ++ Assumptions (0 ∷ []) ∷ AddClause (1 ∷ []) ∷ AddClause (0 ∷ []) ∷ UserVarName 0 (Some 0) ∷ []) None []
    (expected_steps initial_state (Clause (pos 1 ∷ []) ∷ Clause (neg 1 ∷ []) ∷ Ask (pos 1 ∷ []) ∷ []) (Unsat (pos 1 ∷ []) ∷ [])) counts → ⊥

-- `EndAloneUncertified` holds if a run may not write the single step `End` for the script `1 0`, `a 0`, whatever its
-- outcomes and rounds are.
abbrev pub EndAloneUncertified : Type 0
EndAloneUncertified = (outcomes : List Outcome) (counts : List ℕ)
    → Certifies checker_rules (End ∷ []) None [] (expected_steps initial_state (Clause (pos 1 ∷ []) ∷ Ask [] ∷ []) outcomes) counts → ⊥

-- `ClauseUncertified` holds if a run may not write only the steps for name 1 and the end for the script `1 0`: the step
-- of its clause is missing.
abbrev pub ClauseUncertified : Type 0
ClauseUncertified = (counts : List ℕ)
    → Certifies checker_rules (End ∷ UserVarName 0 (Some 0) ∷ []) None [] (expected_steps initial_state (Clause (pos 1 ∷ []) ∷ []) []) counts → ⊥

-- `ModelUncertified` holds if a run may not write, for the script `a 0` with the empty model, only the ask opened and
-- closed, and the end: the step that shows the model is missing.
abbrev pub ModelUncertified : Type 0
ModelUncertified = (counts : List ℕ)
    → Certifies checker_rules (End ∷ Assumptions [] ∷ Assumptions [] ∷ []) None [] (expected_steps initial_state (Ask [] ∷ []) (Sat [] ∷ [])) counts → ⊥

-- `AfterEndUncertified` holds if a run may not write any step after `End` for a script without commands.
abbrev pub AfterEndUncertified : Type 0
AfterEndUncertified = (step : Step) (counts : List ℕ) → Certifies checker_rules (step ∷ End ∷ []) None [] (expected_steps initial_state [] []) counts → ⊥
