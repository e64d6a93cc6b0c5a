-- The lines of answers, and the answers to a script. Bytes are ASCII codes: 10 is LF, 32 a space, 45 `-`, 48 `0`.
use Rattle.std.specs.Prelude.{ℕ, ◌+◌, Option, Some, None, List, [], ◌∷◌, ◌++◌, decimal, if◌then◌else◌}
use Rattle.sat_base.specs.script.Script.{Literal, Command, Ask, ScriptEnding, Clean, Malformed}
use Rattle.sat_checker.specs.matching.Expected.{Outcome, Sat, Unsat, Unknown}
use Rattle.sat_base.specs.script.ScriptState.{ScriptState, Refusal, PastLimit, WitnessName, refusal_of, after_command, initial_state}

-- the text of a literal: `-` if it is negative, and its name
abbrev pub literal_text : Literal → List ℕ
literal_text l = (if l.positive then [] else 45 ∷ []) ++ decimal l.name

-- the text of literals: each literal with a space after it, then `0` and LF
abbrev pub literals_text : List Literal → List ℕ
literals_text [] = 48 ∷ 10 ∷ []
literals_text (l ∷ ls) = literal_text l ++ (32 ∷ literals_text ls)

-- the first line of an answer that has a model: `s SATISFIABLE` and LF
abbrev pub s_satisfiable : List ℕ
s_satisfiable = 115 ∷ 32 ∷ 83 ∷ 65 ∷ 84 ∷ 73 ∷ 83 ∷ 70 ∷ 73 ∷ 65 ∷ 66 ∷ 76 ∷ 69 ∷ 10 ∷ []

-- the first line of an answer that has a core: `s UNSATISFIABLE` and LF
abbrev pub s_unsatisfiable : List ℕ
s_unsatisfiable = 115 ∷ 32 ∷ 85 ∷ 78 ∷ 83 ∷ 65 ∷ 84 ∷ 73 ∷ 83 ∷ 70 ∷ 73 ∷ 65 ∷ 66 ∷ 76 ∷ 69 ∷ 10 ∷ []

-- the only line of an answer whose rounds were exhausted: `s UNKNOWN` and LF
abbrev pub s_unknown : List ℕ
s_unknown = 115 ∷ 32 ∷ 85 ∷ 78 ∷ 75 ∷ 78 ∷ 79 ∷ 87 ∷ 78 ∷ 10 ∷ []

-- the second line of an answer that has a model: `v LITS 0` and LF
abbrev pub v_line : List Literal → List ℕ
v_line line = 118 ∷ 32 ∷ literals_text line

-- the second line of an answer that has a core: `f LITS 0` and LF
abbrev pub f_line : List Literal → List ℕ
f_line core = 102 ∷ 32 ∷ literals_text core

-- the answer lines for one outcome: an `s` line and, unless it is unknown, a `v` or `f` line
abbrev pub outcome_text : Outcome → List ℕ
outcome_text (Sat line) = s_satisfiable ++ v_line line
outcome_text (Unsat core) = s_unsatisfiable ++ f_line core
outcome_text Unknown = s_unknown

-- the reason for a refusal, `limit` or `witness V`, and LF
abbrev pub refusal_text : Refusal → List ℕ
refusal_text PastLimit = 108 ∷ 105 ∷ 109 ∷ 105 ∷ 116 ∷ 10 ∷ []
refusal_text (WitnessName name) = 119 ∷ 105 ∷ 116 ∷ 110 ∷ 101 ∷ 115 ∷ 115 ∷ 32 ∷ decimal name ++ 10 ∷ []

-- the answer line for the refused command with number `k`: `c refused K`, a space, and the reason
abbrev pub refused_line : ℕ → Refusal → List ℕ
refused_line k refusal = 99 ∷ 32 ∷ 114 ∷ 101 ∷ 102 ∷ 117 ∷ 115 ∷ 101 ∷ 100 ∷ 32 ∷ decimal k ++ 32 ∷ refusal_text refusal

-- the answer line for a text that is malformed at command `k`: `c malformed K` and LF
abbrev pub malformed_line : ℕ → List ℕ
malformed_line k = 99 ∷ 32 ∷ 109 ∷ 97 ∷ 108 ∷ 102 ∷ 111 ∷ 114 ∷ 109 ∷ 101 ∷ 100 ∷ 32 ∷ decimal k ++ 10 ∷ []

-- the last line if the script is malformed at command `k`, otherwise nothing
abbrev pub ending_text : ℕ → ScriptEnding → List ℕ
ending_text k Clean = []
ending_text k Malformed = malformed_line k

-- the answer lines for the command with number `k`: the refusal's line if it is refused, the text of the first outcome
-- if it is an accepted ask, and otherwise none
abbrev pub answer_to_command : ℕ → Option Refusal → Command → List Outcome → List ℕ
answer_to_command k (Some refusal) command outcomes = refused_line k refusal
answer_to_command k None (Ask ls) (o ∷ os) = outcome_text o
answer_to_command k None command outcomes = []

-- the outcomes without the first if the command is an accepted ask (no refusal), otherwise all of them
abbrev pub outcomes_left : Option Refusal → Command → List Outcome → List Outcome
outcomes_left None (Ask ls) (o ∷ os) = os
outcomes_left refusal command outcomes = outcomes

-- the answers to commands, the first of which has number `k`, and to the ending of the script; `j` is the state before
-- them, and each accepted ask consumes one outcome
abbrev pub answers_from : ℕ → ScriptState → List Command → ScriptEnding → List Outcome → List ℕ
answers_from k j [] ending outcomes = ending_text k ending
answers_from k j (command ∷ commands) ending outcomes =
    answer_to_command k (refusal_of j command) command outcomes
    ++ answers_from (k + 1) (after_command command j) commands ending (outcomes_left (refusal_of j command) command outcomes)

-- the answers to a script with these commands and this ending, where each accepted ask consumes one outcome, in order
abbrev pub answers_text : List Command → ScriptEnding → List Outcome → List ℕ
answers_text = answers_from 1 initial_state
