-- The text of answers, in as few definitions as possible.
use Rattle.std.specs.Prelude.{ℕ, List, [], ◌∷◌, ◌++◌, decimal, codes, if◌then◌else◌}
use Rattle.sat_base.specs.script.Script.{Literal}
use Rattle.sat_checker.specs.matching.Expected.{Outcome, Sat, Unsat, Unknown}
use Rattle.sat_base.specs.script.ScriptState.{Refusal, PastLimit, WitnessName}
use Rattle.certify.specs.answers.Events.{Event, Refused, Asked, MalformedAt}

-- the line of literals: for each literal, `-` if it is negative, its name and a space; at the end, `0` and LF
abbrev pub literals_line : List Literal → List ℕ
literals_line [] = codes "0\n"
literals_line (l ∷ ls) = ((if l.positive then [] else codes "-") ++ decimal l.name) ++ (codes " " ++ literals_line ls)

-- the answer lines for one outcome: an `s` line and, unless it is unknown, a `v` or `f` line with its literals
abbrev pub outcome_lines : Outcome → List ℕ
outcome_lines (Sat line) = codes "s SATISFIABLE\nv " ++ literals_line line
outcome_lines (Unsat core) = codes "s UNSATISFIABLE\nf " ++ literals_line core
outcome_lines Unknown = codes "s UNKNOWN\n"

-- the answer line for the refused command with number `k`: `c refused K limit` or `c refused K witness V`
abbrev pub refusal_line : ℕ → Refusal → List ℕ
refusal_line k PastLimit = codes "c refused " ++ (decimal k ++ codes " limit\n")
refusal_line k (WitnessName name) = codes "c refused " ++ (decimal k ++ (codes " witness " ++ (decimal name ++ codes "\n")))

-- The lines of events. An ask has the lines of the next outcome, and every other event has one line. An ask without an
-- outcome has none, and surplus outcomes are ignored; `EachIsRight` excludes both.
abbrev pub event_lines : List Event → List Outcome → List ℕ
event_lines [] outcomes = []
event_lines (Refused k refusal ∷ events) outcomes = refusal_line k refusal ++ event_lines events outcomes
event_lines (MalformedAt k ∷ events) outcomes = codes "c malformed " ++ (decimal k ++ (codes "\n" ++ event_lines events outcomes))
event_lines (Asked state ls ∷ events) [] = event_lines events []
event_lines (Asked state ls ∷ events) (o ∷ outcomes) = outcome_lines o ++ event_lines events outcomes
