-- The events of a script. One walk over the commands gives them, and they determine the lines of answers and which
-- outcomes are correct.
use Rattle.std.specs.Prelude.{ℕ, ◌+◌, Option, Some, None, List, [], ◌∷◌, ◌++◌}
use Rattle.sat_base.specs.script.Script.{Literal, Command, Ask, ScriptEnding, Clean, Malformed}
use Rattle.sat_base.specs.script.ScriptState.{Refusal}
use Rattle.certify.specs.answers.ScriptText.{parse_script}
use Rattle.sat_checker.specs.matching.Expected.{Outcome}
use Rattle.certify.specs.answers.ScriptNames.{ScriptState, refusal_of, after_command, initial_state, IsRight}

-- something that the answers report: a refused command, an accepted ask, or the end of a malformed script
pub data Event : Type 0 where
  Refused : ℕ → Refusal → Event  -- the number of the command, and why it is refused
  Asked : ScriptState → List Literal → Event  -- the state after the names of the ask were introduced, and its literals
  MalformedAt : ℕ → Event  -- the number of the malformed command

-- the event of the command with number `k`, if it has one; `state` is the state after the command
abbrev pub event_of : ℕ → Option Refusal → Command → ScriptState → List Event
event_of k (Some refusal) command state = Refused k refusal ∷ []
event_of k None (Ask ls) state = Asked state ls ∷ []
event_of k None command state = []

-- the events of commands, the first of which has number `k`, and of the end of the script; `state` is the state before
-- them
abbrev pub events : ℕ → ScriptState → List Command → ScriptEnding → List Event
events k state [] Clean = []
events k state [] Malformed = MalformedAt k ∷ []
events k state (command ∷ commands) ending =
    event_of k (refusal_of state command) command (after_command command state) ++ events (k + 1) (after_command command state) commands ending

-- `EachIsRight events outcomes` holds if there is one outcome for each ask among the events, in order, and each outcome
-- is a correct model, a correct core, or unknown.
abbrev pub EachIsRight : List Event → List Outcome → Type 0
EachIsRight [] [] = Unit {0}
EachIsRight (Refused k refusal ∷ events) outcomes = EachIsRight events outcomes
EachIsRight (MalformedAt k ∷ events) outcomes = EachIsRight events outcomes
EachIsRight (Asked state ls ∷ events) (o ∷ outcomes) = IsRight state ls o × EachIsRight events outcomes
EachIsRight events outcomes = ⊥

-- the events of a script, given its text, in order
abbrev pub events_in : List ℕ → List Event
events_in text = events 1 initial_state (parse_script text).0 (parse_script text).1

-- the number of refused commands among the events
abbrev pub refusals_among : List Event → ℕ
refusals_among [] = 0
refusals_among (Refused k refusal ∷ events) = 1 + refusals_among events
refusals_among (MalformedAt k ∷ events) = refusals_among events
refusals_among (Asked state ls ∷ events) = refusals_among events

-- for each ask among the events, the number of variables created so far, including hidden ones, once its names were
-- introduced
abbrev pub variables_at : List Event → List ℕ
variables_at [] = []
variables_at (Refused k refusal ∷ events) = variables_at events
variables_at (MalformedAt k ∷ events) = variables_at events
variables_at (Asked state ls ∷ events) = state.identity_count ∷ variables_at events
