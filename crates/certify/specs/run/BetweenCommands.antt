-- The state of a run between commands, and the effect of a command.
use Rattle.std.specs.Prelude.{ℕ, ◌+◌, ◌≤◌, ◌≡◌, None, List, [], ◌∷◌, ◌++◌, IfErr, OnErr, Result, MatchResult}
use Rattle.sat_base.specs.device.Device.{Writer, WriterAccepts}
use Rattle.sat_base.specs.script.Script.{Command}
use Rattle.sat_base.specs.script.ScriptState.{ScriptState, Refusal, state_after_accepted, after_command, refusal_of}
use Rattle.sat_checker.specs.matching.Bridge.{LiveVariables}
use Rattle.sat_solver.specs.facade.Calls.{HasFullStore, MakesSteps}
use Rattle.sat_solver.specs.facade.Recording.{FailsWhileWriting}
use Rattle.sat_solver.specs.facade.States.{IsInState}
use Rattle.certify.specs.Devices.{NoWriterCallFailed, OneWriterCallFailed}
use Rattle.certify.specs.answers.AnswerForms.{named_literals}
use Rattle.certify.specs.answers.Answers.{refused_line}
use Rattle.certify.specs.declared.fault.RunFault.{RunFault}
use Rattle.certify.specs.declared.refusals.names.Names.{Names}
use Rattle.certify.specs.declared.script.Command.{Command as Lent}
use Rattle.certify.specs.declared.run.session.RunState.{RunState}
use Rattle.certify.specs.declared.summary.AskReport.{AskReport}
use Rattle.certify.specs.refusals.Names.{NamesHaveState}
use Rattle.sat_base.specs.script.ScriptStateLaws.{ScriptStateInvariant}
use Rattle.certify.specs.script.Commands.{kind_of}
use Rattle.sat_base.specs.script.Language.{Reading, command_of, prepend_commands}
use Rattle.certify.specs.run.Stopping.{StopsServing}
use Rattle.certify.specs.run.Unfinished.{ExceedsLimit}
use Rattle.certify.specs.run.SolverCalls.{ByWriteFault, IsCaused, IsReadySolver, LacksVariablesFor}
use Rattle.certify.specs.run.Serving.{RunPlace, Serves}
use Rattle.certify.specs.run.RunSolver.{Solver}

-- `AgreesWithState s j live` holds if `j` is the script state of the solver `s`, `live` are its live proof variables,
-- and `j` satisfies the invariant of script states.
pub record AgreesWithState (s : Solver) (j : ScriptState) (live : LiveVariables) : Type 0 where
  pub agree : IsInState s j live
  pub kept : ScriptStateInvariant j

-- `HasStateBetweenCommands s j` holds if both the solver of the run and its table of names and modes are in the script
-- state `j`, as they are between commands.
pub record HasStateBetweenCommands {C : Type 0} (s : RunState C) (j : ScriptState) : Type 0 where
  pub live : LiveVariables
  pub means : AgreesWithState s.solver j live
  pub names : NamesHaveState s.names j

-- `RunInvariant s` holds if the run is between commands, in some script state, its solver is ready (`IsReadySolver`)
-- and has no assumptions, and it refused at most as many commands as it counted.
pub record RunInvariant {C : Type 0} (s : RunState C) : Type 0 where
  pub ready : IsReadySolver s.solver
  pub free : s.solver.assumptions ≡ []
  pub counted : s.refused ≤ s.commands
  pub judge : ScriptState
  pub at : HasStateBetweenCommands s judge

-- the place of a run between commands, in the script state `j`: the next command is the one after the `s.commands`
-- counted so far
abbrev pub run_place : {C : Type 0} → RunState C → ScriptState → RunPlace
run_place s j = record { judge = j; number = s.commands + 1; steps = s.solver.steps; rounds = s.solver.clock.rounds }

-- the place of a run in the script state `j` before its latest command, number `s.commands`, which was counted but not
-- processed yet
abbrev pub place_before_latest : {C : Type 0} → RunState C → ScriptState → RunPlace
place_before_latest s j = record { judge = j; number = s.commands; steps = s.solver.steps; rounds = s.solver.clock.rounds }

-- the command that the value `lent` of the code represents, if all of its names are within the limit
abbrev pub command_of_lent : Lent → Command
command_of_lent lent = command_of (kind_of lent.kind) (named_literals lent.literals.now)

-- `NamesAcceptCommand names c` holds if the command `c` is not refused in any script state that the table `names`
-- represents.
abbrev pub NamesAcceptCommand : Names → Command → Type 0
NamesAcceptCommand names c = (j : ScriptState) → NamesHaveState names j → refusal_of j c ≡ None

-- `CommandCarriedOut old new c before after` holds if the solver carried out the latest command `c`, and its answer, if
-- any, was written between the states `before` and `after` of the answers' writer. The effect on the table of names is
-- not part of this; the solver's is only stated for script states that accept `c`.
pub record CommandCarriedOut {C : Type 0} (old new : RunState C) (c : Command) (before after : Writer) : Type 0 where
  pub ready : IsReadySolver new.solver
  pub free : new.solver.assumptions ≡ []
  pub took : MakesSteps old.solver new.solver
  pub commands : new.commands ≡ old.commands
  pub refused : new.refused ≡ old.refused
  pub budget : new.budget ≡ old.budget
  pub text : List ℕ
  pub written : WriterAccepts before after text
  pub reports : List AskReport
  pub asks : new.asks.items ≡ old.asks.items ++ reports
  pub serves : (j : ScriptState) (live : LiveVariables) → AgreesWithState old.solver j live → refusal_of j c ≡ None
      → (then : LiveVariables) × IsInState new.solver (state_after_accepted c j) then
      × Serves old.budget (place_before_latest old j) (run_place new (state_after_accepted c j)) (c ∷ []) text reports 0

-- `CommandRefused old new why before after` holds if the latest command was refused: the line with its number and the
-- reason `why` was written between `before` and `after`, and only the count of refused commands changed.
pub record CommandRefused {C : Type 0} (old new : RunState C) (why : Refusal) (before after : Writer) : Type 0 where
  pub written : WriterAccepts before after (refused_line old.commands why)
  pub solver : new.solver ≡ old.solver
  pub names : new.names ≡ old.names
  pub commands : new.commands ≡ old.commands
  pub refused : new.refused ≡ old.refused + 1
  pub budget : new.budget ≡ old.budget
  pub asks : new.asks ≡ old.asks

-- `CommandServed old new c before after` holds if the next command `c` was served: it was counted, and refused or
-- carried out, its answer was written between `before` and `after`, and `RunInvariant` holds again.
pub record CommandServed {C : Type 0} (old new : RunState C) (c : Command) (before after : Writer) : Type 0 where
  pub goes_on : RunInvariant new
  pub took : MakesSteps old.solver new.solver
  pub commands : new.commands ≡ old.commands + 1
  pub budget : new.budget ≡ old.budget
  pub text : List ℕ
  pub written : WriterAccepts before after text
  pub reports : List AskReport
  pub asks : new.asks.items ≡ old.asks.items ++ reports
  pub refused : ℕ
  pub refusals : new.refused ≡ old.refused + refused
  pub serves : (j : ScriptState) → HasStateBetweenCommands old j
      → HasStateBetweenCommands new (after_command c j) × Serves old.budget (run_place old j) (run_place new (after_command c j)) (c ∷ []) text reports refused

-- `StopsInCommand r old new c left before after` holds if `r` is `Ok`, or the writer received, between `before` and
-- `after`, a prefix of correct answers to the latest command `c` and to the rest `left` of the script (`StopsServing`).
-- This is only stated for script states that accept `c`.
abbrev pub StopsInCommand : {T C : Type 0} → Result T RunFault → RunState C → RunState C → Command → Reading → Writer → Writer → Type 0
StopsInCommand r old new c left before after =
    OnErr r ((j : ScriptState) (live : LiveVariables) → AgreesWithState old.solver j live → refusal_of j c ≡ None
    → StopsServing old.budget (place_before_latest old j) (prepend_commands (c ∷ []) left) new.solver.steps before after)

-- `StopsInScript r old new script before after` holds if `r` is `Ok`, or the writer received, between `before` and
-- `after`, a prefix of correct answers to `script`, the rest of the script at `old` (`StopsServing`).
abbrev pub StopsInScript : {T C : Type 0} → Result T RunFault → RunState C → RunState C → Reading → Writer → Writer → Type 0
StopsInScript r old new script before after =
    OnErr r ((j : ScriptState) → HasStateBetweenCommands old j → StopsServing old.budget (run_place old j) script new.solver.steps before after)

-- `IsCausedByCommand r old new c` holds if `r` is `StoreFull` only if the clause buffer is full, and `CounterEnd` only
-- if the command `c` lacks variables for its names (`LacksVariablesFor`).
abbrev pub IsCausedByCommand : {T C : Type 0} → Result T RunFault → RunState C → RunState C → Command → Type 0
IsCausedByCommand r old new c = IfErr r (λ e. IsCaused e (HasFullStore new.solver) (LacksVariablesFor old.solver new.solver c))

-- `IsCausedByScript r old new script` holds if `r` is `StoreFull` only if the clause buffer is full, and `CounterEnd`
-- only if `script`, the rest of the script at `old`, exceeds a limit (`ExceedsLimit`).
abbrev pub IsCausedByScript : {T C : Type 0} → Result T RunFault → RunState C → RunState C → Reading → Type 0
IsCausedByScript r old new script =
    IfErr r (λ e. IsCaused e (HasFullStore new.solver) ((j : ScriptState) → HasStateBetweenCommands old j → ExceedsLimit old.commands j script new.solver.steps))

-- `WritesBoth r before after old new` holds if a part of a run wrote to the answers' writer, between `before` and
-- `after`, and to the certificate, between the solver's states `old` and `new`. Exactly one call of a writer failed,
-- the last, if the fault in `r` names that writer, and none otherwise.
abbrev pub WritesBoth : {T : Type 0} → Result T RunFault → Writer → Writer → Solver → Solver → Type 0
WritesBoth r before after old new = MatchResult r
    (λ _. NoWriterCallFailed before after × MakesSteps old new)
    (λ e. ByWriteFault e (OneWriterCallFailed before after × MakesSteps old new)
    (NoWriterCallFailed before after × FailsWhileWriting old new)
    (NoWriterCallFailed before after × MakesSteps old new))
